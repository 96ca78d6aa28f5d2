-- What each change of the engine's tables does to the state that they stand for.
use Rattle.std.proofs.Common.{◌≡◌, ℕ, ◌<◌, Bool, true, false, cond, ◌⊎◌, List, [], length, set, Some, None, Option, unwrap_or, sym, refl, ap, ◌∙◌, subst, inl, inr, arith}
use Rattle.std.specs.Option.{option_map}
use Rattle.std.proofs.lemmas.Bool.{cases_eq, eq-eqb, ne_eqb}
use Rattle.ranges.specs.Says.{among, Removes, Alters}
use Rattle.ranges.specs.Tables.{said}
use Rattle.pagers.specs.Meaning.{Meaning}
use Rattle.machine.specs.declared.words.Entry.{Entry}
use Rattle.machine.specs.Entries.{entry_shape}
use Rattle.machine.specs.State.{State, table}
use Rattle.machine.specs.Step.{with_task}
use Rattle.objects.specs.declared.tables.Tables.{Tables}
use Rattle.objects.specs.View.{in_use, is_held, walk_end, SoundTables}
use Rattle.objects.proofs.Effects.{frame_held}
use Rattle.tasks.specs.Tables.{Place, shown}
use Rattle.relation.specs.Living.{Names, Living, WithinCells, Quiet}
use Rattle.relation.specs.Stands.{place_of, table_of, tables_of, is_record_named, RecordsNamed, frame_of, Stands}
use Rattle.relation.specs.Sweeps.{Swept, Cleared}
use Rattle.relation.proofs.Keeping.{keeps}
use Rattle.relation.proofs.Rows.{SameTasks, same_put}
use Rattle.relation.proofs.Named.{living_named}

-- Tables of a state with one task replaced

pub table_same : (s : State) (n : ℕ) (o : Option (List Entry)) → table (with_task s n o) n ≡ unwrap_or o []
unfolding table with_task
table_same s n o = rw (eq-eqb n n refl) refl

pub table_other : (s : State) (n : ℕ) (o : Option (List Entry)) (u : ℕ) → (u ≡ n → ⊥) → table (with_task s n o) u ≡ table s u
unfolding table with_task
table_other s n o u ne = rw (ne_eqb u n ne) refl

-- the living cells of a state with one task replaced
living_back : (s : State) (n : ℕ) (x : Place) → WithinCells (table_of x) (table s n) → (r i : ℕ) → Living (table (with_task s n (shown x))) r i → Living (table s) r i
living_back s n x within r i l = go (cases_eq l.task n)
  where
    go : (l.task ≡ n) ⊎ (l.task ≡ n → ⊥) → Living (table s) r i
    go (inl e) = record {
      task = n;
      page = l.page;
      names = within l.page r i (subst (λ es. Names es l.page r i) (ap (table (with_task s n (shown x))) e ∙ table_same s n (shown x)) l.names);
    }
    go (inr ne) = record { task = l.task; page = l.page; names = subst (λ es. Names es l.page r i) (table_other s n (shown x) l.task ne) l.names }

living_on : (s : State) (n : ℕ) (x : Place) → WithinCells (table s n) (table_of x) → (r i : ℕ) → Living (table s) r i → Living (table (with_task s n (shown x))) r i
living_on s n x within r i l = go (cases_eq l.task n)
  where
    go : (l.task ≡ n) ⊎ (l.task ≡ n → ⊥) → Living (table (with_task s n (shown x))) r i
    go (inl e) = record {
      task = n;
      page = l.page;
      names = subst (λ es. Names es l.page r i) (sym (table_same s n (shown x))) (within l.page r i (subst (λ es. Names es l.page r i) (ap (table s) e) l.names));
    }
    go (inr ne) = record { task = l.task; page = l.page; names = subst (λ es. Names es l.page r i) (sym (table_other s n (shown x) l.task ne)) l.names }

-- the machine's tables are those of the rows
pub living_rows : (tasks : List Place) (s : State) → SameTasks tasks s → (r i : ℕ) → Living (table s) r i → Living (tables_of tasks) r i
unfolding table
living_rows tasks s h r i l = record { task = l.task; page = l.page; names = subst (λ es. Names es l.page r i) (ap (λ o. unwrap_or o []) (h l.task)) l.names }

pub rows_living : (tasks : List Place) (s : State) → SameTasks tasks s → (r i : ℕ) → Living (tables_of tasks) r i → Living (table s) r i
unfolding table
rows_living tasks s h r i l = record { task = l.task; page = l.page; names = subst (λ es. Names es l.page r i) (ap (λ o. unwrap_or o []) (sym (h l.task))) l.names }

-- A call that changes tables alone, and names the same cells

pub stands_retabled : (F : ℕ) (tasks : List Place) (t : Tables) (memory : List ℕ) (M : Meaning) (s : State) (n k : ℕ) (x : Place) →
    Stands F tasks t memory M s → place_of n ≡ Some k → k < length tasks → WithinCells (table_of x) (table s n) → WithinCells (table s n) (table_of x) →
    Stands F (set tasks k x) t memory M (with_task s n (shown x))
unfolding with_task
stands_retabled F tasks t memory M s n k x h p lt back on =
    let m = h.mirror in
    record {
      frames = h.frames;
      same = same_put tasks s n k x h.same p lt;
      mark = h.mark;
      mirror = record {
        shows = λ r i l. m.shows r i (living_back s n x back r i l);
        holds = λ r i j l. m.holds r i j (living_back s n x back r i l);
        reached = λ j held. let y = m.reached j held in (y.0, y.1, living_on s n x on y.0 y.1 y.2, y.3);
        single = m.single;
        earlier = m.earlier;
      };
    }

-- A call that takes cells from a task, closes what no entry names and frees what no walk reaches

pub stands_less : (F : ℕ) (tasks : List Place) (t t₁ t₂ : Tables) (memory : List ℕ) (M : Meaning) (s : State) (n k : ℕ) (x : Place) →
    Stands F tasks t memory M s → length tasks ≡ 16 → length (set tasks k x) ≡ 16 → RecordsNamed tasks t → SoundTables t₂ →
    place_of n ≡ Some k → k < length tasks → WithinCells (table_of x) (table s n) →
    Swept (λ r. is_record_named r (set tasks k x)) t t₁ → Cleared (set tasks k x) t₁ t₂ →
    Stands F (set tasks k x) t₂ memory M (with_task s n (shown x))
unfolding with_task
stands_less F tasks t t₁ t₂ memory M s n k x h len len' used sound₂ p lt back swept cleared =
    let s' = with_task s n (shown x) in
    let same = same_put tasks s n k x h.same p lt in
    let old : (r i : ℕ) → Living (table s') r i → Living (table s) r i = living_back s n x back in
    let rows : (r i : ℕ) → Living (table s') r i → Living (tables_of (set tasks k x)) r i = living_rows (set tasks k x) s' same in
    let inuse : (r i : ℕ) → Living (table s) r i → in_use t r ≡ true = λ r i l. used r ∙ living_named tasks len r i (living_rows tasks s h.same r i l) in
    let keep : (r i : ℕ) → Living (table s') r i → is_record_named r (set tasks k x) ≡ true = λ r i l. living_named (set tasks k x) len' r i (rows r i l) in
    record {
      frames = h.frames;
      same = same;
      mark = h.mark;
      mirror =
          keeps M (frame_of memory) h.mark s.writes (Living (table s)) (Living (table s')) (walk_end t) (walk_end t₂) s.cells s.cells (is_held t) (is_held t₂) h.mirror
          (λ r i l. inl (record { from = r; at = i; lived = old r i l; same_end = cleared.walks r i (rows r i l) ∙ swept.walks r i (inuse r i (old r i l)) (keep r i l); same_cell = refl }))
          (λ j held. swept.frees j (cleared.frees j held))
          (λ j held. let y = cleared.reached j held in (y.sharing, y.index, rows_living (set tasks k x) s' same y.sharing y.index y.lives, y.ends))
          (λ r i j l e. frame_held t₂ sound₂ r i j e);
    }

-- What the edits of a table name

pub removed_within : (f g : ℕ) (es es' : List Entry) → Removes entry_shape f g es es' → WithinCells es' es
removed_within f g es es' law p r i h = record {
  entry = h.entry;
  says = go (among f g p) (sym (law p) ∙ h.says);
  sharing = h.sharing;
  index = h.index;
}
  where
    go : (b : Bool) → cond b None (said entry_shape p es) ≡ Some h.entry → said entry_shape p es ≡ Some h.entry
    go true e = absurd (let z : ◌≡◌ {A = ℕ} 0 1 = cc in omega arith)
    go false e = e

mapped_some : (change : Entry → Entry) (o : Option Entry) (y : Entry) → option_map change o ≡ Some y → (x : Entry) × (o ≡ Some x) × (y ≡ change x)
mapped_some change None y e = absurd (let z : ◌≡◌ {A = ℕ} 0 1 = cc in omega arith)
mapped_some change (Some x) y e = (x, refl, cc)

pub altered_within : (change : Entry → Entry) → Quiet change → (f g : ℕ) (es es' : List Entry) → Alters entry_shape change f g es es' → WithinCells es' es
altered_within change quiet f g es es' law p r i h = go (among f g p) (sym (law p) ∙ h.says)
  where
    go : (b : Bool) → cond b (option_map change (said entry_shape p es)) (said entry_shape p es) ≡ Some h.entry → Names es p r i
    go true e =
        let x = mapped_some change (said entry_shape p es) h.entry e in
        record { entry = x.0; says = x.1; sharing = sym (quiet.sharing x.0) ∙ ap (λ (y : Entry). y.sharing) (sym x.2) ∙ h.sharing; index = sym (quiet.index x.0) ∙ ap (λ (y : Entry). y.index) (sym x.2) ∙ h.index }
    go false e = record { entry = h.entry; says = e; sharing = h.sharing; index = h.index }

pub within_altered : (change : Entry → Entry) → Quiet change → (f g : ℕ) (es es' : List Entry) → Alters entry_shape change f g es es' → WithinCells es es'
within_altered change quiet f g es es' law p r i h = go (among f g p) refl
  where
    go : (b : Bool) → among f g p ≡ b → Names es' p r i
    go true e = record {
      entry = change h.entry;
      says = law p ∙ rw e (ap (option_map change) h.says);
      sharing = quiet.sharing h.entry ∙ h.sharing;
      index = quiet.index h.entry ∙ h.index;
    }
    go false e = record { entry = h.entry; says = law p ∙ rw e h.says; sharing = h.sharing; index = h.index }
