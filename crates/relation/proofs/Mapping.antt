-- A map: one more record, and an entry on it.
use Rattle.std.proofs.Common.{◌≡◌, ℕ, ◌+◌, ◌-◌, ◌<◌, Bool, true, false, cond, ltb, leb, ◌⊎◌, List, [], ◌∷◌, length, get_or, set, is_some, Some, None, Option, sym, refl, ap, ◌∙◌, subst, inl, inr, arith}
use Rattle.std.proofs.lemmas.Bool.{both_ways, cases_eq, eq-eqb, ne_eqb, leb-true, ltb-true, ltb-false, lt-ltb, and_parts, and_from, or_parts}
use Rattle.ranges.specs.Says.{Inserts}
use Rattle.ranges.specs.Shape.{Shape, end, holds}
use Rattle.ranges.specs.Tables.{said, meets, taken}
use Rattle.pagers.specs.Meaning.{Meaning}
use Rattle.machine.specs.declared.words.Entry.{Entry}
use Rattle.machine.specs.Entries.{entry_shape, part}
use Rattle.machine.specs.State.{State, table, untouched, along}
use Rattle.machine.specs.Step.{with_task, with_record, fresh_entry, uncovered}
use Rattle.chains.specs.declared.End.TheVariants.{Frame}
use Rattle.chains.specs.declared.Origin.{Origin}
use Rattle.chains.specs.declared.Origin.TheVariants.{Zeros as of_zeros, Page as of_page}
use Rattle.chains.specs.declared.Owner.{Owner}
use Rattle.chains.specs.Rows.{source}
use Rattle.objects.specs.declared.tables.Tables.{Tables}
use Rattle.objects.specs.View.{in_use, is_held, walk_end, SoundTables}
use Rattle.objects.specs.Says.{Starts, KeepsWalks}
use Rattle.objects.proofs.Effects.{frame_held}
use Rattle.tasks.specs.Tables.{Place, shown}
use Rattle.relation.specs.Living.{Names, Living}
use Rattle.relation.specs.Mirror.{Shows}
use Rattle.relation.specs.Sources.{source_of}
use Rattle.relation.specs.Stands.{place_of, table_of, RecordsNamed, frame_of, Stands}
use Rattle.relation.proofs.Keeping.{Copied, Begun, keeps}
use Rattle.relation.proofs.Rows.{same_put}
use Rattle.relation.proofs.Named.{living_named}
use Rattle.relation.proofs.Standing.{table_same, table_other, living_rows}

-- a page of an entry that is not taken is not mapped
pub untaken : {E : Type 0} (S : Shape E) (e : E) (es : List E) (p : ℕ) → taken S e es ≡ false → holds S p e ≡ true → said S p es ≡ None
untaken S e [] p h q = refl
untaken S e (y ∷ ys) p h q = go (untaken S e ys p (or_parts (meets S e y) (taken S e ys) h).1 q) (holds S p y) refl
  where
    go : said S p ys ≡ None → (b : Bool) → holds S p y ≡ b → cond b (Some (S.one p y)) (said S p ys) ≡ None
    go on true k =
        let a = and_parts (leb (S.first e) p) (ltb p (end S e)) q in
        let b = and_parts (leb (S.first y) p) (ltb p (end S y)) k in
        let a0 = leb-true (S.first e) p a.0 in
        let a1 = ltb-true p (end S e) a.1 in
        let b0 = leb-true (S.first y) p b.0 in
        let b1 = ltb-true p (end S y) b.1 in
        absurd (both_ways (meets S e y) (or_parts (meets S e y) (taken S e ys) h).0 (and_from _ _ (lt-ltb (S.first e) (end S y) (omega (arith, a0, b1))) (lt-ltb (S.first y) (end S e) (omega (arith, b0, a1)))))
    go on false k = on

-- an untouched cell shows its source
shows_source : (M : Meaning) (frame : ℕ → List ℕ) (mark : ℕ → ℕ) (g : Origin) (i pages : ℕ) → i < pages → uncovered M pages (source_of g) ≡ false → Shows M frame mark (source g i) (untouched M (along i (source_of g)))
unfolding untouched along uncovered
shows_source M frame mark of_zeros i pages l h = (refl, refl, refl)
shows_source M frame mark (of_page m q) i pages l h = (refl, refl, refl, let c = ltb-false (M.count m) (q + pages) h in omega (arith, c))

source_frameless : (g : Origin) (i k : ℕ) → source g i ≡ Frame k → ⊥
source_frameless of_zeros i k e = let z : ◌≡◌ {A = ℕ} 0 1 = cc in omega arith
source_frameless (of_page m q) i k e = let z : ◌≡◌ {A = ℕ} 0 1 = cc in omega arith

-- the state with the cells of the new record
abbrev pub opened : Meaning → State → ℕ → Origin → State
opened M s q g = with_record s q (λ i. untouched M (along i (source_of g)))

-- and with the task's new table
abbrev pub mapped_state : Meaning → State → ℕ → Origin → ℕ → Place → State
mapped_state M s q g n x = with_task (opened M s q g) n (shown x)

module _ (F : ℕ) (tasks : List Place) (t t' : Tables) (memory : List ℕ) (M : Meaning) (s : State) (n k q start pages : ℕ) (x : Place) (g : Origin)
    (h : Stands F tasks t memory M s) (len : length tasks ≡ 16) (used : RecordsNamed tasks t) (sound' : SoundTables t')
    (p : place_of n ≡ Some k) (lt : k < length tasks) (unused : in_use t q ≡ false)
    (starts : Starts t' q g) (walks : KeepsWalks t t') (frames : t'.frames ≡ t.frames)
    (law : Inserts entry_shape (fresh_entry q start pages) (table s n) (table_of x)) (free : taken entry_shape (fresh_entry q start pages) (table s n) ≡ false)
    (covers : uncovered M pages (source_of g) ≡ false) where
  table_here : table (mapped_state M s q g n x) n ≡ table_of x
  table_here = table_same (opened M s q g) n (shown x)

  table_there : (u : ℕ) → (u ≡ n → ⊥) → table (mapped_state M s q g n x) u ≡ table s u
  unfolding table with_record
  table_there u ne = table_other (opened M s q g) n (shown x) u ne

  -- a cell of the new entry, or an old living cell
  which : (r i : ℕ) → Living (table (mapped_state M s q g n x)) r i → ((r ≡ q) × (i < pages)) ⊎ Living (table s) r i
  unfolding fresh_entry
  which r i l = go (cases_eq l.task n)
    where
      at : (e : Entry) → e.sharing ≡ r → e.index ≡ i → (b : Bool) → holds entry_shape l.page (fresh_entry q start pages) ≡ b → cond b (Some (part l.page 1 (fresh_entry q start pages))) (said entry_shape l.page (table s n)) ≡ Some e → ((r ≡ q) × (i < pages)) ⊎ Living (table s) r i
      at e a c true w z =
          let same : part l.page 1 (fresh_entry q start pages) ≡ e = cc in
          let b = and_parts (leb start l.page) (ltb l.page (start + pages)) w in
          let low = leb-true start l.page b.0 in
          let high = ltb-true l.page (start + pages) b.1 in
          let idx : i ≡ 0 + (l.page - start) = sym c ∙ ap (λ (y : Entry). y.index) (sym same) in
          inl (sym a ∙ ap (λ (y : Entry). y.sharing) (sym same), omega (arith, low, high, idx))
      at e a c false w z = inr (record { task = n; page = l.page; names = record { entry = e; says = z; sharing = a; index = c } })

      go : (l.task ≡ n) ⊎ (l.task ≡ n → ⊥) → ((r ≡ q) × (i < pages)) ⊎ Living (table s) r i
      go (inl e) =
          let m = subst (λ es. Names es l.page r i) (ap (table (mapped_state M s q g n x)) e ∙ table_here) l.names in
          at m.entry m.sharing m.index (holds entry_shape l.page (fresh_entry q start pages)) refl (sym (law l.page) ∙ m.says)
      go (inr ne) = inr (record { task = l.task; page = l.page; names = subst (λ es. Names es l.page r i) (table_there l.task ne) l.names })

  -- an old living cell lives on
  still : (r i : ℕ) → Living (table s) r i → Living (table (mapped_state M s q g n x)) r i
  still r i l = go (cases_eq l.task n)
    where
      at : (e : Entry) → said entry_shape l.page (table s n) ≡ Some e → (b : Bool) → holds entry_shape l.page (fresh_entry q start pages) ≡ b → cond b (Some (part l.page 1 (fresh_entry q start pages))) (said entry_shape l.page (table s n)) ≡ Some e
      at e z true w = absurd (let none = untaken entry_shape (fresh_entry q start pages) (table s n) l.page free w in let y : ◌≡◌ {A = ℕ} 0 1 = (let v = sym none ∙ z in cc) in omega arith)
      at e z false w = z

      go : (l.task ≡ n) ⊎ (l.task ≡ n → ⊥) → Living (table (mapped_state M s q g n x)) r i
      go (inl e) =
          let m = subst (λ es. Names es l.page r i) (ap (table s) e) l.names in
          record { task = n; page = l.page; names = subst (λ es. Names es l.page r i) (sym table_here) (record { entry = m.entry; says = law l.page ∙ at m.entry m.says (holds entry_shape l.page (fresh_entry q start pages)) refl; sharing = m.sharing; index = m.index }) }
      go (inr ne) = record { task = l.task; page = l.page; names = subst (λ es. Names es l.page r i) (sym (table_there l.task ne)) l.names }

  inuse : (r i : ℕ) → Living (table s) r i → in_use t r ≡ true
  inuse r i l = used r ∙ living_named tasks len r i (living_rows tasks s h.same r i l)

  other : (r i : ℕ) → Living (table s) r i → r ≡ q → ⊥
  other r i l e = both_ways (in_use t r) (ap (in_use t) e ∙ unused) (inuse r i l)

  cell_new : (r i : ℕ) → r ≡ q → (mapped_state M s q g n x).cells r i ≡ untouched M (along i (source_of g))
  unfolding with_task with_record
  cell_new r i e = rw (eq-eqb r q e) refl

  cell_old : (r i : ℕ) → (r ≡ q → ⊥) → (mapped_state M s q g n x).cells r i ≡ s.cells r i
  unfolding with_task with_record
  cell_old r i ne = rw (ne_eqb r q ne) refl

  back : (mark : ℕ → ℕ) (r i : ℕ) → ((r ≡ q) × (i < pages)) ⊎ Living (table s) r i → Copied (Living (table s)) (walk_end t) s.cells (walk_end t' r i) ((mapped_state M s q g n x).cells r i) ⊎ Begun M (frame_of memory) mark (walk_end t' r i) ((mapped_state M s q g n x).cells r i)
  back mark r i (inl new) =
      inr (record {
        end = source g i;
        ends = ap (λ a. walk_end t' a i) new.0 ∙ (starts i).0;
        frameless = λ j e. source_frameless g i j e;
        shows = subst (Shows M (frame_of memory) mark (source g i)) (sym (cell_new r i new.0)) (shows_source M (frame_of memory) mark g i pages new.1 covers);
      })
  back mark r i (inr l) = inl (record { from = r; at = i; lived = l; same_end = walks r i (inuse r i l); same_cell = cell_old r i (other r i l) })

  held_same : (j : ℕ) → is_held t' j ≡ is_held t j
  held_same j = ap (λ (ws : List (Option Owner)). is_some (get_or ws j None)) frames

  pub stands_mapped : Stands F (set tasks k x) t' memory M (mapped_state M s q g n x)
  unfolding with_task with_record
  stands_mapped =
      record {
        frames = h.frames;
        same = same_put tasks (opened M s q g) n k x h.same p lt;
        mark = h.mark;
        mirror =
            keeps M (frame_of memory) h.mark s.writes (Living (table s)) (Living (table (mapped_state M s q g n x))) (walk_end t) (walk_end t') s.cells (mapped_state M s q g n x).cells (is_held t) (is_held t') h.mirror
            (λ r i l. back h.mark r i (which r i l))
            (λ j held. sym (held_same j) ∙ held)
            (λ j held. let y = h.mirror.reached j (sym (held_same j) ∙ held) in (y.0, y.1, still y.0 y.1 y.2, walks y.0 y.1 (inuse y.0 y.1 y.2) ∙ y.3))
            (λ r i j l e. frame_held t' sound' r i j e);
      }
