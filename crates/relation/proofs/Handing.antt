-- A task that gains an entry whose cells are living cells, or copies of such.
use Rattle.std.proofs.Common.{◌≡◌, ℕ, ◌+◌, ◌-◌, ◌<◌, ◌≤◌, Bool, true, false, cond, ◌&&◌, ◌||◌, eqb, ltb, leb, ◌⊎◌, List, [], ◌∷◌, ◌++◌, length, get_or, set, Some, None, sym, refl, ap, ◌∙◌, subst, inl, inr, arith}
use Rattle.std.proofs.Math.Bool.{or-false, or_assoc}
use Rattle.std.proofs.lemmas.Bool.{cases_eq, le-leb, leb-true, ltb-true, and_parts, and_from, or_cases, or_left, or_right}
use Rattle.ranges.specs.Shape.{Shape, holds, proper}
use Rattle.ranges.specs.Tables.{rising, said}
use Rattle.pagers.specs.Meaning.{Meaning}
use Rattle.machine.specs.declared.words.Entry.{Entry}
use Rattle.machine.specs.Entries.{entry_shape, part, resting}
use Rattle.machine.specs.State.{State, table}
use Rattle.objects.specs.declared.tables.Tables.{Tables}
use Rattle.objects.specs.View.{is_held, walk_end, SoundTables}
use Rattle.objects.proofs.Effects.{frame_held}
use Rattle.tasks.specs.Tables.{Place, names}
use Rattle.relation.specs.Living.{Names, Living}
use Rattle.relation.specs.Mirror.{Mirror}
use Rattle.relation.specs.Stands.{table_of, is_record_named, frame_of, Stands}
use Rattle.relation.proofs.Keeping.{Copied, Begun, keeps}
use Rattle.relation.proofs.Rows.{SameTasks}
use Rattle.relation.proofs.Renaming.{both_imply, set_in, set_from, from_set, row_named}

-- what a table says, it says with entries behind it
pub said_before : {E : Type 0} (S : Shape E) (p : ℕ) (xs ys : List E) (z : E) → said S p xs ≡ Some z → said S p (xs ++ ys) ≡ Some z
said_before S p [] ys z h = absurd (let w : ◌≡◌ {A = ℕ} 0 1 = cc in omega arith)
said_before S p (x ∷ xs) ys z h = go (said_before S p xs ys z) (holds S p x) h
  where
    go : (said S p xs ≡ Some z → said S p (xs ++ ys) ≡ Some z) → (b : Bool) → cond b (Some (S.one p x)) (said S p xs) ≡ Some z → cond b (Some (S.one p x)) (said S p (xs ++ ys)) ≡ Some z
    go on true h = h
    go on false h = on h

-- what a table says with one entry behind it is said before it or by the entry
pub said_last : {E : Type 0} (S : Shape E) (p : ℕ) (xs : List E) (y z : E) → said S p (xs ++ (y ∷ [])) ≡ Some z → (said S p xs ≡ Some z) ⊎ ((holds S p y ≡ true) × (z ≡ S.one p y))
said_last S p [] y z h = go (holds S p y) refl h
  where
    go : (b : Bool) → holds S p y ≡ b → cond b (Some (S.one p y)) None ≡ Some z → (None ≡ Some z) ⊎ ((holds S p y ≡ true) × (z ≡ S.one p y))
    go true e h = inr (e, cc)
    go false e h = inl h
said_last S p (x ∷ xs) y z h = go (said_last S p xs y z) (holds S p x) h
  where
    go : (said S p (xs ++ (y ∷ [])) ≡ Some z → (said S p xs ≡ Some z) ⊎ ((holds S p y ≡ true) × (z ≡ S.one p y))) → (b : Bool) → cond b (Some (S.one p x)) (said S p (xs ++ (y ∷ []))) ≡ Some z → (cond b (Some (S.one p x)) (said S p xs) ≡ Some z) ⊎ ((holds S p y ≡ true) × (z ≡ S.one p y))
    go on true h = inl h
    go on false h = on h

module _ (F : ℕ) (tasks tasks' : List Place) (t t' : Tables) (memory : List ℕ) (M : Meaning) (s s' : State) (n : ℕ) (y : Entry)
    (h : Stands F tasks t memory M s) (sound' : SoundTables t')
    (frames : s'.frames ≡ s.frames) (writes : s'.writes ≡ s.writes) (same : SameTasks tasks' s')
    (here : table s' n ≡ table s n ++ (y ∷ [])) (there : (u : ℕ) → (u ≡ n → ⊥) → table s' u ≡ table s u)
    (new : (j : ℕ) → j < y.pages → Copied (Living (table s)) (walk_end t) s.cells (walk_end t' y.sharing (y.index + j)) (s'.cells y.sharing (y.index + j)))
    (old : (r i : ℕ) → Living (table s) r i → (walk_end t' r i ≡ walk_end t r i) × (s'.cells r i ≡ s.cells r i))
    (held : (j : ℕ) → is_held t' j ≡ is_held t j) where
  -- an old living cell, or one of the entry's
  which : (r i : ℕ) → Living (table s') r i → Living (table s) r i ⊎ ((r ≡ y.sharing) × (j : ℕ) × (j < y.pages) × (i ≡ y.index + j))
  which r i l = go (cases_eq l.task n)
    where
      at : (z : Entry) → z.sharing ≡ r → z.index ≡ i → (said entry_shape l.page (table s n) ≡ Some z) ⊎ ((holds entry_shape l.page y ≡ true) × (z ≡ part l.page 1 y)) → Living (table s) r i ⊎ ((r ≡ y.sharing) × (j : ℕ) × (j < y.pages) × (i ≡ y.index + j))
      at z a c (inl q) = inl (record { task = n; page = l.page; names = record { entry = z; says = q; sharing = a; index = c } })
      at z a c (inr q) =
          let b = and_parts (leb y.first l.page) (ltb l.page (y.first + y.pages)) q.0 in
          let low = leb-true y.first l.page b.0 in
          let high = ltb-true l.page (y.first + y.pages) b.1 in
          inr (sym a ∙ ap (λ (w : Entry). w.sharing) q.1, l.page - y.first, omega (arith, low, high), sym c ∙ ap (λ (w : Entry). w.index) q.1)

      go : (l.task ≡ n) ⊎ (l.task ≡ n → ⊥) → Living (table s) r i ⊎ ((r ≡ y.sharing) × (j : ℕ) × (j < y.pages) × (i ≡ y.index + j))
      go (inl e) =
          let m = subst (λ es. Names es l.page r i) (ap (table s') e ∙ here) l.names in
          at m.entry m.sharing m.index (said_last entry_shape l.page (table s n) y m.entry m.says)
      go (inr ne) = inl (record { task = l.task; page = l.page; names = subst (λ es. Names es l.page r i) (there l.task ne) l.names })

  -- an old living cell lives on
  still : (r i : ℕ) → Living (table s) r i → Living (table s') r i
  still r i l = go (cases_eq l.task n)
    where
      go : (l.task ≡ n) ⊎ (l.task ≡ n → ⊥) → Living (table s') r i
      go (inl e) =
          let m = subst (λ es. Names es l.page r i) (ap (table s) e) l.names in
          record { task = n; page = l.page; names = subst (λ es. Names es l.page r i) (sym here) (record { entry = m.entry; says = said_before entry_shape l.page (table s n) (y ∷ []) m.entry m.says; sharing = m.sharing; index = m.index }) }
      go (inr ne) = record { task = l.task; page = l.page; names = subst (λ es. Names es l.page r i) (sym (there l.task ne)) l.names }

  back : (mark : ℕ → ℕ) (r i : ℕ) → Living (table s) r i ⊎ ((r ≡ y.sharing) × (j : ℕ) × (j < y.pages) × (i ≡ y.index + j)) → Copied (Living (table s)) (walk_end t) s.cells (walk_end t' r i) (s'.cells r i) ⊎ Begun M (frame_of memory) mark (walk_end t' r i) (s'.cells r i)
  back mark r i (inl l) = inl (record { from = r; at = i; lived = l; same_end = (old r i l).0; same_cell = (old r i l).1 })
  back mark r i (inr x) =
      inl (subst (λ a. Copied (Living (table s)) (walk_end t) s.cells (walk_end t' a i) (s'.cells a i)) (sym x.0)
      (subst (λ b. Copied (Living (table s)) (walk_end t) s.cells (walk_end t' y.sharing b) (s'.cells y.sharing b)) (sym x.3) (new x.1 x.2)))

  -- the tables stand for the state with the entry
  pub stands_handed : Stands F tasks' t' memory M s'
  stands_handed = record {
    frames = frames ∙ h.frames;
    same = same;
    mark = h.mark;
    mirror = subst (λ w. Mirror M (frame_of memory) h.mark w (Living (table s')) (walk_end t') s'.cells (is_held t')) (sym writes)
        (keeps M (frame_of memory) h.mark s.writes (Living (table s)) (Living (table s')) (walk_end t) (walk_end t') s.cells s'.cells (is_held t) (is_held t') h.mirror
        (λ r i l. back h.mark r i (which r i l))
        (λ j q. sym (held j) ∙ q)
        (λ j q. let x = h.mirror.reached j (sym (held j) ∙ q) in (x.0, x.1, still x.0 x.1 x.2, (old x.0 x.1 x.2).0 ∙ x.3))
        (λ r i j l e. frame_held t' sound' r i j e));
  }

-- Records that entries name

names_last : (r : ℕ) (xs : List Entry) (y : Entry) → names r (xs ++ (y ∷ [])) ≡ (names r xs || eqb y.sharing r)
names_last r [] y = or-false (eqb y.sharing r)
names_last r (x ∷ xs) y = ap (λ b. eqb x.sharing r || b) (names_last r xs y) ∙ sym (or_assoc (eqb x.sharing r) (names r xs) (eqb y.sharing r))

-- a row with one entry more names its record too
pub named_last : (r : ℕ) (tasks : List Place) (k : ℕ) (x : Place) (y : Entry) → k < length tasks → table_of x ≡ table_of (get_or tasks k None) ++ (y ∷ []) → is_record_named r (set tasks k x) ≡ (is_record_named r tasks || eqb y.sharing r)
named_last r tasks k x y lt is =
    both_imply (is_record_named r (set tasks k x)) (is_record_named r tasks || eqb y.sharing r)
    (λ h.
    elim (set_from r tasks k x h) [
      | inl a ↦ elim (or_cases (names r (table_of (get_or tasks k None))) (eqb y.sharing r) (sym (ap (names r) is ∙ names_last r (table_of (get_or tasks k None)) y) ∙ a)) [
        | inl b ↦ or_left (is_record_named r tasks) (eqb y.sharing r) (row_named r tasks k b)
        | inr b ↦ or_right (is_record_named r tasks) (eqb y.sharing r) b
      ]
      | inr b ↦ or_left (is_record_named r tasks) (eqb y.sharing r) b
    ])
    (λ h.
    elim (or_cases (is_record_named r tasks) (eqb y.sharing r) h) [
      | inl a ↦ elim (from_set r tasks k x a) [
        | inl b ↦ set_in r tasks k x lt (ap (names r) is ∙ names_last r (table_of (get_or tasks k None)) y ∙ or_left (names r (table_of (get_or tasks k None))) (eqb y.sharing r) b)
        | inr b ↦ b
      ]
      | inr b ↦ set_in r tasks k x lt (ap (names r) is ∙ names_last r (table_of (get_or tasks k None)) y ∙ or_right (names r (table_of (get_or tasks k None))) (eqb y.sharing r) b)
    ])

-- Rising tables

rising_lower : (m n : ℕ) (ys : List Entry) → n ≤ m → rising entry_shape m ys ≡ true → rising entry_shape n ys ≡ true
rising_lower m n [] l h = refl
rising_lower m n (y ∷ ys) l h =
    let a = and_parts (proper entry_shape y && leb m y.first) (rising entry_shape (y.first + y.pages) ys) h in
    let b = and_parts (proper entry_shape y) (leb m y.first) a.0 in
    let low = leb-true m y.first b.1 in
    and_from _ _ (and_from _ _ b.0 (le-leb n y.first (omega (arith, low)))) a.1

-- without one of its entries a table rises
pub rising_less : (n : ℕ) (xs : List Entry) (y : Entry) (ys : List Entry) → rising entry_shape n (xs ++ (y ∷ ys)) ≡ true → rising entry_shape n (xs ++ ys) ≡ true
rising_less n [] y ys h =
    let a = and_parts (proper entry_shape y && leb n y.first) (rising entry_shape (y.first + y.pages) ys) h in
    let low = leb-true n y.first (and_parts (proper entry_shape y) (leb n y.first) a.0).1 in
    rising_lower (y.first + y.pages) n ys (omega (arith, low)) a.1
rising_less n (x ∷ xs) y ys h =
    let a = and_parts (proper entry_shape x && leb n x.first) (rising entry_shape (x.first + x.pages) (xs ++ (y ∷ ys))) h in
    and_from _ _ a.0 (rising_less (x.first + x.pages) xs y ys a.1)

-- and its first entries do
pub rising_first : (n : ℕ) (xs ys : List Entry) → rising entry_shape n (xs ++ ys) ≡ true → rising entry_shape n xs ≡ true
rising_first n [] ys h = refl
rising_first n (x ∷ xs) ys h =
    let a = and_parts (proper entry_shape x && leb n x.first) (rising entry_shape (x.first + x.pages) (xs ++ ys)) h in
    and_from _ _ a.0 (rising_first (x.first + x.pages) xs ys a.1)

-- an entry on another record lies where it lay
pub rising_resting : (n : ℕ) (xs : List Entry) (y : Entry) (ys : List Entry) (q : ℕ) → rising entry_shape n (xs ++ (y ∷ ys)) ≡ true → rising entry_shape n (xs ++ (resting q y ∷ ys)) ≡ true
rising_resting n [] y ys q h = h
rising_resting n (x ∷ xs) y ys q h =
    let a = and_parts (proper entry_shape x && leb n x.first) (rising entry_shape (x.first + x.pages) (xs ++ (y ∷ ys))) h in
    and_from _ _ a.0 (rising_resting (x.first + x.pages) xs y ys q a.1)
