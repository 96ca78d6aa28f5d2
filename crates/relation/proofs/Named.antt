-- Records that entries name, and living cells.
use Rattle.std.proofs.Common.{◌≡◌, ℕ, ◌+◌, ◌-◌, ◌<◌, Bool, true, false, ◌&&◌, eqb, ltb, leb, List, [], ◌∷◌, length, Some, None, Option, sym, refl, ap, ◌∙◌, subst, inl, inr, arith}
use Rattle.std.proofs.lemmas.List.Folds.{list_any-append}
use Rattle.std.specs.List.{list_any, flat_map}
use Rattle.std.proofs.lemmas.Bool.{both_ways, eq-eqb, eqb-true, leb-true, ltb-true, le-leb, lt-ltb, and_parts, and_from, or_cases, or_left, or_right}
use Rattle.ranges.specs.Shape.{proper}
use Rattle.ranges.specs.Tables.{rising}
use Rattle.machine.specs.declared.words.Entry.{Entry}
use Rattle.machine.specs.Entries.{entry_shape}
use Rattle.machine.specs.Calls.{zeros}
use Rattle.machine.specs.State.{State, numbers, table, all_entries}
use Rattle.pagers.specs.Meaning.{bytes}
use Rattle.chains.specs.declared.End.{End}
use Rattle.chains.specs.declared.End.TheVariants.{Frame, Zeros, Page}
use Rattle.objects.specs.declared.tables.Tables.{Tables}
use Rattle.objects.specs.View.{walk_end}
use Rattle.tasks.specs.Tables.{Place}
use Rattle.relation.specs.Living.{Living}
use Rattle.relation.specs.Stands.{place_of, table_of, task_at, tables_of, is_record_named}
use Rattle.relation.specs.Sweeps.{ends_at, covers_index, is_frame_reached, Reached}
use Rattle.relation.specs.Orderly.{Orderly}
use Rattle.relation.proofs.Lists.{Among, among_joined, among_part}
use Rattle.relation.proofs.Cells.{entry_lives, lives_entry, has_number}
use Rattle.relation.proofs.Rows.{SameTasks, orderly, all_rows}

-- a state with the tasks of the rows, and nothing in its cells
unfoldable pub picture : List Place → State
picture tasks = record { frames = 0; tasks = λ n. task_at tasks (place_of n); cells = λ r i. record { content = bytes []; source = zeros; mark = None }; writes = 0 }

pub picture_same : (tasks : List Place) → SameTasks tasks (picture tasks)
unfolding picture
picture_same tasks n = refl

-- Tests for a member of a list of entries

-- some entry of the list passes the test
pub any_among : (p : Entry → Bool) (es : List Entry) → list_any p es ≡ true → (e : Entry) × Among e es × (p e ≡ true)
any_among p [] h = absurd (both_ways false refl h)
any_among p (e ∷ es) h =
    elim (or_cases (p e) (list_any p es) h) [
      | inl q ↦ (e, inl refl, q)
      | inr k ↦ let r = any_among p es k in (r.0, inr r.1, r.2)
    ]

pub among_any : (p : Entry → Bool) (e : Entry) (es : List Entry) → Among e es → p e ≡ true → list_any p es ≡ true
among_any p e [] a q = absurd a
among_any p e (y ∷ ys) (inl same) q = or_left (p y) (list_any p ys) (subst (λ z. p z ≡ true) same q)
among_any p e (y ∷ ys) (inr a) q = or_right (p y) (list_any p ys) (among_any p e ys a q)

-- the tests over all tasks are tests over all entries
pub named_any : (r : ℕ) (tasks : List Place) → is_record_named r tasks ≡ list_any (λ e. eqb e.sharing r) (flat_map table_of tasks)
named_any r [] = refl
named_any r (x ∷ xs) = rw (named_any r xs) (sym (list_any-append (λ e. eqb e.sharing r) (table_of x) (flat_map table_of xs)))

pub reached_any : (t : Tables) (k i : ℕ) (tasks : List Place) → is_frame_reached t k i tasks ≡ list_any (λ e. covers_index i e && ends_at (walk_end t e.sharing i) k) (flat_map table_of tasks)
reached_any t k i [] = refl
reached_any t k i (x ∷ xs) = rw (reached_any t k i xs) (sym (list_any-append (λ e. covers_index i e && ends_at (walk_end t e.sharing i) k) (table_of x) (flat_map table_of xs)))

-- Living cells of the rows

-- an element of a rising table is proper
pub rising_proper : (n : ℕ) (es : List Entry) (e : Entry) → rising entry_shape n es ≡ true → Among e es → proper entry_shape e ≡ true
rising_proper n [] e h a = absurd a
rising_proper n (y ∷ ys) e h (inl q) =
    subst (λ z. proper entry_shape z ≡ true) (sym q) (and_parts (proper entry_shape y) (leb n y.first) (and_parts (proper entry_shape y && leb n y.first) (rising entry_shape (y.first + y.pages) ys) h).0).0
rising_proper n (y ∷ ys) e h (inr a) =
    rising_proper (y.first + y.pages) ys e (and_parts (proper entry_shape y && leb n y.first) (rising entry_shape (y.first + y.pages) ys) h).1 a

pub some_pages : (e : Entry) → proper entry_shape e ≡ true → 0 < e.pages
some_pages e h =
    ltb-true 0 e.pages (and_parts (ltb 0 e.pages) (leb (e.first + e.pages) 4096) (and_parts (ltb 0 e.pages && leb (e.first + e.pages) 4096) (leb (e.index + e.pages) 4096) h).0).0

module _ (tasks : List Place) (len : length tasks ≡ 16) where
  order : Orderly (picture tasks)
  order = orderly tasks (picture tasks) (picture_same tasks)

  -- an entry of the rows is a task's
  entry_task : (e : Entry) → Among e (flat_map table_of tasks) → (n : ℕ) × Among n numbers × Among e (table (picture tasks) n)
  unfolding all_entries
  entry_task e a = among_part (table (picture tasks)) e numbers (subst (Among e) (sym (all_rows tasks (picture tasks) (picture_same tasks) len)) a)

  -- a living cell is an entry's
  entry_of : (r i : ℕ) → Living (tables_of tasks) r i → (e : Entry) × Among e (flat_map table_of tasks) × (j : ℕ) × (j < e.pages) × (e.sharing ≡ r) × (e.index + j ≡ i)
  unfolding all_entries picture table
  entry_of r i l =
      let x = lives_entry (picture tasks) r i l in
      let n = has_number (picture tasks) order x.0 x.1 x.2 in
      (x.1, subst (Among x.1) (all_rows tasks (picture tasks) (picture_same tasks) len) (among_joined (table (picture tasks)) x.0 x.1 numbers n x.2), x.3, x.4, x.5, x.6)

  -- a record that is named has a living cell
  pub named_living : (r : ℕ) → is_record_named r tasks ≡ true → (i : ℕ) × Living (tables_of tasks) r i
  unfolding picture table
  named_living r h =
      let x = any_among (λ e. eqb e.sharing r) (flat_map table_of tasks) (sym (named_any r tasks) ∙ h) in
      let y = entry_task x.0 x.1 in
      let l = entry_lives (picture tasks) order y.0 x.0 0 y.2 (some_pages x.0 (rising_proper 0 (table (picture tasks) y.0) x.0 (order.rises y.0) y.2)) in
      (x.0.index + 0, subst (λ a. Living (tables_of tasks) a (x.0.index + 0)) (eqb-true x.0.sharing r x.2) l)

  -- the record of a living cell is named
  pub living_named : (r i : ℕ) → Living (tables_of tasks) r i → is_record_named r tasks ≡ true
  living_named r i l =
      let x = entry_of r i l in
      named_any r tasks ∙ among_any (λ e. eqb e.sharing r) x.0 (flat_map table_of tasks) x.1 (eq-eqb x.0.sharing r x.4)

  ends_true : (o : Option End) (k : ℕ) → ends_at o k ≡ true → o ≡ Some (Frame k)
  ends_true None k h = absurd (both_ways false refl h)
  ends_true (Some (Frame s)) k h = ap (λ a. Some (Frame a)) (eqb-true s k h)
  ends_true (Some Zeros) k h = absurd (both_ways false refl h)
  ends_true (Some (Page m q)) k h = absurd (both_ways false refl h)

  true_ends : (o : Option End) (k : ℕ) → o ≡ Some (Frame k) → ends_at o k ≡ true
  true_ends o k e = ap (λ x. ends_at x k) e ∙ eq-eqb k k refl

  -- a frame that the test finds is reached
  pub test_reached : (t : Tables) (k i : ℕ) → is_frame_reached t k i tasks ≡ true → Reached tasks t k
  unfolding picture table
  test_reached t k i h =
      let x = any_among (λ e. covers_index i e && ends_at (walk_end t e.sharing i) k) (flat_map table_of tasks) (sym (reached_any t k i tasks) ∙ h) in
      let e = x.0 in
      let q = and_parts (covers_index i e) (ends_at (walk_end t e.sharing i) k) x.2 in
      let b = and_parts (leb e.index i) (ltb i (e.index + e.pages)) q.0 in
      let low = leb-true e.index i b.0 in
      let high = ltb-true i (e.index + e.pages) b.1 in
      let y = entry_task e x.1 in
      let l = entry_lives (picture tasks) order y.0 e (i - e.index) y.2 (omega (arith, low, high)) in
      record {
        sharing = e.sharing;
        index = i;
        lives = subst (λ a. Living (tables_of tasks) e.sharing a) (omega (arith, low)) l;
        ends = ends_true (walk_end t e.sharing i) k q.1;
      }

  -- and the test finds it at the cell's index
  pub reached_test : (t : Tables) (k r i : ℕ) → Living (tables_of tasks) r i → walk_end t r i ≡ Some (Frame k) → is_frame_reached t k i tasks ≡ true
  reached_test t k r i l e =
      let x = entry_of r i l in
      let has : covers_index i x.0 ≡ true =
      (let at : x.0.index + x.2 ≡ i = x.5 in let few : x.2 < x.0.pages = x.3 in and_from (leb x.0.index i) (ltb i (x.0.index + x.0.pages)) (le-leb x.0.index i (omega arith)) (lt-ltb i (x.0.index + x.0.pages) (omega arith))) in
      let end = true_ends (walk_end t x.0.sharing i) k (ap (λ a. walk_end t a i) x.4 ∙ e) in
      reached_any t k i tasks ∙ among_any (λ e. covers_index i e && ends_at (walk_end t e.sharing i) k) x.0 (flat_map table_of tasks) x.1 (and_from _ _ has end)
