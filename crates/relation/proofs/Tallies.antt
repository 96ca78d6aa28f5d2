-- The machine's counts, by held frames and by records in use.
use Rattle.std.proofs.Common.{◌≡◌, ℕ, zero, suc, ◌+◌, ◌<◌, ◌≤◌, Bool, true, false, cond, List, map, length, Some, None, Option, sym, refl, ap, ◌∙◌, subst, inl, inr, arith}
use Rattle.std.proofs.lemmas.Bool.{cases_order, both_ways}
use Rattle.std.proofs.lemmas.List.{length-map}
use Rattle.pagers.specs.Meaning.{Meaning}
use Rattle.machine.specs.declared.words.Entry.{Entry}
use Rattle.machine.specs.State.{Cell, State, table, all_entries, living_marks, living_records, member, distinct, lowest_free, new_record}
use Rattle.chains.specs.declared.End.{End}
use Rattle.chains.specs.declared.End.TheVariants.{Frame, Zeros, Page}
use Rattle.chains.specs.Rows.{count}
use Rattle.relation.specs.Living.{Living}
use Rattle.relation.specs.Mirror.{Shows, Mirror}
use Rattle.relation.specs.Orderly.{Orderly}
use Rattle.relation.proofs.Lists.{Among, among_member, member_among, among_distinct, distinct_once, once_le}
use Rattle.relation.proofs.Counting.{count_distinct}
use Rattle.relation.proofs.Cells.{marks_of, mark_living, living_mark}

-- Marks

pub some_mark : (a b : ℕ) → Some a ≡ Some b → a ≡ b
some_mark a b e = cc

pub none_mark : (a : ℕ) → None ≡ Some a → ⊥
none_mark a e = let z : ◌≡◌ {A = ℕ} 0 1 = cc in omega arith

-- a marked cell's walk ends at the frame that its mark is in
pub marked_frame : (M : Meaning) (frame : ℕ → List ℕ) (mark : ℕ → ℕ) (e : End) (c : Cell) (m : ℕ) → Shows M frame mark e c → c.mark ≡ Some m → (k : ℕ) × (e ≡ Frame k) × (m ≡ mark k)
marked_frame M frame mark (Frame k) c m h q = (k, refl, some_mark m (mark k) (sym q ∙ h.0))
marked_frame M frame mark Zeros c m h q = absurd (none_mark m (sym h.0 ∙ q))
marked_frame M frame mark (Page a b) c m h q = absurd (none_mark m (sym h.0 ∙ q))

pub same_end : (a b : End) → Some a ≡ Some b → a ≡ b
same_end a b e = cc

-- as many different living marks as held frames
pub count_marks : (M : Meaning) (frame : ℕ → List ℕ) (mark : ℕ → ℕ) (writes : ℕ) (end : ℕ → ℕ → Option End) (held : ℕ → Bool) (n : ℕ) (s : State) → Orderly s → Mirror M frame mark writes (Living (table s)) end s.cells held → ((k : ℕ) → held k ≡ true → k < n) → length (living_marks s) ≡ count n held
unfolding living_marks
count_marks M frame mark writes end held n s o m low =
    count_distinct (marks_of s) n held mark m.single
    (λ x h.
    let l = mark_living s o x h in
    let w = m.shows l.0 l.1 l.2 in
    let f = marked_frame M frame mark w.0 (s.cells l.0 l.1) x w.2 l.3 in
    let is = m.holds l.0 l.1 f.0 l.2 (w.1 ∙ ap Some f.1) in
    (f.0, low f.0 is, is, f.2))
    (λ k l h.
    let r = m.reached k h in
    let w = m.shows r.0 r.1 r.2 in
    let e : w.0 ≡ Frame k = same_end w.0 (Frame k) (sym w.1 ∙ r.3) in
    living_mark s o r.0 r.1 (mark k) r.2 (subst (λ (x : End). Shows M frame mark x (s.cells r.0 r.1)) e w.2).0)

-- Records

-- the records that entries name, with repetition
abbrev pub records_of : State → List ℕ
records_of s = map (λ e. e.sharing) (all_entries s)

-- as many different living records as records in use
pub count_records : (s : State) (used : ℕ → Bool) (n : ℕ) → ((r : ℕ) → Among r (records_of s) → (r < n) × (used r ≡ true)) → ((r : ℕ) → r < n → used r ≡ true → Among r (records_of s)) → length (living_records s) ≡ count n used
unfolding living_records
count_records s used n into onto =
    count_distinct (records_of s) n used (λ r. r) (λ j k a b e. e) (λ x h. (x, (into x h).0, (into x h).1, refl)) onto

-- no more records than entries
pub records_few : (s : State) → length (living_records s) ≤ length (all_entries s)
unfolding living_records
records_few s =
    let few : length (distinct (records_of s)) ≤ length (records_of s) = once_le (distinct (records_of s)) (records_of s) (distinct_once (records_of s)) (λ x h. among_distinct x (records_of s) h) in
    omega (arith, few, length-map (all_entries s) (λ (e : Entry). e.sharing))

-- The new record

-- the search stops at the lowest number that is not used
lowest_is : (used : List ℕ) (n r k : ℕ) → r ≤ k → k < r + n → (Among k used → ⊥) → ((j : ℕ) → r ≤ j → j < k → Among j used) → lowest_free used n r ≡ k
unfolding lowest_free
lowest_is used zero r k a b free below = absurd (omega arith)
lowest_is used (suc n) r k a b free below = go (λ c. lowest_is used n (suc r) k c (omega arith) free (λ j x y. below j (omega arith) y)) (member r used) refl
  where
    go : (suc r ≤ k → lowest_free used n (suc r) ≡ k) → (t : Bool) → member r used ≡ t → cond t (lowest_free used n (suc r)) r ≡ k
    go on true e = on (elim (cases_order r k) [ inl q ↦ absurd (free (subst (λ x. Among x used) q (member_among r used e))) | inr d ↦ elim d [ inl l ↦ omega arith | inr l ↦ absurd (omega arith) ] ])
    go on false e = elim (cases_order r k) [ inl q ↦ q | inr d ↦ elim d [ inl l ↦ absurd (both_ways (member r used) e (among_member r used (below r (omega arith) l))) | inr l ↦ absurd (omega arith) ] ]

-- the machine's new record is the lowest that is not in use
pub new_is : (s : State) (k : ℕ) → k < 256 → (Among k (records_of s) → ⊥) → ((j : ℕ) → j < k → Among j (records_of s)) → new_record s ≡ k
unfolding new_record
new_is s k l free below = lowest_is (records_of s) 256 0 k (omega arith) (omega arith) free (λ j a b. below j b)
