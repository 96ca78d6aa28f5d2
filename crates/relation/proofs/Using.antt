-- Records in use, and the records that the machine's entries name.
use Rattle.std.proofs.Common.{◌≡◌, ℕ, zero, suc, ◌*◌, ◌<◌, ◌≤◌, true, false, not, eqb, List, [], ◌∷◌, length, get_or, Some, None, sym, ap, ◌∙◌, subst, inl, inr, arith, length-append}
use Rattle.std.specs.List.{flat_map}
use Rattle.std.proofs.lemmas.Bool.{both_ways, cases_lt, eq-eqb, eqb-true, not-false, not-true}
use Rattle.std.proofs.lemmas.List.{length-take}
use Rattle.machine.specs.declared.words.Entry.{Entry}
use Rattle.machine.specs.State.{State, all_entries, living_records, new_record}
use Rattle.chains.proofs.Finds.{lowest_some}
use Rattle.objects.specs.declared.tables.Tables.{Tables}
use Rattle.objects.specs.View.{in_use, records_used}
use Rattle.objects.specs.Says.{unused_record}
use Rattle.tasks.specs.Tables.{Place, Task, entries}
use Rattle.relation.specs.Stands.{table_of, RecordsNamed}
use Rattle.relation.proofs.Lists.{Among, among_map, among_unmap}
use Rattle.relation.proofs.Rows.{SameTasks, all_rows}
use Rattle.relation.proofs.Named.{picture, picture_same, any_among, among_any, named_any}
use Rattle.relation.proofs.Tallies.{records_of, count_records, records_few, new_is}

module _ (tasks : List Place) (t : Tables) (used : RecordsNamed tasks t) (len : length tasks ≡ 16) (few : (r : ℕ) → 256 ≤ r → in_use t r ≡ false) where
  below : (r : ℕ) → in_use t r ≡ true → r < 256
  below r h = elim (cases_lt r 256) [ inl l ↦ l | inr l ↦ absurd (both_ways (in_use t r) (few r l) h) ]

  module _ (s : State) (same : SameTasks tasks s) where
    rows : all_entries s ≡ flat_map table_of tasks
    rows = all_rows tasks s same len

    -- a record in use is one that an entry names
    used_among : (r : ℕ) → in_use t r ≡ true → Among r (records_of s)
    used_among r h =
        let x = any_among (λ e. eqb e.sharing r) (flat_map table_of tasks) (sym (named_any r tasks) ∙ sym (used r) ∙ h) in
        subst (λ a. Among a (records_of s)) (eqb-true x.0.sharing r x.2) (among_map (λ (e : Entry). e.sharing) x.0 (all_entries s) (subst (Among x.0) (sym rows) x.1))

    among_used : (r : ℕ) → Among r (records_of s) → in_use t r ≡ true
    among_used r a =
        let x = among_unmap (λ (e : Entry). e.sharing) r (all_entries s) a in
        used r ∙ named_any r tasks ∙ among_any (λ e. eqb e.sharing r) x.0 (flat_map table_of tasks) (subst (Among x.0) rows x.1) (eq-eqb x.0.sharing r (sym x.2))

    -- as many as are in use
    pub records_counted : length (living_records s) ≡ records_used t
    records_counted = count_records s (in_use t) 256 (λ r a. let h = among_used r a in (below r h, h)) (λ r l h. used_among r h)

    -- the lowest that is not in use is the machine's new one
    pub new_unused : (q : ℕ) → unused_record t ≡ Some q → new_record s ≡ q
    new_unused q h =
        let x = lowest_some 256 (λ k. not (in_use t k)) q h in
        new_is s q x.0 (λ a. both_ways (in_use t q) (not-true (in_use t q) x.1) (among_used q a)) (λ j l. used_among j (not-false (in_use t j) (x.2 j l)))

  -- no more records are in use than there are entries
  pub used_few : records_used t ≤ length (flat_map table_of tasks)
  used_few =
      let a = records_counted (picture tasks) (picture_same tasks) in
      let b = records_few (picture tasks) in
      let c = ap (length {A = Entry}) (rows (picture tasks) (picture_same tasks)) in
      omega (arith, a, b, c)

-- Entries of all tasks

-- a task has at most 16 entries
pub entries_few : (x : Task) → length (entries x) ≤ 16
entries_few x = omega (arith, x.fit, length-take x.len x.rows)

pub table_few : (x : Place) → length (table_of x) ≤ 16
table_few None = omega arith
table_few (Some t) = entries_few t

-- the tasks have at most 16 entries each
pub rows_few : (tasks : List Place) → length (flat_map table_of tasks) ≤ 16 * length tasks
rows_few [] = omega arith
rows_few (x ∷ xs) = omega (arith, length-append (table_of x) (flat_map table_of xs), table_few x, rows_few xs)

-- and one less if one of them is not full
pub rows_fewer : (tasks : List Place) (k : ℕ) → k < length tasks → length (table_of (get_or tasks k None)) < 16 → length (flat_map table_of tasks) < 16 * length tasks
rows_fewer [] k l h = absurd (omega arith)
rows_fewer (x ∷ xs) zero l h = omega (arith, length-append (table_of x) (flat_map table_of xs), rows_few xs)
rows_fewer (x ∷ xs) (suc k) l h = omega (arith, length-append (table_of x) (flat_map table_of xs), table_few x, rows_fewer xs k (omega arith) h)
