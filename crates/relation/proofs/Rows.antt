-- The engine's rows of tasks and the machine's tasks.
use Rattle.std.proofs.Common.{◌≡◌, ℕ, zero, suc, ◌+◌, ◌-◌, ◌<◌, Bool, true, false, cond, not, ◌&&◌, leb, ◌⊎◌, List, [], ◌∷◌, length, get_or, set, is_some, Some, None, Option, unwrap_or, sym, refl, ap, ◌∙◌, subst, inl, inr, arith}
use Rattle.std.specs.List.{flat_map}
use Rattle.std.proofs.lemmas.Option.{none-some, same_Some}
use Rattle.std.proofs.lemmas.Bool.{both_ways, cases_eq, eq-eqb, ne_eqb, leb-true, le-leb, and_parts, and_from}
use Rattle.std.proofs.lemmas.List.{get_or-set_same, get_or-set_other}
use Rattle.ranges.specs.Tables.{rising}
use Rattle.machine.specs.declared.words.Entry.{Entry}
use Rattle.machine.specs.Entries.{entry_shape}
use Rattle.machine.specs.State.{State, numbers, table, lives, all_entries}
use Rattle.machine.specs.Step.{misnumbered, missing, with_task}
use Rattle.tasks.specs.Tables.{Place, shown}
use Rattle.relation.specs.Stands.{place_of, table_of, task_at}
use Rattle.relation.specs.Orderly.{Orderly}

-- the machine has the tasks of the rows
abbrev pub SameTasks : List Place → State → Type 0
SameTasks tasks s = (n : ℕ) → s.tasks n ≡ task_at tasks (place_of n)

-- Places

placeless : (b : Bool) (k : ℕ) → cond b (Some k) None ≡ None → not b ≡ true
placeless true k e = absurd (none-some k (sym e))
placeless false k e = refl

placed : (b : Bool) (j k : ℕ) → cond b (Some j) None ≡ Some k → (b ≡ true) × (j ≡ k)
placed true j k e = (refl, same_Some j k e)
placed false j k e = absurd (none-some k e)

-- a number with no place is none of a task's, and one with a place is
pub outside : (n : ℕ) → place_of n ≡ None → misnumbered n ≡ true
unfolding misnumbered
outside n e = placeless (leb 1 n && leb n 16) (n - 1) e

pub inside : (n k : ℕ) → place_of n ≡ Some k → misnumbered n ≡ false
unfolding misnumbered
inside n k e = ap not (placed (leb 1 n && leb n 16) (n - 1) k e).0

pub place_misnumbered : (n : ℕ) → misnumbered n ≡ true → place_of n ≡ None
unfolding misnumbered
place_misnumbered n e = go (leb 1 n && leb n 16) e
  where
    go : (b : Bool) → not b ≡ true → cond b (Some (n - 1)) None ≡ None
    go true e = absurd (both_ways false refl e)
    go false e = refl

-- two tasks have two places
pub place_same : (n u k : ℕ) → place_of n ≡ Some k → place_of u ≡ Some k → u ≡ n
place_same n u k p q =
    let a = placed (leb 1 n && leb n 16) (n - 1) k p in
    let b = placed (leb 1 u && leb u 16) (u - 1) k q in
    omega (arith, leb-true 1 n (and_parts (leb 1 n) (leb n 16) a.0).0, leb-true 1 u (and_parts (leb 1 u) (leb u 16) b.0).0, a.1, b.1)

-- the task at place k has number k + 1
pub place_next : (k : ℕ) → k < 16 → place_of (suc k) ≡ Some k
place_next k l =
    rw (and_from (leb 1 (suc k)) (leb (suc k) 16) (le-leb 1 (suc k) (omega arith)) (le-leb (suc k) 16 (omega arith)))
    (ap Some (let e : suc k - 1 ≡ k = omega arith in e))

-- One row replaced

set_other : (tasks : List Place) (k : ℕ) (x : Place) (p : Option ℕ) → (p ≡ Some k → ⊥) → task_at (set tasks k x) p ≡ task_at tasks p
set_other tasks k x None ne = refl
set_other tasks k x (Some j) ne = ap shown (get_or-set_other tasks k j x None (λ e. ne (ap Some e)))

put_task : (tasks : List Place) (s : State) (n k : ℕ) (x : Place) → SameTasks tasks s → place_of n ≡ Some k → k < length tasks → (u : ℕ) → ((u ≡ n) ⊎ (u ≡ n → ⊥)) → (with_task s n (shown x)).tasks u ≡ task_at (set tasks k x) (place_of u)
unfolding with_task
put_task tasks s n k x h p lt u (inl e) =
    rw (eq-eqb u n e, e, p, get_or-set_same tasks k x None lt) refl
put_task tasks s n k x h p lt u (inr ne) =
    rw (ne_eqb u n ne) (h u ∙ sym (set_other tasks k x (place_of u) (λ q. ne (place_same n u k p q))))

-- a row that is replaced stands for a task that is replaced
pub same_put : (tasks : List Place) (s : State) (n k : ℕ) (x : Place) → SameTasks tasks s → place_of n ≡ Some k → k < length tasks → SameTasks (set tasks k x) (with_task s n (shown x))
same_put tasks s n k x h p lt u = put_task tasks s n k x h p lt u (cases_eq u n)

-- Tables

-- a task's table, by its row
pub table_row : (tasks : List Place) (s : State) (n k : ℕ) → SameTasks tasks s → place_of n ≡ Some k → table s n ≡ table_of (get_or tasks k None)
unfolding table
table_row tasks s n k h p = ap (λ o. unwrap_or o []) (h n ∙ ap (task_at tasks) p)

pub table_none : (tasks : List Place) (s : State) (n : ℕ) → SameTasks tasks s → place_of n ≡ None → table s n ≡ []
unfolding table
table_none tasks s n h p = ap (λ o. unwrap_or o []) (h n ∙ ap (task_at tasks) p)

-- every task's table rises
pub table_rises : (x : Place) → rising entry_shape 0 (table_of x) ≡ true
table_rises None = refl
table_rises (Some t) = t.ordered

-- the machine's tables are orderly
pub orderly : (tasks : List Place) (s : State) → SameTasks tasks s → Orderly s
orderly tasks s h = record {
  rises = λ n. go n (place_of n) refl;
  numbered = λ n e. table_none tasks s n h (place_misnumbered n e);
}
  where
    go : (n : ℕ) (p : Option ℕ) → place_of n ≡ p → rising entry_shape 0 (table s n) ≡ true
    go n None e = rw (table_none tasks s n h e) refl
    go n (Some k) e = rw (table_row tasks s n k h e) (table_rises (get_or tasks k None))

-- whether the task lives, by its row
lives_shown : (x : Place) → is_some (shown x) ≡ is_some x
lives_shown None = refl
lives_shown (Some t) = refl

pub lives_row : (tasks : List Place) (s : State) (n k : ℕ) → SameTasks tasks s → place_of n ≡ Some k → lives s n ≡ is_some (get_or tasks k None)
unfolding lives
lives_row tasks s n k h p = ap is_some (h n ∙ ap (task_at tasks) p) ∙ lives_shown (get_or tasks k None)

pub missing_outside : (s : State) (n : ℕ) → place_of n ≡ None → missing s n ≡ true
unfolding missing
missing_outside s n p = rw (outside n p) refl

pub missing_row : (tasks : List Place) (s : State) (n k : ℕ) → SameTasks tasks s → place_of n ≡ Some k → missing s n ≡ not (is_some (get_or tasks k None))
unfolding missing
missing_row tasks s n k h p = rw (inside n k p, lives_row tasks s n k h p) refl

-- All entries

counting_from : ℕ → ℕ → List ℕ
counting_from i zero = []
counting_from i (suc n) = i ∷ counting_from (suc i) n

joined_rows : (f : ℕ → List Entry) (xs : List Place) (i : ℕ) → ((j : ℕ) → j < length xs → f (i + j) ≡ table_of (get_or xs j None)) → flat_map f (counting_from i (length xs)) ≡ flat_map table_of xs
unfolding counting_from
joined_rows f [] i h = refl
joined_rows f (x ∷ xs) i h =
    let first : f i ≡ table_of x = ap f (let e : i ≡ i + 0 = omega arith in e) ∙ h 0 (omega arith) in
    let rest = joined_rows f xs (suc i) (λ j l. ap f (let e : suc i + j ≡ i + suc j = omega arith in e) ∙ h (suc j) (omega arith)) in
    rw (first, rest) refl

-- the entries of all tasks, row by row
pub all_rows : (tasks : List Place) (s : State) → SameTasks tasks s → length tasks ≡ 16 → all_entries s ≡ flat_map table_of tasks
unfolding all_entries numbers counting_from
all_rows tasks s h len =
    subst (λ n. flat_map (table s) (counting_from 1 n) ≡ flat_map table_of tasks) len
    (joined_rows (table s) tasks 1 (λ j l. ap (table s) (let e : 1 + j ≡ suc j = omega arith in e) ∙ table_row tasks s (suc j) j h (place_next j (omega arith))))
