-- Edits of a whole table, row by row.
use Rattle.std.proofs.Common.{◌≡◌, ℕ, ◌<◌, ◌≤◌, List, length, get_or, set, replicate, ap, ◌∙◌, inl, inr, arith}
use Rattle.std.proofs.lemmas.List.{get_or-set_same, get_or-set_other, get_or_past, get_or-replicate, length-replicate}
use Rattle.std.proofs.lemmas.Bool.{cases_lt}
use Rattle.chains.specs.Sound.{Put}

-- the first i rows are edited
abbrev pub Edited : {A : Type 0} → A → (A → A) → List A → List A → ℕ → Type 0
Edited d f xs ys i = ((s : ℕ) → s < i → get_or ys s d ≡ f (get_or xs s d)) × ((s : ℕ) → i ≤ s → get_or ys s d ≡ get_or xs s d)

-- one row is set
pub set_put : {A : Type 0} (d : A) (xs ys : List A) (k : ℕ) (x : A) → k < length xs → ys ≡ set xs k x → Put (λ j. get_or xs j d) (λ j. get_or ys j d) k x
set_put d xs ys k x l h = record {
  here = ap (λ zs. get_or zs k d) h ∙ get_or-set_same xs k x d l;
  elsewhere = λ j n. ap (λ zs. get_or zs j d) h ∙ get_or-set_other xs k j x d n;
}

-- a table of one row over and over
pub repeated : {A : Type 0} (n : ℕ) (x : A) (k : ℕ) → get_or (replicate n x) k x ≡ x
repeated n x k =
    elim (cases_lt k n) [ inl l ↦ get_or-replicate n k x x l | inr g ↦ get_or_past (replicate n x) k x (omega (arith, length-replicate n x)) ]
