-- Where an element has pages on both sides of a run of pages.
use Rattle.std.specs.Prelude.{ℕ, ◌<◌, cond, List, [], ◌∷◌, length, slice_index_or}
use Rattle.ranges.specs.Shape.{Shape, end, holds}

-- no element has pages both below f and from g on
abbrev pub Apart : {E : Type 0} → Shape E → ℕ → ℕ → List E → Type 0
Apart {E} S f g es = (k : ℕ) (d : E) → k < length es → S.first (slice_index_or es k d) < f → g < end S (slice_index_or es k d) → ⊥

-- the element at place i has pages both below f and from g on
abbrev pub Around : {E : Type 0} → Shape E → ℕ → ℕ → List E → ℕ → Type 0
Around {E} S f g es i = (i < length es) × ((d : E) → S.first (slice_index_or es i d) < f) × ((d : E) → g < end S (slice_index_or es i d))

-- going up from page p: the page after each element that holds the one come to
abbrev pub reach : {E : Type 0} → Shape E → ℕ → List E → ℕ
reach S p [] = p
reach S p (e ∷ es) = reach S (cond (holds S p e) (end S e) p) es
