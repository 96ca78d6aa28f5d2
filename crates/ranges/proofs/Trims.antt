-- What is left of an element without some pages, in six cases, and of a table.
use Rattle.std.proofs.Common.{◌≡◌, ℕ, ◌<◌, ◌≤◌, List, [], ◌∷◌, ◌++◌, ap, ◌∙◌, inl, inr, arith}
use Rattle.std.proofs.lemmas.Bool.{lt-ltb, le-ltb, le-leb, lt-leb, cond-true, cond-false, cases_lt}
use Rattle.ranges.specs.Shape.{Shape, end, front_of, back_of}
use Rattle.ranges.specs.Tables.{before, since, trimmed}
use Rattle.ranges.proofs.Facts.{Proper}

-- what is left of e without the pages from f to before g
pub data Trim {E : Type 0} (S : Shape E) (f g : ℕ) (e : E) : List E → Type 0 where
  left : end S e ≤ f → Trim S f g e (e ∷ [])
  right : g ≤ S.first e → Trim S f g e (e ∷ [])
  around : S.first e < f → g < end S e → Trim S f g e (front_of S f e ∷ (back_of S g e ∷ []))
  over_first : S.first e < f → f < end S e → end S e ≤ g → Trim S f g e (front_of S f e ∷ [])
  over_last : f ≤ S.first e → S.first e < g → g < end S e → Trim S f g e (back_of S g e ∷ [])
  inside : f ≤ S.first e → end S e ≤ g → Trim S f g e []

module _ {E : Type 0} (S : Shape E) where
  before_all : (p : ℕ) (e : E) → end S e ≤ p → before S p e ≡ e ∷ []
  before_all p e h = cond-true _ _ _ (le-leb _ _ h)

  before_part : (p : ℕ) (e : E) → S.first e < p → p < end S e → before S p e ≡ front_of S p e ∷ []
  before_part p e a b = cond-false _ _ _ (lt-leb _ _ b) ∙ cond-true _ _ _ (lt-ltb _ _ a)

  before_none : (p : ℕ) (e : E) → p ≤ S.first e → p < end S e → before S p e ≡ []
  before_none p e a b = cond-false _ _ _ (lt-leb _ _ b) ∙ cond-false _ _ _ (le-ltb _ _ a)

  since_all : (p : ℕ) (e : E) → p ≤ S.first e → since S p e ≡ e ∷ []
  since_all p e h = cond-true _ _ _ (le-leb _ _ h)

  since_part : (p : ℕ) (e : E) → S.first e < p → p < end S e → since S p e ≡ back_of S p e ∷ []
  since_part p e a b = cond-false _ _ _ (lt-leb _ _ a) ∙ cond-true _ _ _ (lt-ltb _ _ b)

  since_none : (p : ℕ) (e : E) → S.first e < p → end S e ≤ p → since S p e ≡ []
  since_none p e a b = cond-false _ _ _ (lt-leb _ _ a) ∙ cond-false _ _ _ (le-ltb _ _ b)

  -- the two parts, joined
  parts : (f g : ℕ) (e : E) (bs ss : List E) → before S f e ≡ bs → since S g e ≡ ss → Trim S f g e (bs ++ ss) → Trim S f g e (trimmed S f g e)
  parts f g e bs ss b s t = rw (b, s) t

  pub trim : (f g : ℕ) (e : E) → Proper S e → f ≤ g → Trim S f g e (trimmed S f g e)
  trim f g e ok le =
      let some = ok.some in
      elim (cases_lt (S.first e) f) [
        | inl a ↦ elim (cases_lt f (end S e)) [
          | inl b ↦ elim (cases_lt g (end S e)) [
            | inl d ↦ parts f g e _ _ (before_part f e a b) (since_part g e (omega arith) d) (around a d)
            | inr d ↦ parts f g e _ _ (before_part f e a b) (since_none g e (omega arith) d) (over_first a b d)
          ]
          | inr b ↦ parts f g e _ _ (before_all f e b) (since_none g e (omega arith) (omega arith)) (left b)
        ]
        | inr a ↦ elim (cases_lt (S.first e) g) [
          | inl b ↦ elim (cases_lt g (end S e)) [
            | inl d ↦ parts f g e _ _ (before_none f e a (omega arith)) (since_part g e b d) (over_last a b d)
            | inr d ↦ parts f g e _ _ (before_none f e a (omega arith)) (since_none g e b d) (inside a d)
          ]
          | inr b ↦ parts f g e _ _ (before_none f e a (omega arith)) (since_all g e b) (right b)
        ]
      ]

  joined_parts : (f g : ℕ) (e : E) (bs ss : List E) → before S f e ≡ bs → since S g e ≡ ss → trimmed S f g e ≡ bs ++ ss
  joined_parts f g e bs ss b s = ap (λ t. t ++ since S g e) b ∙ ap (λ t. bs ++ t) s

  pub trimmed_left : (f g : ℕ) (e : E) → Proper S e → f ≤ g → end S e ≤ f → trimmed S f g e ≡ e ∷ []
  trimmed_left f g e ok le h =
      joined_parts f g e _ _ (before_all f e h) (since_none g e (omega (arith, ok.some)) (omega arith))

  pub trimmed_right : (f g : ℕ) (e : E) → Proper S e → f ≤ g → g ≤ S.first e → trimmed S f g e ≡ e ∷ []
  trimmed_right f g e ok le h =
      joined_parts f g e _ _ (before_none f e (omega arith) (omega (arith, ok.some))) (since_all g e h)

  pub trimmed_around : (f g : ℕ) (e : E) → f ≤ g → S.first e < f → g < end S e → trimmed S f g e ≡ front_of S f e ∷ (back_of S g e ∷ [])
  trimmed_around f g e le a b = joined_parts f g e _ _ (before_part f e a (omega arith)) (since_part g e (omega arith) b)
