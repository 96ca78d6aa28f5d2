-- A range is covered exactly if going up from its first page leads to its end.
use Rattle.std.proofs.Common.{◌≡◌, ℕ, zero, suc, ◌+◌, ◌<◌, ◌≤◌, true, false, leb, ◌⊎◌, List, [], ◌∷◌, is_some, None, sym, refl, ap, ◌∙◌, inl, inr, arith}
use Rattle.std.proofs.lemmas.Bool.{and_from, and_left, and_right, le-leb, lt-leb, cond-true, cond-false, cases_lt, cases_eq}
use Rattle.ranges.specs.Shape.{Shape, end}
use Rattle.ranges.specs.Tables.{said, covered, rising}
use Rattle.ranges.specs.Places.{reach}
use Rattle.ranges.proofs.Facts.{Rising, rising_facts, said_here, said_past, holds_yes, holds_no}

module _ {E : Type 0} (S : Shape E) where
  reach_held : (p : ℕ) (e : E) (es : List E) → S.first e ≤ p → p < end S e → reach S p (e ∷ es) ≡ reach S (end S e) es
  reach_held p e es a b = ap (λ q. reach S q es) (cond-true _ _ _ (holds_yes S p e a b))

  reach_past : (p : ℕ) (e : E) (es : List E) → (p < S.first e) ⊎ (end S e ≤ p) → reach S p (e ∷ es) ≡ reach S p es
  reach_past p e es out = ap (λ q. reach S q es) (cond-false _ _ _ (holds_no S p e out))

  reach_below : (p n : ℕ) (es : List E) → Rising S n es → p < n → reach S p es ≡ p
  reach_below p n [] up l = refl
  reach_below p n (e ∷ es) up l = reach_past p e es (inl (omega arith)) ∙ reach_below p (end S e) es up.2 (omega arith)

  reach_up : (p n : ℕ) (es : List E) → Rising S n es → p ≤ reach S p es
  reach_up p n [] up = omega arith
  reach_up p n (e ∷ es) up =
      elim (cases_lt p (S.first e)) [
        | inl h ↦ rw (reach_past p e es (inl h)) (reach_up p (end S e) es up.2)
        | inr h ↦ elim (cases_lt p (end S e)) [
          | inl k ↦ omega (arith, reach_held p e es h k, reach_up (end S e) (end S e) es up.2)
          | inr k ↦ rw (reach_past p e es (inr k)) (reach_up p (end S e) es up.2)
        ]
      ]

  -- each page on the way is said of
  reach_said : (p q n : ℕ) (es : List E) → Rising S n es → p ≤ q → q < reach S p es → is_some (said S q es) ≡ true
  reach_said p q n [] up from below = absurd (omega arith)
  reach_said p q n (e ∷ es) up from below =
      elim (cases_lt q (S.first e)) [
        | inl h ↦ absurd (omega (arith, reach_past p e es (inl (omega arith)), reach_below p (end S e) es up.2 (omega arith)))
        | inr h ↦ elim (cases_lt q (end S e)) [
          | inl k ↦ ap is_some (said_here S q e es h k)
          | inr k ↦ ap is_some (said_past S q e es (inr k)) ∙ elim (cases_lt p (S.first e)) [
            | inl a ↦ reach_said p q (end S e) es up.2 from (omega (arith, reach_past p e es (inl a)))
            | inr a ↦ elim (cases_lt p (end S e)) [
              | inl b ↦ reach_said (end S e) q (end S e) es up.2 k (omega (arith, reach_held p e es a b))
              | inr b ↦ reach_said p q (end S e) es up.2 from (omega (arith, reach_past p e es (inr b)))
            ]
          ]
        ]
      ]

  -- and the page come to is not
  reach_none : (p n : ℕ) (es : List E) → Rising S n es → said S (reach S p es) es ≡ None
  reach_none p n [] up = refl
  reach_none p n (e ∷ es) up =
      elim (cases_lt p (S.first e)) [
        | inl h ↦
            let at = reach_past p e es (inl h) in
            let low = reach_below p (end S e) es up.2 (omega arith) in
            said_past S (reach S p (e ∷ es)) e es (inl (omega arith)) ∙ ap (λ q. said S q es) at ∙ reach_none p (end S e) es up.2
        | inr h ↦ elim (cases_lt p (end S e)) [
          | inl k ↦
              let at = reach_held p e es h k in
              said_past S (reach S p (e ∷ es)) e es (inr (omega (arith, reach_up (end S e) (end S e) es up.2))) ∙ ap (λ q. said S q es) at ∙ reach_none (end S e) (end S e) es up.2
          | inr k ↦
              let at = reach_past p e es (inr k) in
              said_past S (reach S p (e ∷ es)) e es (inr (omega (arith, reach_up p (end S e) es up.2))) ∙ ap (λ q. said S q es) at ∙ reach_none p (end S e) es up.2
        ]
      ]

  covered_all : (p n : ℕ) (es : List E) → ((q : ℕ) → p ≤ q → q < p + n → is_some (said S q es) ≡ true) → covered S p n es ≡ true
  covered_all p zero es h = refl
  covered_all p (suc n) es h =
      and_from _ _ (h p (omega arith) (omega arith)) (covered_all (suc p) n es (λ q a b. h q (omega arith) (omega arith)))

  covered_not : (p n q : ℕ) (es : List E) → p ≤ q → q < p + n → said S q es ≡ None → covered S p n es ≡ false
  covered_not p zero q es from below none = absurd (omega arith)
  covered_not p (suc n) q es from below none =
      elim (cases_eq p q) [
        | inl h ↦ and_left _ _ (ap (λ k. is_some (said S k es)) h ∙ ap is_some none)
        | inr h ↦ and_right _ _ (covered_not (suc p) n q es (omega arith) (omega arith) none)
      ]

  pub covered_reach : (p n stop far : ℕ) (es : List E) → rising S 0 es ≡ true → stop ≡ p + n → far ≡ reach S p es → leb stop far ≡ covered S p n es
  covered_reach p n stop far es up is at =
      let facts = rising_facts S 0 es up in
      elim (cases_lt far stop) [
        | inl h ↦ lt-leb _ _ h ∙ sym (covered_not p n (reach S p es) es (reach_up p 0 es facts) (omega arith) (reach_none p 0 es facts))
        | inr h ↦ le-leb _ _ h ∙ sym (covered_all p n es (λ q a b. reach_said p q 0 es facts a (omega arith)))
      ]
