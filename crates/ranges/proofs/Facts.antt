-- Proper elements and rising tables as facts, and what a table says of a page.
use Rattle.std.proofs.Common.{◌≡◌, ℕ, zero, suc, ◌-◌, ◌<◌, ◌≤◌, true, false, ◌⊎◌, List, [], ◌∷◌, length, get_or, take, Some, None, refl, ap, ◌∙◌, inl, ⊎_elim, arith}
use Rattle.std.proofs.lemmas.Bool.{and_parts, and_from, and_left, and_right, ltb-true, leb-true, lt-ltb, le-ltb, le-leb, lt-leb, cond-true, cond-false}
use Rattle.ranges.specs.Shape.{Shape, end, holds, proper}
use Rattle.ranges.specs.Tables.{rising, said}

-- the rows in use, as `&rows[0..len]` is read
pub used : {E : Type 0} (xs : List E) (len : ℕ) → take (len - 0) xs ≡ take len xs
used xs len = ap (λ n. take n xs) (omega arith)

pub record Proper {E : Type 0} (S : Shape E) (e : E) : Type 0 where
  pub some : 0 < S.pages e
  pub within : end S e ≤ 4096
  pub kept : S.fits e ≡ true

abbrev pub Rising : {E : Type 0} → Shape E → ℕ → List E → Type 0
Rising S n [] = Unit {0}
Rising S n (e ∷ es) = Proper S e × (n ≤ S.first e) × Rising S (end S e) es

module _ {E : Type 0} (S : Shape E) where
  pub proper_facts : (e : E) → proper S e ≡ true → Proper S e
  proper_facts e h =
      let both = and_parts _ _ h in
      let place = and_parts _ _ both.0 in
      record { some = ltb-true _ _ place.0; within = leb-true _ _ place.1; kept = both.1 }

  pub proper_from : (e : E) → Proper S e → proper S e ≡ true
  proper_from e h = and_from _ _ (and_from _ _ (lt-ltb _ _ h.some) (le-leb _ _ h.within)) h.kept

  pub rising_facts : (n : ℕ) (es : List E) → rising S n es ≡ true → Rising S n es
  rising_facts n [] h = tt
  rising_facts n (e ∷ es) h =
      let both = and_parts _ _ h in
      let here = and_parts _ _ both.0 in
      (proper_facts e here.0, leb-true _ _ here.1, rising_facts (end S e) es both.1)

  pub rising_from : (n : ℕ) (es : List E) → Rising S n es → rising S n es ≡ true
  rising_from n [] h = refl
  rising_from n (e ∷ es) h =
      and_from _ _ (and_from _ _ (proper_from e h.0) (le-leb _ _ h.1)) (rising_from (end S e) es h.2)

  pub rising_lower : (m n : ℕ) (es : List E) → m ≤ n → Rising S n es → Rising S m es
  rising_lower m n [] le h = tt
  rising_lower m n (e ∷ es) le h = (h.0, omega arith, h.2)

  pub proper_at : (n : ℕ) (es : List E) (i : ℕ) (d : E) → Rising S n es → i < length es → Proper S (get_or es i d)
  proper_at n [] i d h l = absurd (omega arith)
  proper_at n (e ∷ es) zero d h l = h.0
  proper_at n (e ∷ es) (suc i) d h l = proper_at (end S e) es i d h.2 (omega arith)

  pub holds_yes : (p : ℕ) (e : E) → S.first e ≤ p → p < end S e → holds S p e ≡ true
  holds_yes p e from below = and_from _ _ (le-leb _ _ from) (lt-ltb _ _ below)

  pub holds_no : (p : ℕ) (e : E) → (p < S.first e) ⊎ (end S e ≤ p) → holds S p e ≡ false
  holds_no p e = ⊎_elim (λ h. and_left _ _ (lt-leb _ _ h)) (λ h. and_right _ _ (le-ltb _ _ h))

  pub said_here : (p : ℕ) (e : E) (es : List E) → S.first e ≤ p → p < end S e → said S p (e ∷ es) ≡ Some (S.one p e)
  said_here p e es from below = cond-true _ _ _ (holds_yes p e from below)

  pub said_past : (p : ℕ) (e : E) (es : List E) → (p < S.first e) ⊎ (end S e ≤ p) → said S p (e ∷ es) ≡ said S p es
  said_past p e es out = cond-false _ _ _ (holds_no p e out)

  pub said_below : (p n : ℕ) (es : List E) → Rising S n es → p < n → said S p es ≡ None
  said_below p n [] h l = refl
  said_below p n (e ∷ es) h l =
      said_past p e es (inl (omega arith)) ∙ said_below p (end S e) es h.2 (omega arith)

  pub holds_facts : (p : ℕ) (e : E) → holds S p e ≡ true → (S.first e ≤ p) × (p < end S e)
  holds_facts p e h = let both = and_parts _ _ h in (leb-true _ _ both.0, ltb-true _ _ both.1)
