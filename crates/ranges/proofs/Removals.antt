-- A table without some pages: what it says, and that it rises.
use Rattle.std.proofs.Common.{◌≡◌, ℕ, ◌<◌, ◌≤◌, cond, ◌⊎◌, List, [], ◌∷◌, ◌++◌, Some, None, sym, refl, ap, ◌∙◌, inl, inr, ⊎_elim, arith}
use Rattle.std.proofs.lemmas.Bool.{and_from, and_left, and_right, lt-ltb, le-ltb, le-leb, lt-leb, cond-true, cond-false, cases_lt}
use Rattle.ranges.specs.Shape.{Shape, Laws, end, holds, front_of, back_of}
use Rattle.ranges.specs.Tables.{said, removed, cut}
use Rattle.ranges.specs.Says.{Removes, Keeps}
use Rattle.ranges.proofs.Facts.{Proper, Rising, rising_lower, said_here, said_past}
use Rattle.ranges.proofs.Trims.{Trim, left, right, around, over_first, over_last, inside, trim}

module _ {E : Type 0} (S : Shape E) (L : Laws S) where
  pub front_end : (e : E) (p : ℕ) → S.first e < p → p < end S e → end S (front_of S p e) ≡ p
  front_end e p a b = omega (arith, L.front_first e p a b, L.front_pages e p a b)

  pub back_end : (e : E) (p : ℕ) → S.first e < p → p < end S e → end S (back_of S p e) ≡ end S e
  back_end e p a b = omega (arith, L.back_first e p a b, L.back_pages e p a b)

  pub front_proper : (e : E) (p : ℕ) → Proper S e → S.first e < p → p < end S e → Proper S (front_of S p e)
  front_proper e p ok a b = record {
    some = omega (arith, L.front_pages e p a b);
    within = omega (arith, front_end e p a b, ok.within);
    kept = L.front_fits e p ok.kept a b;
  }

  pub back_proper : (e : E) (p : ℕ) → Proper S e → S.first e < p → p < end S e → Proper S (back_of S p e)
  back_proper e p ok a b = record {
    some = omega (arith, L.back_pages e p a b);
    within = omega (arith, back_end e p a b, ok.within);
    kept = L.back_fits e p ok.kept a b;
  }

  -- what a part says is what the whole says
  said_front : (p q : ℕ) (e : E) (r : List E) → S.first e < p → p < end S e → S.first e ≤ q → q < p → said S q (front_of S p e ∷ r) ≡ Some (S.one q e)
  said_front p q e r a b from below =
      said_here S q _ r (omega (arith, L.front_first e p a b)) (omega (arith, front_end e p a b)) ∙ ap Some (L.front_says e p q from below b)

  said_back : (p q : ℕ) (e : E) (r : List E) → S.first e < p → p < end S e → p ≤ q → q < end S e → said S q (back_of S p e ∷ r) ≡ Some (S.one q e)
  said_back p q e r a b from below =
      said_here S q _ r (omega (arith, L.back_first e p a b)) (omega (arith, back_end e p a b)) ∙ ap Some (L.back_says e p q a from below)

  past_front : (p q : ℕ) (e : E) (r : List E) → S.first e < p → p < end S e → (q < S.first e) ⊎ (p ≤ q) → said S q (front_of S p e ∷ r) ≡ said S q r
  past_front p q e r a b out =
      said_past S q _ r (⊎_elim (λ h. inl (omega (arith, L.front_first e p a b))) (λ h. inr (omega (arith, front_end e p a b))) out)

  past_back : (p q : ℕ) (e : E) (r : List E) → S.first e < p → p < end S e → (q < p) ⊎ (end S e ≤ q) → said S q (back_of S p e ∷ r) ≡ said S q r
  past_back p q e r a b out =
      said_past S q _ r (⊎_elim (λ h. inl (omega (arith, L.back_first e p a b))) (λ h. inr (omega (arith, back_end e p a b))) out)

  -- a page outside is said as before
  trim_keeps : {f g : ℕ} {e : E} {ts : List E} (q : ℕ) (r : List E) → f ≤ g → (q < f) ⊎ (g ≤ q) → Trim S f g e ts → said S q (ts ++ r) ≡ said S q (e ∷ r)
  trim_keeps q r le out (left a) = refl
  trim_keeps q r le out (right a) = refl
  trim_keeps {f} {g} {e} q r le out (around a b) =
      elim (cases_lt q (S.first e)) [
        | inl h ↦ past_front f q e (back_of S g e ∷ r) a (omega arith) (inl h) ∙ past_back g q e r (omega arith) b (inl (omega arith)) ∙ sym (said_past S q e r (inl h))
        | inr h ↦ elim (cases_lt q (end S e)) [
          | inl k ↦ ⊎_elim
              (λ m. said_front f q e (back_of S g e ∷ r) a (omega arith) h m ∙ sym (said_here S q e r h k))
              (λ m. past_front f q e (back_of S g e ∷ r) a (omega arith) (inr (omega arith)) ∙ said_back g q e r (omega arith) b m k ∙ sym (said_here S q e r h k))
              out
          | inr k ↦ past_front f q e (back_of S g e ∷ r) a (omega arith) (inr (omega arith)) ∙ past_back g q e r (omega arith) b (inr k) ∙ sym (said_past S q e r (inr k))
        ]
      ]
  trim_keeps {f} {g} {e} q r le out (over_first a b d) =
      elim (cases_lt q (S.first e)) [
        | inl h ↦ past_front f q e r a b (inl h) ∙ sym (said_past S q e r (inl h))
        | inr h ↦ ⊎_elim
            (λ m. said_front f q e r a b h m ∙ sym (said_here S q e r h (omega arith)))
            (λ m. past_front f q e r a b (inr (omega arith)) ∙ sym (said_past S q e r (inr (omega arith))))
            out
      ]
  trim_keeps {f} {g} {e} q r le out (over_last a b d) =
      elim (cases_lt q (end S e)) [
        | inl h ↦ ⊎_elim
            (λ m. past_back g q e r b d (inl (omega arith)) ∙ sym (said_past S q e r (inl (omega arith))))
            (λ m. said_back g q e r b d m h ∙ sym (said_here S q e r (omega arith) h))
            out
        | inr h ↦ past_back g q e r b d (inr h) ∙ sym (said_past S q e r (inr h))
      ]
  trim_keeps {f} {g} {e} q r le out (inside a b) =
      sym (said_past S q e r (⊎_elim (λ h. inl (omega arith)) (λ h. inr (omega arith)) out))

  -- of a page inside nothing is said
  trim_silent : {f g : ℕ} {e : E} {ts : List E} (q : ℕ) (r : List E) → f ≤ q → q < g → Trim S f g e ts → said S q (ts ++ r) ≡ said S q r
  trim_silent {f} {g} {e} q r from below (left a) = said_past S q e r (inr (omega arith))
  trim_silent {f} {g} {e} q r from below (right a) = said_past S q e r (inl (omega arith))
  trim_silent {f} {g} {e} q r from below (around a b) =
      past_front f q e (back_of S g e ∷ r) a (omega arith) (inr from) ∙ past_back g q e r (omega arith) b (inl below)
  trim_silent {f} {g} {e} q r from below (over_first a b d) = past_front f q e r a b (inr from)
  trim_silent {f} {g} {e} q r from below (over_last a b d) = past_back g q e r b d (inl below)
  trim_silent q r from below (inside a b) = refl

  trim_rises : {f g : ℕ} {e : E} {ts : List E} (n : ℕ) (r : List E) → f ≤ g → Proper S e → n ≤ S.first e → Rising S (end S e) r → Trim S f g e ts → Rising S n (ts ++ r)
  trim_rises n r le ok from up (left a) = (ok, from, up)
  trim_rises n r le ok from up (right a) = (ok, from, up)
  trim_rises {f} {g} {e} n r le ok from up (around a b) =
      let f_in : f < end S e = omega arith in
      let g_in : S.first e < g = omega arith in (
        front_proper e f ok a f_in,
        omega (arith, L.front_first e f a f_in),
        (
          back_proper e g ok g_in b,
          omega (arith, front_end e f a f_in, L.back_first e g g_in b),
          rising_lower S _ _ r (omega (arith, back_end e g g_in b)) up,
        ),
      )
  trim_rises {f} {g} {e} n r le ok from up (over_first a b d) =
      (front_proper e f ok a b, omega (arith, L.front_first e f a b), rising_lower S _ _ r (omega (arith, front_end e f a b)) up)
  trim_rises {f} {g} {e} n r le ok from up (over_last a b d) =
      (back_proper e g ok b d, omega (arith, L.back_first e g b d), rising_lower S _ _ r (omega (arith, back_end e g b d)) up)
  trim_rises {f} {g} {e} n r le ok from up (inside a b) = rising_lower S _ _ r (omega arith) up

  said_tail : (q : ℕ) (e : E) (xs ys : List E) → said S q xs ≡ said S q ys → said S q (e ∷ xs) ≡ said S q (e ∷ ys)
  said_tail q e xs ys h = ap (cond (holds S q e) (Some (S.one q e))) h

  removed_keeps : (n f g q : ℕ) (es : List E) → Rising S n es → f ≤ g → (q < f) ⊎ (g ≤ q) → said S q (removed S f g es) ≡ said S q es
  removed_keeps n f g q [] up le out = refl
  removed_keeps n f g q (e ∷ es) up le out =
      trim_keeps q (removed S f g es) le out (trim S f g e up.0 le) ∙ said_tail q e _ _ (removed_keeps (end S e) f g q es up.2 le out)

  removed_silent : (n f g q : ℕ) (es : List E) → Rising S n es → f ≤ q → q < g → said S q (removed S f g es) ≡ None
  removed_silent n f g q [] up from below = refl
  removed_silent n f g q (e ∷ es) up from below =
      trim_silent q (removed S f g es) from below (trim S f g e up.0 (omega arith)) ∙ removed_silent (end S e) f g q es up.2 from below

  pub removed_rises : (n f g : ℕ) (es : List E) → Rising S n es → f ≤ g → Rising S n (removed S f g es)
  removed_rises n f g [] up le = tt
  removed_rises n f g (e ∷ es) up le =
      trim_rises n (removed S f g es) le up.0 up.1 (removed_rises (end S e) f g es up.2 le) (trim S f g e up.0 le)

  pub removed_says : (n f g : ℕ) (es : List E) → Rising S n es → f ≤ g → Removes S f g es (removed S f g es)
  removed_says n f g es up le p =
      elim (cases_lt p f) [
        | inl h ↦ removed_keeps n f g p es up le (inl h) ∙ sym (cond-false _ _ _ (and_left _ _ (lt-leb _ _ h)))
        | inr h ↦ elim (cases_lt p g) [
          | inl k ↦ removed_silent n f g p es up h k ∙ sym (cond-true _ _ _ (and_from _ _ (le-leb _ _ h) (lt-ltb _ _ k)))
          | inr k ↦ removed_keeps n f g p es up le (inr k) ∙ sym (cond-false _ _ _ (and_right _ _ (le-ltb _ _ k)))
        ]
      ]

  pub cut_says : (n p : ℕ) (es : List E) → Rising S n es → Keeps S es (cut S p es)
  cut_says n p es up q =
      removed_keeps n p p q es up (omega arith) (elim (cases_lt q p) as (λ _. (q < p) ⊎ (p ≤ q)) [ inl h ↦ inl h | inr h ↦ inr h ])
