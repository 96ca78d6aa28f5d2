-- A table with one element more: what it says, that it rises, and how the rows are moved for it.
use Rattle.std.proofs.Common.{◌≡◌, ℕ, ◌+◌, ◌-◌, ◌<◌, ◌≤◌, true, false, cond, ◌⊎◌, List, [], ◌∷◌, ◌++◌, length, take, drop, set, Some, sym, refl, ap, ◌∙◌, subst, inl, inr, ⊎_elim, arith}
use borrow.Rule.Slice.PartMut.{put_mid}
use Rattle.std.proofs.lemmas.List.{length-set, length-take-le, length-drop, length_push, take-set-le, take-take, take_more_set, drop-append-le, take_at, drop_at}
use Rattle.std.proofs.lemmas.Slice.{take-put_mid, between_is}
use Rattle.std.proofs.lemmas.Bool.{and_cases, or_parts, ltb-false, lt-ltb, le-ltb, cond-true, cond-false, cases_lt}
use Rattle.ranges.specs.Shape.{Shape, end, holds, proper}
use Rattle.ranges.specs.Tables.{rising, said, meets, taken, inserted}
use Rattle.ranges.specs.Says.{Inserts, full}
use Rattle.ranges.proofs.Facts.{Proper, Rising, used, proper_facts, rising_facts, rising_from, said_past, holds_yes, holds_no}

-- the rows from `at` on, with e behind them, turned by one
pub put_is : {E : Type 0} (xs ys : List E) (len at : ℕ) (e : E) → len < length xs → at ≤ len → (part : List E) → part ≡ take (len + 1 - at) (drop at (set xs len e)) → ys ≡ drop (length part - 1) part ++ take (length part - 1) part → take (len + 1) (put_mid at (len + 1 - at) (set xs len e) ys) ≡ take at (take len xs) ++ e ∷ drop at (take len xs)
put_is xs ys len at e room within part is turned =
    let rest = drop at (take len xs) in
    let long : length (take len xs) ≡ len = length-take-le len xs (omega arith) in
    let split : part ≡ rest ++ e ∷ [] = is ∙ between_is (set xs len e) at (len + 1) ∙ ap (drop at) (take_more_set xs len e room) ∙ drop-append-le at (take len xs) (e ∷ []) (omega arith) in
    let count : length part ≡ length rest + 1 = ap length split ∙ length_push rest e in
    let short : length rest ≡ length part - 1 = omega arith in
    let moved : ys ≡ e ∷ rest = turned ∙ ap (λ t. drop (length part - 1) t ++ take (length part - 1) t) split ∙ ap (λ t. t ++ take (length part - 1) (rest ++ e ∷ [])) (drop_at rest (e ∷ []) (length part - 1) short) ∙ ap (λ t. e ∷ t) (take_at rest (e ∷ []) (length part - 1) short) in
    let size : length ys ≡ len + 1 - at = ap length moved ∙ omega (arith, length-drop at (take len xs)) in
    take-put_mid at (len + 1 - at) (set xs len e) ys (len + 1) (omega arith) (omega (arith, length-set xs len e))
    ∙ ap (λ t. t ++ ys) (take-set-le at xs len e within ∙ sym (take-take at len xs within))
    ∙ ap (λ t. take at (take len xs) ++ t) moved

module _ {E : Type 0} (S : Shape E) where
  apart : (e x : E) → meets S e x ≡ false → (end S x ≤ S.first e) ⊎ (end S e ≤ S.first x)
  apart e x h = ⊎_elim (λ a. inl (ltb-false _ _ a)) (λ a. inr (ltb-false _ _ a)) (and_cases _ _ h)

  below : (e x : E) → Proper S x → meets S e x ≡ false → S.first e < S.first x → end S e ≤ S.first x
  below e x ok h l = ⊎_elim (λ a. absurd (omega (arith, ok.some))) (λ a. a) (apart e x h)

  above : (e x : E) → Proper S e → meets S e x ≡ false → S.first x ≤ S.first e → end S x ≤ S.first e
  above e x ok h l = ⊎_elim (λ a. a) (λ a. absurd (omega (arith, ok.some))) (apart e x h)

  before_head : (e x : E) (xs : List E) → S.first e < S.first x → inserted S e (x ∷ xs) ≡ e ∷ (x ∷ xs)
  before_head e x xs h = cond-true _ _ _ (lt-ltb _ _ h)

  after_head : (e x : E) (xs : List E) → S.first x ≤ S.first e → inserted S e (x ∷ xs) ≡ x ∷ inserted S e xs
  after_head e x xs h = cond-false _ _ _ (le-ltb _ _ h)

  pub inserted_length : (e : E) (es : List E) → length (inserted S e es) ≡ length es + 1
  inserted_length e [] = refl
  inserted_length e (x ∷ xs) =
      elim (cases_lt (S.first e) (S.first x)) [
        | inl h ↦ ap length (before_head e x xs h) ∙ omega arith
        | inr h ↦ ap length (after_head e x xs h) ∙ omega (arith, inserted_length e xs)
      ]

  inserted_rises : (n : ℕ) (e : E) (es : List E) → Rising S n es → Proper S e → n ≤ S.first e → taken S e es ≡ false → Rising S n (inserted S e es)
  inserted_rises n e [] up ok from free = (ok, from, tt)
  inserted_rises n e (x ∷ xs) up ok from free =
      let parts = or_parts _ _ free in
      elim (cases_lt (S.first e) (S.first x)) [
        | inl h ↦ rw (before_head e x xs h) (ok, from, (up.0, below e x up.0 parts.0 h, up.2))
        | inr h ↦ rw (after_head e x xs h) (up.0, up.1, inserted_rises (end S x) e xs up.2 ok (above e x ok parts.0 h) parts.1)
      ]

  inserted_says : (n : ℕ) (e : E) (es : List E) → Rising S n es → Proper S e → taken S e es ≡ false → Inserts S e es (inserted S e es)
  inserted_says n e [] up ok free p = refl
  inserted_says n e (x ∷ xs) up ok free p =
      let parts : (meets S e x ≡ false) × (taken S e xs ≡ false) = or_parts _ _ free in
      let more : said S p (inserted S e xs) ≡ cond (holds S p e) (Some (S.one p e)) (said S p xs) = inserted_says (end S x) e xs up.2 ok parts.1 p in
      elim (cases_lt (S.first e) (S.first x)) [
        | inl h ↦ ap (said S p) (before_head e x xs h)
        | inr h ↦ ap (said S p) (after_head e x xs h) ∙ elim (cases_lt p (S.first e)) [
          | inl k ↦ other p x xs e (holds_no S p e (inl k)) more
          | inr k ↦ elim (cases_lt p (end S e)) [
            | inl m ↦ said_past S p x _ (inr (omega (arith, above e x ok parts.0 h))) ∙ more ∙ cond-true _ _ _ (holds_yes S p e k m) ∙ sym (cond-true _ _ _ (holds_yes S p e k m))
            | inr m ↦ other p x xs e (holds_no S p e (inr m)) more
          ]
        ]
      ]
    where
      other : (p : ℕ) (x : E) (xs : List E) (e : E) → holds S p e ≡ false → said S p (inserted S e xs) ≡ cond (holds S p e) (Some (S.one p e)) (said S p xs) → said S p (x ∷ inserted S e xs) ≡ cond (holds S p e) (Some (S.one p e)) (said S p (x ∷ xs))
      other p x xs e out more = ap (cond (holds S p x) (Some (S.one p x))) (more ∙ cond-false _ _ _ out) ∙ sym (cond-false _ _ _ out)

  -- the table ys is es with e inserted
  module _ (e : E) (es : List E) (up : rising S 0 es ≡ true) (ok : proper S e ≡ true) (free : taken S e es ≡ false) where
    pub insert_says : (ys : List E) → ys ≡ inserted S e es → Inserts S e es ys
    insert_says ys is p = ap (said S p) is ∙ inserted_says 0 e es (rising_facts S 0 es up) (proper_facts S e ok) free p

    pub insert_rises : (ys : List E) → ys ≡ inserted S e es → rising S 0 ys ≡ true
    insert_rises ys is =
        ap (rising S 0) is ∙ rising_from S 0 _ (inserted_rises 0 e es (rising_facts S 0 es up) (proper_facts S e ok) (omega arith) free)

  module _ (e : E) (xs : List E) (len : ℕ) (within : len ≤ length xs) where
    more : length (inserted S e (take len xs)) ≡ len + 1
    more = inserted_length e (take len xs) ∙ omega (arith, length-take-le len xs within)

    pub insert_full : len ≡ length xs → full xs (inserted S e (take len xs)) ≡ true
    insert_full is = lt-ltb _ _ (omega (arith, more))

    pub insert_fits : len < length xs → full xs (inserted S e (take len xs)) ≡ false
    insert_fits l = le-ltb _ _ (omega (arith, more))

    pub insert_count : len + 1 ≡ length (inserted S e (take len xs))
    insert_count = sym more

    pub insert_is : (ys : List E) (at : ℕ) → inserted S e (take (len - 0) xs) ≡ take at (take (len - 0) xs) ++ e ∷ drop at (take (len - 0) xs) → take (len + 1) ys ≡ take at (take len xs) ++ e ∷ drop at (take len xs) → take (len + 1) ys ≡ inserted S e (take len xs)
    insert_is ys at placed moved =
        moved ∙ sym (subst (λ t. inserted S e t ≡ take at t ++ e ∷ drop at t) (used xs len) placed)
