-- One row more of a scan.
use Rattle.std.proofs.Common.{find, ◌≤◌, ◌&&◌, nat_le, position, unwrap_or, cond, not, nat_lt, None, Bool, suc, refl, ◌≡◌, ℕ, ◌+◌, ◌<◌, true, false, List, [], ◌∷◌, ◌++◌, length, get_or, take, drop, Some, sym, ap, ◌∙◌, subst, arith}
use Rattle.std.proofs.lemmas.List.{drop_more, take_more}
use Rattle.std.proofs.lemmas.Bool.{and_parts, cond-true, cond-false, ltb-false}
use Rattle.std.proofs.lemmas.Option.{none-some, same_Some}
use Rattle.std.proofs.lemmas.List.Sums.{prefix_len-le-length}
use Rattle.std.specs.List.{position_or_len}
use Rattle.std.specs.Option.{option_map}
use Rattle.ranges.specs.Shape.{Shape, end, holds, proper}
use Rattle.ranges.specs.Tables.{rising, said, inserted}
use Rattle.ranges.specs.Places.{reach}
use Rattle.ranges.proofs.Facts.{rising_facts, proper_from, proper_at, holds_facts}

pub drop_read : {E : Type 0} (xs : List E) (i : ℕ) (x : E) → i < length xs → x ≡ get_or xs i x → drop i xs ≡ x ∷ drop (i + 1) xs
drop_read xs i x l read = drop_more xs i x l ∙ ap (λ y. y ∷ drop (i + 1) xs) (sym read)

pub take_read : {E : Type 0} (xs : List E) (i : ℕ) (x : E) → i < length xs → x ≡ get_or xs i x → take (i + 1) xs ≡ take i xs ++ x ∷ []
take_read xs i x l read = take_more xs i x l ∙ ap (λ y. take i xs ++ y ∷ []) (sym read)

module _ {E : Type 0} (S : Shape E) (xs : List E) (i : ℕ) (x : E) (l : i < length xs) (read : x ≡ get_or xs i x) where
  pub proper_read : (n : ℕ) → rising S n xs ≡ true → proper S x ≡ true
  proper_read n up = rw read (proper_from S _ (proper_at S n xs i x (rising_facts S n xs up) l))

  pub reach_on : (p q : ℕ) → holds S p x ≡ true → q ≡ end S x → reach S p (drop i xs) ≡ reach S q (drop (i + 1) xs)
  reach_on p q h is =
      ap (reach S p) (drop_read xs i x l read) ∙ ap (λ y. reach S y (drop (i + 1) xs)) (cond-true _ _ _ h ∙ sym is)

  pub reach_same : (p q : ℕ) → holds S p x ≡ false → q ≡ p → reach S p (drop i xs) ≡ reach S q (drop (i + 1) xs)
  reach_same p q h is =
      ap (reach S p) (drop_read xs i x l read) ∙ ap (λ y. reach S y (drop (i + 1) xs)) (cond-false _ _ _ h ∙ sym is)

-- the first place that passes, or else the end
place_is : {X : Type 0} (p : X → Bool) (xs : List X) → unwrap_or (position p xs) (length xs) ≡ position_or_len p xs
place_is p xs = known (nat_lt (position_or_len p xs) (length xs)) refl
  where
    known : (b : Bool) → nat_lt (position_or_len p xs) (length xs) ≡ b → unwrap_or (cond b (Some (position_or_len p xs)) None) (length xs) ≡ position_or_len p xs
    known true h = refl
    known false h = omega (arith, ltb-false _ _ h, prefix_len-le-length (λ x. not (p x)) xs)

-- an element belongs before the first that begins behind it
at_place : {E : Type 0} (S : Shape E) (e : E) (ys : List E) → inserted S e ys ≡ take (position_or_len (λ x. nat_lt (S.first e) (S.first x)) ys) ys ++ e ∷ drop (position_or_len (λ x. nat_lt (S.first e) (S.first x)) ys) ys
at_place S e [] = refl
at_place S e (y ∷ ys) = step (nat_lt (S.first e) (S.first y)) (at_place S e ys)
  where
    n : ℕ
    n = position_or_len (λ x. nat_lt (S.first e) (S.first x)) ys

    step : (b : Bool) → inserted S e ys ≡ take n ys ++ e ∷ drop n ys → cond b (e ∷ (y ∷ ys)) (y ∷ inserted S e ys) ≡ take (cond (not b) (1 + n) 0) (y ∷ ys) ++ e ∷ drop (cond (not b) (1 + n) 0) (y ∷ ys)
    step true more = refl
    step false more =
        let one : suc n ≡ 1 + n = omega arith in
        ap (λ t. y ∷ t) more ∙ ap (λ k. take k (y ∷ ys) ++ e ∷ drop k (y ∷ ys)) one

-- or at the end
pub inserted_place : {E : Type 0} (S : Shape E) (e : E) (xs : List E) (n : ℕ) → n ≡ unwrap_or (position (λ x. nat_lt (S.first e) (S.first x)) xs) (length xs) → inserted S e xs ≡ take n xs ++ e ∷ drop n xs
inserted_place S e xs n at = at_place S e xs ∙ ap (λ k. take k xs ++ e ∷ drop k xs) (sym (at ∙ place_is (λ x. nat_lt (S.first e) (S.first x)) xs))

-- what a table says of a page is said by the first row that has it
pub said_by : {E : Type 0} (S : Shape E) (p : ℕ) (xs : List E) → said S p xs ≡ option_map (S.one p) (find (holds S p) xs)
said_by S p [] = refl
said_by S p (x ∷ xs) = step (holds S p x) (said_by S p xs)
  where
    step : (b : Bool) → said S p xs ≡ option_map (S.one p) (find (holds S p) xs) → cond b (Some (S.one p x)) (said S p xs) ≡ option_map (S.one p) (cond b (Some x) (find (holds S p) xs))
    step true more = refl
    step false more = more

-- and that row is proper
pub found_row : {E : Type 0} (S : Shape E) (n p : ℕ) (xs : List E) (x : E) → rising S n xs ≡ true → find (holds S p) xs ≡ Some x → (proper S x ≡ true) × (S.first x ≤ p) × (p < end S x)
found_row S n p [] x up h = absurd (none-some _ h)
found_row S n p (y ∷ ys) x up h =
    let parts = and_parts (proper S y && nat_le n (S.first y)) (rising S (end S y) ys) up in
    step (holds S p y) refl h (and_parts (proper S y) (nat_le n (S.first y)) parts.0).0 (found_row S (end S y) p ys x parts.1)
  where
    step : (b : Bool) → holds S p y ≡ b → cond b (Some y) (find (holds S p) ys) ≡ Some x → proper S y ≡ true → (find (holds S p) ys ≡ Some x → (proper S x ≡ true) × (S.first x ≤ p) × (p < end S x)) → (proper S x ≡ true) × (S.first x ≤ p) × (p < end S x)
    step true k e ok more = subst (λ z. (proper S z ≡ true) × (S.first z ≤ p) × (p < end S z)) (same_Some _ _ e) (ok, (holds_facts S p y k).0, (holds_facts S p y k).1)
    step false k e ok more = more e
