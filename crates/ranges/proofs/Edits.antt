-- What the edits promise, from the table that they end with.
use Rattle.std.proofs.Common.{◌≡◌, ℕ, ◌+◌, ◌-◌, ◌≤◌, true, false, List, ◌++◌, length, take, sym, ap, ◌∙◌, subst, arith}
use Rattle.std.proofs.lemmas.List.{length-take-le, take-append-le}
use Rattle.std.proofs.lemmas.Bool.{lt-ltb, le-ltb}
use Rattle.ranges.specs.Shape.{Shape, Laws}
use Rattle.ranges.specs.Tables.{rising, said, removed, cut}
use Rattle.ranges.specs.Says.{full, Removes, Keeps}
use Rattle.ranges.specs.Places.{Apart, Around}
use Rattle.ranges.proofs.Facts.{used, rising_facts, rising_from}
use Rattle.ranges.proofs.Removals.{removed_says, removed_rises, cut_says}
use Rattle.ranges.proofs.Divides.{around_length, cut_same}

-- a table that lies in the first n rows has n elements
pub count_is : {E : Type 0} (n : ℕ) (ys t : List E) → n ≤ length ys → take n ys ≡ t → n ≡ length t
count_is n ys t h is = sym (length-take-le n ys h) ∙ ap length is

pub fits_rows : {E : Type 0} (n : ℕ) (xs t : List E) → n ≡ length t → n ≤ length xs → full xs t ≡ false
fits_rows n xs t is h = le-ltb _ _ (omega arith)

module _ {E : Type 0} (S : Shape E) where
  -- the pages as the code has them
  pub same_removed : (f g f' g' : ℕ) (t : List E) → f' ≡ f → g' ≡ g → removed S f' g' t ≡ removed S f g t
  same_removed f g f' g' t p q = ap (λ k. removed S k g' t) p ∙ ap (λ k. removed S f k t) q

  pub squeezed_is : (xs ys rest : List E) (len n f g f' g' : ℕ) → f' ≡ f → g' ≡ g → n ≤ length ys → take n ys ≡ removed S f' g' (take (len - 0) xs) → take n (ys ++ rest) ≡ removed S f g (take len xs)
  squeezed_is xs ys rest len n f g f' g' p q h is =
      take-append-le n ys rest h ∙ is ∙ ap (removed S f' g') (used xs len) ∙ same_removed f g f' g' (take len xs) p q

  pub apart_used : (f g len : ℕ) (xs : List E) → Apart S f g (take (len - 0) xs) → Apart S f g (take len xs)
  apart_used f g len xs = subst (Apart S f g) (used xs len)

  pub around_used : (f g len at : ℕ) (xs : List E) → Around S f g (take (len - 0) xs) at → Around S f g (take len xs) at
  around_used f g len at xs = subst (λ t. Around S f g t at) (used xs len)

  module _ (xs : List E) (len : ℕ) (within : len ≤ length xs) (up : rising S 0 (take len xs) ≡ true) where
    pub around_more : (f g at : ℕ) → f ≤ g → Around S f g (take (len - 0) xs) at → length (removed S f g (take len xs)) ≡ len + 1
    around_more f g at le h =
        around_length S f g at (take len xs) up le (around_used f g len at xs h) ∙ ap (λ n. n + 1) (length-take-le len xs within)

    pub around_full : (f g f' g' at : ℕ) → f' ≡ f → g' ≡ g → f ≤ g → Around S f' g' (take (len - 0) xs) at → len ≡ length xs → full xs (removed S f g (take len xs)) ≡ true
    around_full f g f' g' at p q le h all =
        lt-ltb _ _ (omega (arith, around_more f' g' at (omega arith) h, ap length (same_removed f g f' g' (take len xs) p q)))

    pub cut_uncut : (p : ℕ) → Apart S p p (take (len - 0) xs) → cut S p (take len xs) ≡ take len xs
    cut_uncut p h = cut_same S p (take len xs) up (apart_used p p len xs h)

    pub cut_count : (p more : ℕ) → length (cut S p (take (len - 0) xs)) ≡ length (take (len - 0) xs) + more → length (cut S p (take len xs)) ≡ len + more
    cut_count p more h =
        subst (λ t. length (cut S p t) ≡ length t + more) (used xs len) h ∙ ap (λ n. n + more) (length-take-le len xs within)

  module _ (L : Laws S) (t ts : List E) (up : rising S 0 t ≡ true) where
    pub remove_says : (f g : ℕ) → f ≤ g → ts ≡ removed S f g t → Removes S f g t ts
    remove_says f g le is p = ap (said S p) is ∙ removed_says S L 0 f g t (rising_facts S 0 t up) le p

    pub remove_rises : (f g : ℕ) → f ≤ g → ts ≡ removed S f g t → rising S 0 ts ≡ true
    remove_rises f g le is = ap (rising S 0) is ∙ rising_from S 0 _ (removed_rises S L 0 f g t (rising_facts S 0 t up) le)

    pub cut_keeps : (p : ℕ) → ts ≡ cut S p t → Keeps S t ts
    cut_keeps p is q = ap (said S q) is ∙ cut_says S L 0 p t (rising_facts S 0 t up) q

    pub cut_rises : (p : ℕ) → ts ≡ cut S p t → rising S 0 ts ≡ true
    cut_rises p is = remove_rises p p (omega arith) is
