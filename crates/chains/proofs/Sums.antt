-- Sums and counts over the numbers below a bound.
use Rattle.std.proofs.Common.{◌≡◌, ℕ, zero, suc, ◌+◌, ◌<◌, ◌≤◌, Bool, true, false, eqb, sym, refl, ap, ◌∙◌, inl, inr, arith}
use Rattle.std.proofs.lemmas.Bool.{cases_eq, eq-eqb, ne_eqb}
use Rattle.chains.specs.Rows.{sum_to, bit, count}

pub bit_le : (b : Bool) → bit b ≤ 1
bit_le true = omega arith
bit_le false = omega arith

pub sum_same : (n : ℕ) (f g : ℕ → ℕ) → ((k : ℕ) → k < n → f k ≡ g k) → sum_to n f ≡ sum_to n g
unfolding sum_to
sum_same zero f g h = refl
sum_same (suc n) f g h = omega (arith, sum_same n f g (λ k l. h k (omega arith)), h n (omega arith))

pub sum_le : (n : ℕ) (f g : ℕ → ℕ) → ((k : ℕ) → k < n → f k ≤ g k) → sum_to n f ≤ sum_to n g
unfolding sum_to
sum_le zero f g h = omega arith
sum_le (suc n) f g h = omega (arith, sum_le n f g (λ k l. h k (omega arith)), h n (omega arith))

pub sum_add : (n : ℕ) (f g : ℕ → ℕ) → sum_to n (λ k. f k + g k) ≡ sum_to n f + sum_to n g
unfolding sum_to
sum_add zero f g = refl
sum_add (suc n) f g = omega (arith, sum_add n f g)

pub sum_zero : (n : ℕ) (f : ℕ → ℕ) → ((k : ℕ) → k < n → f k ≡ 0) → sum_to n f ≡ 0
unfolding sum_to
sum_zero zero f h = refl
sum_zero (suc n) f h = omega (arith, sum_zero n f (λ k l. h k (omega arith)), h n (omega arith))

-- a sum of ones
pub sum_ones : (n : ℕ) (f : ℕ → ℕ) → ((k : ℕ) → k < n → f k ≤ 1) → sum_to n f ≤ n
unfolding sum_to
sum_ones zero f h = omega arith
sum_ones (suc n) f h = omega (arith, sum_ones n f (λ k l. h k (omega arith)), h n (omega arith))

pub sum_full : (n : ℕ) (f : ℕ → ℕ) → ((k : ℕ) → k < n → f k ≡ 1) → sum_to n f ≡ n
unfolding sum_to
sum_full zero f h = refl
sum_full (suc n) f h = omega (arith, sum_full n f (λ k l. h k (omega arith)), h n (omega arith))

-- one term is changed
pub sum_change : (n : ℕ) (f g : ℕ → ℕ) (k : ℕ) → k < n → ((j : ℕ) → (j ≡ k → ⊥) → g j ≡ f j) → sum_to n g + f k ≡ sum_to n f + g k
unfolding sum_to
sum_change zero f g k l h = absurd (omega arith)
sum_change (suc n) f g k l h =
    elim (cases_eq n k) [
      | inl e ↦ omega (arith, sum_same n g f (λ j m. h j (omega arith)), ap f e, ap g e)
      | inr d ↦ omega (arith, sum_change n f g k (omega arith) h, h n d)
    ]

pub term_le : (n : ℕ) (f : ℕ → ℕ) (k : ℕ) → k < n → f k ≤ sum_to n f
unfolding sum_to
term_le zero f k l = absurd (omega arith)
term_le (suc n) f k l =
    elim (cases_eq n k) [ inl e ↦ omega (arith, ap f e) | inr d ↦ omega (arith, term_le n f k (omega arith)) ]

pub two_terms : (n : ℕ) (f : ℕ → ℕ) (j k : ℕ) → j < n → k < n → (j ≡ k → ⊥) → f j + f k ≤ sum_to n f
unfolding sum_to
two_terms zero f j k l m d = absurd (omega arith)
two_terms (suc n) f j k l m d =
    elim (cases_eq n k) [
      | inl e ↦ omega (arith, ap f e, term_le n f j (omega arith))
      | inr a ↦ elim (cases_eq n j) [
        | inl e ↦ omega (arith, ap f e, term_le n f k (omega arith))
        | inr b ↦ omega (arith, two_terms n f j k (omega arith) (omega arith) d)
      ]
    ]

-- a sum that is not 0 has a term that is not 0
pub some_term : (n : ℕ) (f : ℕ → ℕ) → 1 ≤ sum_to n f → (k : ℕ) × (k < n) × (1 ≤ f k)
unfolding sum_to
some_term zero f h = absurd (omega arith)
some_term (suc n) f h = at (f n) refl (some_term n f)
  where
    at : (m : ℕ) → f n ≡ m → (1 ≤ sum_to n f → (k : ℕ) × (k < n) × (1 ≤ f k)) → (k : ℕ) × (k < suc n) × (1 ≤ f k)
    at zero e below = let x = below (omega arith) in (x.0, omega (arith, x.1), x.2)
    at (suc m) e below = (n, omega arith, omega arith)

-- at most one term is 1, and the others are 0
pub sum_one : (n : ℕ) (f : ℕ → ℕ) → ((k : ℕ) → k < n → f k ≤ 1) → ((j k : ℕ) → j < n → k < n → f j ≡ 1 → f k ≡ 1 → j ≡ k) → sum_to n f ≤ 1
unfolding sum_to
sum_one zero f h u = omega arith
sum_one (suc n) f h u =
    elim (cases_eq (f n) 1) [
      | inl e ↦ omega (arith, e, sum_zero n f (λ k l. elim (cases_eq (f k) 1) [ inl y ↦ absurd (omega (arith, u k n (omega arith) (omega arith) y e)) | inr z ↦ omega (arith, z, h k (omega arith)) ]))
      | inr d ↦ omega (arith, d, h n (omega arith), sum_one n f (λ k l. h k (omega arith)) (λ j k l m. u j k (omega arith) (omega arith)))
    ]

pub sum_swap : (n m : ℕ) (f : ℕ → ℕ → ℕ) → sum_to n (λ a. sum_to m (λ b. f a b)) ≡ sum_to m (λ b. sum_to n (λ a. f a b))
unfolding sum_to
sum_swap zero m f = sym (sum_zero m (λ b. 0) (λ k l. refl))
sum_swap (suc n) m f = ap (λ x. x + sum_to m (λ b. f n b)) (sum_swap n m f) ∙ sym (sum_add m (λ b. sum_to n (λ a. f a b)) (λ b. f n b))

pub count_le : (p : ℕ → Bool) (n : ℕ) → count n p ≤ n
count_le p n = sum_ones n _ (λ k l. bit_le (p k))

-- a number that fails the test is not counted
pub count_but : (p : ℕ → Bool) (N n : ℕ) → n < N → p n ≡ false → count N p + 1 ≤ N
count_but p N n l f =
    let both : sum_to N (λ k. bit (p k) + bit (eqb k n)) ≤ N =
    sum_ones N _ (λ k m. elim (cases_eq k n) [ inl e ↦ omega (arith, ap (λ j. bit (p j)) e, ap bit f, bit_le (eqb k n)) | inr d ↦ omega (arith, bit_le (p k), ap bit (ne_eqb k n d)) ])
    in
    omega (arith, both, sum_add N (λ k. bit (p k)) (λ k. bit (eqb k n)), term_le N (λ k. bit (eqb k n)) n l, ap bit (eq-eqb n n refl))
