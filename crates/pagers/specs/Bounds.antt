-- The kinds of pagers keep the bounds.
use Rattle.std.specs.Prelude.{◌≡◌, ℕ, zero, suc, ◌+◌, ◌-◌, ◌*◌, ◌<◌, ◌≤◌, true, false, cond, List, length, take, drop, replicate, Some, None, Option, ◌==◌, nat_le, nat_lt, slice_index, refl}
use Rattle.std.proofs.Common.{ap, arith, mod-lt, inl, inr}
use Rattle.std.proofs.lemmas.List.{get_or-take, get_or-drop, get_or_past, length-take, length-take-le, length-drop, length-replicate}
use Rattle.std.proofs.lemmas.Bool.{cond_both, cases_lt, leb-true}
use Rattle.pagers.specs.Meaning.{Meaning, Bounded, Whole, bytes, nothing, paired}
use Rattle.pagers.specs.declared.extent.Extent.{Extent}
use Rattle.pagers.specs.Images.{laid, place, stored, zeros}
use Rattle.pagers.specs.Pattern.{counting, pattern_page, pattern}

-- a pager without pages keeps the bounds
pub nothing_bounded : Bounded nothing
nothing_bounded = record { counts = λ m. omega arith; pages = λ m p below. absurd (omega arith) }

-- the numbers that count up are as many as asked for
pub length_counting : (b n : ℕ) → length (counting b n) ≡ n
unfolding counting
length_counting b zero = refl
length_counting b (suc n) = ap suc (length_counting (suc b) n)

counting_fits : (b n k : ℕ) → slice_index (counting b n) k < 256
unfolding counting
counting_fits b zero k = omega arith
counting_fits b (suc n) zero = mod-lt b (omega arith)
counting_fits b (suc n) (suc k) = counting_fits (suc b) n k

-- the pattern keeps the bounds
pub pattern_bounded : Bounded pattern
unfolding pattern pattern_page
pattern_bounded = record {
  counts = λ m. cond_both (m == 0) 64 0 (λ n. n ≤ 4096) (λ e. omega arith) (λ e. omega arith);
  pages = λ m p below. (length_counting (31 * p) 256, counting_fits (31 * p) 256);
}

-- a pair keeps the bounds that its two pagers keep
pub paired_bounded : (s : ℕ) (A B : Meaning) → Bounded A → Bounded B → Bounded (paired s A B)
paired_bounded s A B a b = record {
  counts = λ m. cond_both (nat_lt m s) _ _ (λ n. n ≤ 4096) (λ e. a.counts m) (λ e. b.counts (m - s));
  pages = λ m p. elim (nat_lt m s) as (λ t. p < cond t (A.count m) (B.count (m - s)) → Whole (cond t (A.page m p) (B.page (m - s) p))) [ true ↦ a.pages m p | false ↦ b.pages (m - s) p ];
}

-- a part of a list of bytes is one
pub taken_fits : (n k i : ℕ) (xs : List ℕ) → ((j : ℕ) → slice_index xs j < 256) → slice_index (take n (drop k xs)) i < 256
taken_fits n k i xs fits =
    elim (cases_lt i n) [
      | inl l ↦ rw (get_or-take n (drop k xs) i 0 l, get_or-drop k xs i 0) (fits (k + i))
      | inr l ↦ rw (get_or_past (take n (drop k xs)) i 0 (omega (arith, length-take n (drop k xs)))) (omega arith)
    ]

replicate_fits : (n i : ℕ) → slice_index (replicate n 0) i < 256
replicate_fits zero i = omega arith
replicate_fits (suc n) zero = omega arith
replicate_fits (suc n) (suc i) = replicate_fits n i

zeros_whole : Whole (bytes zeros)
unfolding zeros
zeros_whole = (length-replicate {A = ℕ} 256 0, replicate_fits 256)

stored_whole : (body : List ℕ) (p : ℕ) (o : Option ℕ) → ((j : ℕ) → slice_index body j < 256) → p < 65536 → Whole (stored body p o)
stored_whole body p None fits small = zeros_whole
stored_whole body p (Some k) fits small =
    cond_both (nat_le (k + 256) (length body)) _ _ Whole
    (λ e. (length-take-le 256 (drop k body) (omega (arith, leb-true _ _ e, length-drop k body)), λ i. taken_fits 256 k i body fits))
    (λ e. (omega arith, omega arith, omega arith, small))

-- an image keeps the bounds
pub laid_bounded : (pages : ℕ) (es : List Extent) (body : List ℕ) → pages ≤ 4096 → ((j : ℕ) → slice_index body j < 256) → Bounded (laid pages es body)
laid_bounded pages es body most fits = record {
  counts = λ m. cond_both (m == 0) pages 0 (λ n. n ≤ 4096) (λ e. most) (λ e. omega arith);
  pages = λ m p below. stored_whole body p (place p es) fits (cond_both (m == 0) pages 0 (λ n. p < n → p < 65536) (λ e l. omega arith) (λ e l. omega arith) below);
}
