-- The pattern's bytes, one by one.
use Rattle.std.proofs.Common.{◌≡◌, ℕ, zero, suc, ◌+◌, ◌*◌, ◌%◌, ◌<◌, List, length, get_or, sym, ap, ◌∙◌, arith}
use Rattle.std.proofs.lemmas.List.{ext_get_or}
use Rattle.pagers.specs.Meaning.{bytes}
use Rattle.pagers.specs.Pattern.{counting, pattern_page, pattern}
use Rattle.pagers.specs.Bounds.{length_counting}

get_or_counting : (b n k : ℕ) → k < n → get_or (counting b n) k 0 ≡ (b + k) % 256
unfolding counting
get_or_counting b zero k below = absurd (omega arith)
get_or_counting b (suc n) zero below = ap (λ x. x % 256) (omega arith)
get_or_counting b (suc n) (suc k) below = get_or_counting (suc b) n k (omega arith) ∙ ap (λ x. x % 256) (omega arith)

-- a buffer with the pattern's byte at each place holds the page
pub fills : (p m : ℕ) (xs : List ℕ) → length xs ≡ 256 → ((k : ℕ) → k < 256 → get_or xs k 0 ≡ (31 * p + k) % 256) → pattern.page m p ≡ bytes xs
unfolding pattern pattern_page
fills p m xs long each =
    ap bytes (sym (ext_get_or 0 xs _ (long ∙ sym (length_counting (31 * p) 256))
    (λ k below. let l : k < 256 = omega arith in each k l ∙ sym (get_or_counting (31 * p) 256 k l))))
