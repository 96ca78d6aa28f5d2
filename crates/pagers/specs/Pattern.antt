-- The pattern: object 0 alone has pages, 64 of them.
use Rattle.std.specs.Prelude.{ℕ, zero, suc, ◌*◌, ◌%◌, cond, List, [], ◌∷◌, ◌==◌}
use Rattle.pagers.specs.Meaning.{Meaning, bytes}

-- the n bytes that count up from b, each taken modulo 256
unfoldable pub counting : ℕ → ℕ → List ℕ
counting b zero = []
counting b (suc n) = (b % 256) ∷ counting (suc b) n

-- byte i of page p is (31 p + i) mod 256
unfoldable pub pattern_page : ℕ → List ℕ
pattern_page p = counting (31 * p) 256

-- what the pattern means
unfoldable pub pattern : Meaning
pattern = record { count = λ m. cond (m == 0) 64 0; page = λ m p. bytes (pattern_page p) }
