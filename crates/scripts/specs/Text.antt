-- The text of a transcript: a line for each record, with its number, the answer and what the answer carries.
use Rattle.std.specs.Prelude.{◌≡◌, ℕ, ◌/◌, ◌%◌, List, [], ◌∷◌, ◌++◌, decimal, slice_index}
use Rattle.std.specs.List.{flat_map}
use Rattle.std.specs.Char.{digit_char}
use Rattle.machine.specs.Calls.{Fault, Reply, done, gives, counts, refused, faulty}

-- what a record is answered: the reply to its call, or that it is no call
pub data Answer : Type 0 where
  replied : Reply → Answer
  malformed : Answer
  cut_short : Answer

-- a byte as two lower-case hexadecimal digits
abbrev pub hex : ℕ → List ℕ
hex b = digit_char (b / 16) ∷ digit_char (b % 16) ∷ []

-- a space and a number in decimal
abbrev pub after_space : ℕ → List ℕ
after_space n = 32 ∷ decimal n

-- numbers in decimal, each after a space
abbrev pub spaced : List ℕ → List ℕ
spaced ns = flat_map after_space ns

-- the numbers that refusal 12 carries
abbrev pub fault_numbers : Fault → List ℕ
fault_numbers f = f.pager.cause ∷ f.pager.object ∷ f.pager.page ∷ f.object ∷ f.page ∷ f.task ∷ f.address ∷ []

-- the answer's number, and what it carries
abbrev pub answer_text : Answer → List ℕ
answer_text (replied done) = decimal 0
answer_text (replied (gives bs)) = decimal 0 ++ (32 ∷ flat_map hex bs)
answer_text (replied (counts e r m f)) = decimal 0 ++ spaced (e ∷ r ∷ m ∷ f ∷ [])
answer_text (replied (refused n)) = decimal n
answer_text (replied (faulty f)) = decimal 12 ++ spaced (fault_numbers f)
answer_text malformed = decimal 13
answer_text cut_short = decimal 14

-- the line of record n with a text
abbrev pub row : ℕ → List ℕ → List ℕ
row n text = decimal n ++ (32 ∷ (text ++ (10 ∷ [])))

-- the line of record n with its answer
abbrev pub line : ℕ → Answer → List ℕ
line n a = row n (answer_text a)

-- the answer to usage with these four numbers
abbrev pub usage_answer : List ℕ → Answer
usage_answer c = replied (counts (slice_index c 0) (slice_index c 1) (slice_index c 2) (slice_index c 3))

-- the text grew by the line of record n with any answer of this text
abbrev pub Adds : List ℕ → List ℕ → ℕ → List ℕ → Type 0
Adds old new n text = (a : Answer) → answer_text a ≡ text → new ≡ old ++ line n a
