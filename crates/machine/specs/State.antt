-- The state of the copying machine: living tasks with their tables, and the cells of the sharing records.
use Rattle.std.specs.Prelude.{ℕ, zero, suc, ◌+◌, min, Bool, false, cond, ◌||◌, List, [], ◌∷◌, map, replicate, is_some, None, Option, ◌==◌}
use Rattle.std.specs.List.{flat_map}
use Rattle.std.specs.Option.{unwrap_or, option_to_list}
use Rattle.pagers.specs.Meaning.{Content, Meaning, bytes}
use Rattle.machine.specs.declared.words.Entry.{Entry}
use Rattle.machine.specs.Calls.{Source, zeros, page_of}

-- a page's worth of memory: what it holds, where that first came from, and the number of the write that last changed it
pub record Cell : Type 0 where
  pub content : Content
  pub source : Source
  pub mark : Option ℕ

-- all that the machine knows
pub record State : Type 0 where
  -- F, the number of frames
  pub frames : ℕ
  -- a living task's entries, by the task's number
  pub tasks : ℕ → Option (List Entry)
  -- a cell, by the sharing record's number and the index
  pub cells : ℕ → ℕ → Cell
  -- the number that the next write gives its cell
  pub writes : ℕ

-- what a source holds
unfoldable pub content_of : Meaning → Source → Content
content_of M zeros = bytes (replicate 256 0)
content_of M (page_of m q) = M.page m q

-- an unmarked cell over a source
unfoldable pub untouched : Meaning → Source → Cell
untouched M from = record { content = content_of M from; source = from; mark = None }

-- the source of the cell i places on
unfoldable pub along : ℕ → Source → Source
along i zeros = zeros
along i (page_of m q) = page_of m (q + i)

-- no task lives, and no cell has been written
unfoldable pub start : ℕ → State
start n = record { frames = min n 128; tasks = λ t. None; cells = λ r i. record { content = bytes (replicate 256 0); source = zeros; mark = None }; writes = 0 }

-- the numbers that a task may have: 1 to 16
unfoldable pub numbers : List ℕ
numbers = 1 ∷ 2 ∷ 3 ∷ 4 ∷ 5 ∷ 6 ∷ 7 ∷ 8 ∷ 9 ∷ 10 ∷ 11 ∷ 12 ∷ 13 ∷ 14 ∷ 15 ∷ 16 ∷ []

-- the entries of a task; a task that does not live has none
unfoldable pub table : State → ℕ → List Entry
table s t = unwrap_or (s.tasks t) []

-- the task lives
unfoldable pub lives : State → ℕ → Bool
lives s t = is_some (s.tasks t)

-- the entries of all living tasks
unfoldable pub all_entries : State → List Entry
all_entries s = flat_map (table s) numbers

-- the n cells of a record from index i on
unfoldable pub row : (ℕ → Cell) → ℕ → ℕ → List Cell
row cells i zero = []
row cells i (suc n) = cells i ∷ row cells (suc i) n

-- the cells that an entry names, page by page
unfoldable pub named_cells : State → Entry → List Cell
named_cells s e = row (s.cells e.sharing) e.index e.pages

-- the living cells: those that an entry of a living task names
unfoldable pub living_cells : State → List Cell
living_cells s = flat_map (named_cells s) (all_entries s)

-- x is in the list
unfoldable pub member : ℕ → List ℕ → Bool
member x [] = false
member x (y ∷ ys) = x == y || member x ys

-- the different numbers of a list, each once
unfoldable pub distinct : List ℕ → List ℕ
distinct [] = []
distinct (x ∷ xs) = cond (member x xs) (distinct xs) (x ∷ distinct xs)

-- the different living marks
unfoldable pub living_marks : State → List ℕ
living_marks s = distinct (flat_map (λ c. option_to_list c.mark) (living_cells s))

-- the different living records
unfoldable pub living_records : State → List ℕ
living_records s = distinct (map (λ e. e.sharing) (all_entries s))

-- the lowest number from r on, of n numbers, that is not in the list
unfoldable pub lowest_free : List ℕ → ℕ → ℕ → ℕ
lowest_free used zero r = r
lowest_free used (suc n) r = cond (member r used) (lowest_free used n (suc r)) r

-- the number of a new sharing record
unfoldable pub new_record : State → ℕ
new_record s = lowest_free (map (λ e. e.sharing) (all_entries s)) 256 0
