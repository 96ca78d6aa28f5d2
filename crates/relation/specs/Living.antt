-- Living cells: those that an entry of a living task names.
use Rattle.std.specs.Prelude.{◌≡◌, ℕ, List, Some}
use Rattle.ranges.specs.Tables.{said}
use Rattle.machine.specs.declared.words.Entry.{Entry}
use Rattle.machine.specs.Entries.{entry_shape}

-- the table says the cell of record r and index i at page p
pub record Names (es : List Entry) (p r i : ℕ) : Type 0 where
  pub entry : Entry
  pub says : said entry_shape p es ≡ Some entry
  pub sharing : entry.sharing ≡ r
  pub index : entry.index ≡ i

-- some task's table says the cell at some page
pub record Living (tables : ℕ → List Entry) (r i : ℕ) : Type 0 where
  pub task : ℕ
  pub page : ℕ
  pub names : Names (tables task) page r i

-- what one list of entries names, the other does
abbrev pub WithinCells : List Entry → List Entry → Type 0
WithinCells es es' = (p r i : ℕ) → Names es p r i → Names es' p r i

-- a change that keeps each entry's record and index
pub record Quiet (change : Entry → Entry) : Type 0 where
  pub sharing : (e : Entry) → (change e).sharing ≡ e.sharing
  pub index : (e : Entry) → (change e).index ≡ e.index
