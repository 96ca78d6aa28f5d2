-- A task's table as a list, and the place where a task lives or none does.
use Rattle.std.specs.Prelude.{ℕ, Bool, List, Option, ◌==◌}
use Rattle.std.specs.List.{list_any}
use Rattle.std.specs.Option.{option_map}
use Rattle.machine.specs.declared.words.Entry.{Entry}
use Rattle.machine.specs.contracts.entry.EntryElement.TheImpl.{ghosts}
use Rattle.ranges.specs.declared.table.Table.{Table}
use Rattle.ranges.specs.Held.{held}

-- a task is a table of at most 16 entries
abbrev pub Task : Type 0
Task = Table Entry 16 ghosts

-- the entries of a task
abbrev pub entries : Task → List Entry
entries t = held t

-- where a task lives, or none does
abbrev pub Place : Type 0
Place = Option Task

-- the entries of the task at a place, if one lives there
abbrev pub shown : Place → Option (List Entry)
shown place = option_map entries place

-- an entry is on the record
abbrev pub names : ℕ → List Entry → Bool
names r es = list_any (λ e. e.sharing == r) es
