-- How the engine's tables stand for a state of the copying machine.
use Rattle.std.specs.Prelude.{◌≡◌, ℕ, ◌-◌, ◌*◌, ◌≤◌, Bool, false, cond, ◌&&◌, List, [], take, drop, Some, None, Option, nat_le, slice_index_or}
use Rattle.std.specs.List.{list_any}
use Rattle.std.specs.Option.{unwrap_or}
use Rattle.pagers.specs.Meaning.{Meaning}
use Rattle.machine.specs.declared.words.Entry.{Entry}
use Rattle.machine.specs.State.{State, table}
use Rattle.objects.specs.declared.tables.Tables.{Tables}
use Rattle.objects.specs.View.{in_use, is_held, walk_end}
use Rattle.tasks.specs.Tables.{Place, shown, names}
use Rattle.relation.specs.Living.{Living}
use Rattle.relation.specs.Mirror.{Mirror}

-- the place of a task's row: tasks 1 to 16 are at 0 to 15
abbrev pub place_of : ℕ → Option ℕ
place_of t = cond (nat_le 1 t && nat_le t 16) (Some (t - 1)) None

-- the entries of the task at a place; none, where none lives
abbrev pub table_of : Place → List Entry
table_of x = unwrap_or (shown x) []

-- the task at a place, as the machine has it
abbrev pub task_at : List Place → Option ℕ → Option (List Entry)
task_at tasks None = None
task_at tasks (Some k) = shown (slice_index_or tasks k None)

-- the tables of the tasks, by their numbers
abbrev pub tables_of : List Place → ℕ → List Entry
tables_of tasks n = unwrap_or (task_at tasks (place_of n)) []

-- an entry of a living task is on the record
abbrev pub is_record_named : ℕ → List Place → Bool
is_record_named r tasks = list_any (λ x. names r (table_of x)) tasks

-- a record is in use exactly if an entry of a living task names it
abbrev pub RecordsNamed : List Place → Tables → Type 0
RecordsNamed tasks t = (r : ℕ) → in_use t r ≡ is_record_named r tasks

-- no frame from F on is held
abbrev pub FramesWithin : ℕ → Tables → Type 0
FramesWithin F t = (k : ℕ) → F ≤ k → is_held t k ≡ false

-- the bytes of frame k in the frame memory
abbrev pub frame_of : List ℕ → ℕ → List ℕ
frame_of memory k = take 256 (drop (256 * k) memory)

-- F frames, the tasks, the tables of records, objects and frames, and the frame memory stand for the state: the same
-- tasks with the same entries, and the walks of the living cells end at what the cells have
pub record Stands (F : ℕ) (tasks : List Place) (t : Tables) (memory : List ℕ) (M : Meaning) (s : State) : Type 0 where
  pub frames : s.frames ≡ F
  pub same : (n : ℕ) → s.tasks n ≡ task_at tasks (place_of n)
  -- the mark that is in each frame
  pub mark : ℕ → ℕ
  pub mirror : Mirror M (frame_of memory) mark s.writes (Living (table s)) (walk_end t) s.cells (is_held t)
