-- What is left of records and frames once no task needs them.
use Rattle.std.specs.Prelude.{◌≡◌, ℕ, ◌+◌, Bool, true, false, ◌&&◌, List, Some, None, Option, ◌==◌, nat_le, nat_lt}
use Rattle.std.specs.List.{list_any}
use Rattle.machine.specs.declared.words.Entry.{Entry}
use Rattle.chains.specs.declared.End.{End}
use Rattle.chains.specs.declared.End.TheVariants.{Frame, Zeros, Page}
use Rattle.objects.specs.declared.tables.Tables.{Tables}
use Rattle.objects.specs.View.{in_use, is_held, walk_end}
use Rattle.tasks.specs.Tables.{Place}
use Rattle.relation.specs.Living.{Living}
use Rattle.relation.specs.Stands.{table_of, tables_of}

-- records that are not to be kept are closed: every other record's walks end where they did, and no frame is taken
pub record Swept (keep : ℕ → Bool) (t t' : Tables) : Type 0 where
  pub uses : (r : ℕ) → in_use t' r ≡ (in_use t r && keep r)
  pub walks : (r i : ℕ) → in_use t r ≡ true → keep r ≡ true → walk_end t' r i ≡ walk_end t r i
  pub frees : (k : ℕ) → is_held t' k ≡ true → is_held t k ≡ true

-- the walk ends at frame k
abbrev pub ends_at : Option End → ℕ → Bool
ends_at None k = false
ends_at (Some (Frame s)) k = s == k
ends_at (Some Zeros) k = false
ends_at (Some (Page m q)) k = false

-- the entry names index i
abbrev pub covers_index : ℕ → Entry → Bool
covers_index i e = nat_le e.index i && nat_lt i (e.index + e.pages)

-- one of the entries names a cell of index i whose walk ends at frame k
abbrev pub is_reaching : Tables → ℕ → ℕ → List Entry → Bool
is_reaching t k i es = list_any (λ e. covers_index i e && ends_at (walk_end t e.sharing i) k) es

-- an entry of one of the tasks does
abbrev pub is_frame_reached : Tables → ℕ → ℕ → List Place → Bool
is_frame_reached t k i tasks = list_any (λ x. is_reaching t k i (table_of x)) tasks

-- the walk of a living cell ends at frame k
pub record Reached (tasks : List Place) (t : Tables) (k : ℕ) : Type 0 where
  pub sharing : ℕ
  pub index : ℕ
  pub lives : Living (tables_of tasks) sharing index
  pub ends : walk_end t sharing index ≡ Some (Frame k)

-- frames that no living cell's walk reaches are freed: no living cell's walk changes, and every held frame is reached
pub record Cleared (tasks : List Place) (t t' : Tables) : Type 0 where
  pub uses : (r : ℕ) → in_use t' r ≡ in_use t r
  pub walks : (r i : ℕ) → Living (tables_of tasks) r i → walk_end t' r i ≡ walk_end t r i
  pub frees : (k : ℕ) → is_held t' k ≡ true → is_held t k ≡ true
  pub reached : (k : ℕ) → is_held t' k ≡ true → Reached tasks t' k
