-- What holds where a run ended, in terms of walks, frames, marks and living cells.
use Rattle.std.specs.Prelude.{◌≡◌, ℕ, ◌≤◌, true, List, length, Some, None}
use Rattle.pagers.specs.Meaning.{bytes}
use Rattle.machine.specs.Calls.{Source, zeros, page_of}
use Rattle.machine.specs.State.{State, table, living_records}
use Rattle.chains.specs.declared.End.{End}
use Rattle.chains.specs.declared.End.TheVariants.{Frame, Zeros, Page}
use Rattle.objects.specs.declared.tables.Tables.{Tables}
use Rattle.objects.specs.View.{is_held, walk_end, walk_length}
use Rattle.relation.specs.Living.{Living}
use Rattle.relation.specs.Stands.{frame_of}

-- a living cell has the mark
pub record LivingMark (s : State) (m : ℕ) : Type 0 where
  pub sharing : ℕ
  pub index : ℕ
  pub lives : Living (table s) sharing index
  pub marked : (s.cells sharing index).mark ≡ Some m

-- the mark is in frame k: the walk of a living cell with the mark ends there
pub record MarkIn (t : Tables) (s : State) (m k : ℕ) : Type 0 where
  pub sharing : ℕ
  pub index : ℕ
  pub lives : Living (table s) sharing index
  pub marked : (s.cells sharing index).mark ≡ Some m
  pub ends : walk_end t sharing index ≡ Some (Frame k)

-- marks and frames: at each held frame some living cell's walk ends, and exactly one living mark is in it; each
-- living mark is in exactly one frame, which is held, and whose bytes are the content of every living cell with it
pub record MarksAndFrames (t : Tables) (memory : List ℕ) (s : State) : Type 0 where
  pub marked : (k : ℕ) → is_held t k ≡ true → (m : ℕ) × MarkIn t s m k
  pub one_mark : (k m m' : ℕ) → MarkIn t s m k → MarkIn t s m' k → m ≡ m'
  pub framed : (m : ℕ) → LivingMark s m → (k : ℕ) × (is_held t k ≡ true) × MarkIn t s m k
  pub one_frame : (m k k' : ℕ) → MarkIn t s m k → MarkIn t s m k' → k ≡ k'
  pub content : (r i m k : ℕ) → Living (table s) r i → (s.cells r i).mark ≡ Some m → MarkIn t s m k → (s.cells r i).content ≡ bytes (frame_of memory k)

-- where a walk ends that ends at a source
abbrev pub end_of : Source → End
end_of zeros = Zeros
end_of (page_of m q) = Page m q

-- walks and sources: no living cell's walk is longer than the number of living records, and an unmarked living cell's
-- walk ends at its source
pub record WalksAndSources (t : Tables) (s : State) : Type 0 where
  pub short : (r i : ℕ) → Living (table s) r i → walk_length t r i ≤ length (living_records s)
  pub source : (r i : ℕ) → Living (table s) r i → (s.cells r i).mark ≡ None → walk_end t r i ≡ Some (end_of (s.cells r i).source)
