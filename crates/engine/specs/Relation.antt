-- How an engine stands for a state of the copying machine, and what its answers mean.
use Rattle.std.specs.Prelude.{◌≡◌, ℕ, ◌-◌, Bool, false, cond, ◌&&◌, List, [], Some, None, Ok, Err, Option, Result, nat_le, slice_index_or}
use Rattle.pagers.specs.Meaning.{Meaning}
use Rattle.machine.specs.declared.words.Entry.{Entry}
use Rattle.machine.specs.Calls.{Call, Reply, done, counts, refused}
use Rattle.machine.specs.State.{State}
use Rattle.machine.specs.Step.{step}
use Rattle.engine.specs.declared.engine.Engine.{Engine}
use Rattle.engine.specs.declared.engine.Refusal.{Refusal}
use Rattle.engine.specs.declared.engine.Refusal.TheVariants.{NoTask, Living}
use Rattle.engine.specs.declared.engine.Usage.{Usage}

-- the place of a task's row: tasks 1 to 16 are at 0 to 15
abbrev pub place_of : ℕ → Option ℕ
place_of t = cond (nat_le 1 t && nat_le t 16) (Some (t - 1)) None

-- the row at a task's place, or false
abbrev pub row_at : List Bool → Option ℕ → Bool
row_at living None = false
row_at living (Some k) = slice_index_or living k false

-- a living task has no entries yet
abbrev pub entries_if : Bool → Option (List Entry)
entries_if b = cond b (Some []) None

-- the engine stands for the state: as many frames, the same tasks, the same entries
pub record Represents (e : Engine) (s : State) : Type 0 where
  pub frames : s.frames ≡ e.frames
  pub tasks : (t : ℕ) → s.tasks t ≡ entries_if (row_at e.living (place_of t))

-- the machine's word for a refusal
abbrev pub refusal : Refusal → Reply
refusal NoTask = refused 2
refusal Living = refused 3

-- and for an answer that tells no more than whether the call was accepted
abbrev pub outcome : {A : Type 0} → Result A Refusal → Reply
outcome (Ok a) = done
outcome (Err e) = refusal e

-- and for usage
abbrev pub counted : Usage → Reply
counted u = counts u.entries u.records u.marks u.frames

-- the machine gives the same reply to the call, and the engine then stands for its next state
pub record Follows (M : Meaning) (s : State) (call : Call) (r : Reply) (e : Engine) : Type 0 where
  pub reply : (step M s call).reply ≡ r
  pub next : Represents e (step M s call).next
