-- The place of a task that lives or does not, as wanted.
use Rattle.std.specs.Prelude.{ℕ, ◌<◌, Bool, true, false, cond, List, Some, None, Ok, Err, Option, Result, slice_index_or}
use Rattle.engine.specs.declared.engine.Refusal.{Refusal}
use Rattle.engine.specs.declared.engine.Refusal.TheVariants.{NoTask}

-- the place if its row is as wanted, else a refusal
abbrev pub wanted : List Bool → Bool → Refusal → Option ℕ → Result ℕ Refusal
wanted living lives other None = Err NoTask
wanted living true other (Some k) = cond (slice_index_or living k false) (Ok k) (Err other)
wanted living false other (Some k) = cond (slice_index_or living k false) (Err other) (Ok k)

-- a place is one of 16
abbrev pub Within : Result ℕ Refusal → Type 0
Within (Ok k) = k < 16
Within (Err e) = Unit {0}
