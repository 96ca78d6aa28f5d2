-- The machine's tables are tables: rising, and none for a number that no task has.
use Rattle.std.specs.Prelude.{◌≡◌, ℕ, true, []}
use Rattle.ranges.specs.Tables.{rising}
use Rattle.machine.specs.Entries.{entry_shape}
use Rattle.machine.specs.State.{State, table}
use Rattle.machine.specs.Step.{misnumbered}

-- every table rises, and a number that no task has has an empty one
pub record Orderly (s : State) : Type 0 where
  pub rises : (t : ℕ) → rising entry_shape 0 (table s t) ≡ true
  pub numbered : (t : ℕ) → misnumbered t ≡ true → table s t ≡ []
