-- Laws of the copying machine itself.
use Rattle.std.specs.Prelude.{◌≡◌, ℕ, Bool, true, false, List, Some, None, ◌≢◌}
use Rattle.pagers.specs.Meaning.{Meaning}
use Rattle.machine.specs.declared.words.Entry.{Entry}
use Rattle.machine.specs.Calls.{Call, write, Reply, done, gives, counts, refused, faulty}
use Rattle.machine.specs.State.{State, content_of, start}
use Rattle.machine.specs.Step.{entry_at, step, after}

-- the reply is a refusal
abbrev pub refuses : Reply → Bool
refuses done = false
refuses (gives bs) = false
refuses (counts e r m f) = false
refuses (refused n) = true
refuses (faulty f) = true

-- a refused call leaves the state as it was
abbrev pub RefusalsKeep : Type 0
RefusalsKeep = (M : Meaning) (s : State) (call : Call) → refuses (step M s call).reply ≡ true → (step M s call).next ≡ s

-- an unmarked cell's content is what the pager's meaning says of its source
abbrev pub Sourced : Meaning → State → Type 0
Sourced M s = (r i : ℕ) → (s.cells r i).mark ≡ None → (s.cells r i).content ≡ content_of M (s.cells r i).source

-- so it is after every run, for each cell, living or not
abbrev pub SourcesKept : Type 0
SourcesKept = (M : Meaning) (n : ℕ) (calls : List Call) → Sourced M (after M (start n) calls)

-- a write on a state gave the cell at an address of a task a mark that no cell had in an earlier state
pub record NewMark (earlier s next : State) (t address : ℕ) : Type 0 where
  pub entry : Entry
  pub found : entry_at s t address ≡ Some entry
  pub mark : ℕ
  pub marked : (next.cells entry.sharing entry.index).mark ≡ Some mark
  pub unseen : (r i : ℕ) → (earlier.cells r i).mark ≢ Some mark

-- an accepted write gives a mark that no cell had, after any earlier part of the run
abbrev pub MarksNew : Type 0
MarksNew =
    (M : Meaning) (n : ℕ) (earlier later : List Call) (memory t address : ℕ) (new : List ℕ) →
    (step M (after M (after M (start n) earlier) later) (write memory t address new)).reply ≡ done →
    NewMark (after M (start n) earlier) (after M (after M (start n) earlier) later) (step M (after M (after M (start n) earlier) later) (write memory t address new)).next t address
