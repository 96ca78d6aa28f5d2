-- The transcript of a script: what the copying machine answers to its records, line by line.
use Rattle.std.specs.Prelude.{◌≡◌, ℕ, suc, Bool, true, false, cond, List, [], ◌∷◌, ◌++◌, length, codes, nat_lt, Ok, Err, Result}
use Rattle.pagers.specs.Meaning.{Meaning}
use Rattle.machine.specs.Calls.{Call, create, map_pages, unmap, protect, inherit, fork, write, read, exit, usage}
use Rattle.machine.specs.State.{State, start}
use Rattle.machine.specs.Step.{step}
use Rattle.engine.specs.declared.engine.Engine.{Engine}
use Rattle.engine.specs.Relation.{Represents, refusal, counted}
use Rattle.scripts.specs.declared.reader.BadRecord.TheVariants.{Malformed, CutShort}
use Rattle.scripts.specs.declared.console.Reply.{Reply}
use Rattle.scripts.specs.declared.console.Reply.TheVariants.{Done, Counts}
use Rattle.scripts.specs.declared.console.Trouble.{Trouble}
use Rattle.scripts.specs.declared.console.Trouble.TheVariants.{Refused, BadRecord}
use Rattle.scripts.specs.Records.{Item, call, malformed, cut_short, items}
use Rattle.scripts.specs.Text.{Answer, replied, malformed as wrong, cut_short as short, line}
use Rattle.machine.specs.Calls.{done}

-- the calls that the engine performs so far; a record of any other is answered like an unknown operation
abbrev pub performed : Call → Bool
performed (create t) = true
performed (map_pages t start pages from) = false
performed (unmap t start pages) = false
performed (protect t start pages value) = false
performed (inherit t start pages value) = false
performed (fork parent child) = false
performed (write memory t address new) = false
performed (read memory t address n room) = false
performed (exit t) = true
performed usage = true

-- what a record is answered in a state
unfoldable pub answered : Meaning → State → Item → Answer
answered M s (call c) = cond (performed c) (replied (step M s c).reply) wrong
answered M s malformed = wrong
answered M s cut_short = short

-- the state after a record
unfoldable pub moved : Meaning → State → Item → State
moved M s (call c) = cond (performed c) (step M s c).next s
moved M s malformed = s
moved M s cut_short = s

-- the lines for records, the first of them with number n
unfoldable pub lines : Meaning → ℕ → State → List Item → List ℕ
lines M n s [] = []
lines M n s (i ∷ is) = line n (answered M s i) ++ lines M (suc n) (moved M s i) is

-- the transcript of a script on a new machine of 128 frames
unfoldable pub transcript_of : Meaning → List ℕ → List ℕ
transcript_of M script = lines M 1 (start 128) (items script)

-- what the program prints: a script of more than 16,384 bytes is not performed
abbrev pub printed_text : Meaning → List ℕ → List ℕ
printed_text M input = cond (nat_lt 16384 (length input)) (codes "too long\n") (transcript_of M input)

-- an answer of the program as the machine's
abbrev pub answer_of : Result Reply Trouble → Answer
answer_of (Ok Done) = replied done
answer_of (Ok (Counts u)) = replied (counted u)
answer_of (Err (Refused r)) = replied (refusal r)
answer_of (Err (BadRecord Malformed)) = wrong
answer_of (Err (BadRecord CutShort)) = short

-- the program answered a record as the machine does, and its engine stands for the machine's next state
pub record Answers (M : Meaning) (s : State) (i : Item) (a : Result Reply Trouble) (e : Engine) : Type 0 where
  pub answer : answer_of a ≡ answered M s i
  pub next : Represents e (moved M s i)
