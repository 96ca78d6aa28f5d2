use Rattle.std.proofs.Common.{◌≡◌, ◌+◌, ◌++◌, string_bytes}
use Rattle.std.specs.Iterator.Adapters.{enumerate_source, enumerate_count}
use Rattle.pagers.specs.Meaning.{Meaning}
use Rattle.machine.specs.State.{State}
use Rattle.engine.specs.Relation.{Represents}
use Rattle.scripts.specs.Records.{items}
use Rattle.scripts.specs.Transcript.{lines, transcript_of}
use Rattle.scripts.proofs.console.transcript.Given as goal

-- what is written and what the records that are left give are the transcript
abbrev pub invariant-loop-i : goal.invariant-loop-i
invariant-loop-i l =
    (M : Meaning) → (s : State) × Represents l.engine s × (string_bytes l.out ++ lines M (enumerate_count l.i-iterator + 1) s (items (enumerate_source l.i-iterator).0.now) ≡ transcript_of M l.script)
