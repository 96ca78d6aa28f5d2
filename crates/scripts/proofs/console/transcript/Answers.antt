use Rattle.std.proofs.Common.{append_assoc, add-one, rules}
use Rattle.scripts.specs.Transcript.{lines}
use Rattle.scripts.proofs.console.transcript.Goals as goal

pub loop-i-preserved : goal.loop-i-preserved
unfolding lines
loop-i-preserved c M =
    let before = c.loop-i.invariant M in
    let does = c.perform-answer.ensures M before.0 before.1 in
    (_, does.next, search (rules, append_assoc, add-one))

pub returns : goal.returns
unfolding lines
returns c M = let before = c.loop-i.invariant M in search rules
