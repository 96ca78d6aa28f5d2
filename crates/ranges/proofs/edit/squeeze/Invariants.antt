use Rattle.ranges.proofs.Divides.{Squeezing}
use Rattle.ranges.proofs.edit.squeeze.Given as goal

abbrev pub invariant-loop-i : goal.invariant-loop-i
invariant-loop-i g l = Squeezing g.E.Element.shape l.span.from l.span.to l.initial.rows l.rows l.count l.i
