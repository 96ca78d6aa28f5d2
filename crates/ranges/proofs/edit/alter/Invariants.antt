use Rattle.std.proofs.Common.{◌≡◌, ◌++◌, map, take, drop}
use Rattle.ranges.proofs.Changes.{change_in}
use Rattle.ranges.proofs.edit.alter.Given as goal

-- the rows so far are changed
abbrev pub invariant-loop-row : goal.invariant-loop-row
invariant-loop-row g l = l.rows ≡ map (change_in g.E.Element.shape (g.C.Change.alters l.by) l.span.from l.span.to) (take l.row-index l.initial.rows) ++ drop l.row-index l.initial.rows
