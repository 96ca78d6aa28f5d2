use Rattle.std.proofs.Common.{◌≡◌, drop}
use Rattle.ranges.specs.Places.{reach}
use Rattle.ranges.proofs.scan.reached.Given as goal

-- the rows left lead on to the same page
abbrev pub invariant-loop-row : goal.invariant-loop-row
invariant-loop-row g l = let S = g.E.Element.shape in reach S l.initial.page l.rows ≡ reach S l.page (drop l.row-index l.rows)
