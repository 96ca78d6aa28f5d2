use Rattle.std.proofs.Common.{rules}
use Rattle.ranges.proofs.Scans.{inserted_place}
use Rattle.ranges.proofs.scan.place.Goals as goal

pub returns-clause-inserted : goal.returns-clause-inserted
returns-clause-inserted g c = inserted_place g.E.Element.shape _ _ _ (search rules)
