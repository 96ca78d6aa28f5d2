use Rattle.std.proofs.Common.{eqb, None, rules}
use Rattle.objects.proofs.Scans.{found, is_unused}
use Rattle.objects.proofs.scan.unused.Goals as goal

pub returns : goal.returns
returns c = found None _ _ (is_unused eqb) c.args.records.now 256 (search rules) c.map.result (search rules)
