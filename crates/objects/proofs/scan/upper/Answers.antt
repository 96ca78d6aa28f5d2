use Rattle.std.proofs.Common.{rules}
use Rattle.chains.specs.declared.Backing.TheVariants.{Free}
use Rattle.objects.proofs.Scans.{found, is_shadow}
use Rattle.objects.proofs.scan.upper.Goals as goal

pub returns : goal.returns
returns c = found Free _ _ (is_shadow c.args.object) c.args.objects.now 511 (search rules) c.map.result (search rules)
