use Rattle.std.proofs.Common.{None, refl, rules}
use Rattle.chains.specs.Rows.{is_owned_by}
use Rattle.objects.proofs.Scans.{found}
use Rattle.objects.proofs.scan.frame_of.Goals as goal

pub returns : goal.returns
returns c = let p = is_owned_by c.args.owner.object c.args.owner.index in found None p p (λ x. refl) c.args.frames.now 128 (search rules) c.map.result (search rules)
