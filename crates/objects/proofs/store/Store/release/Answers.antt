use Rattle.std.proofs.Common.{arith, rules}
use Rattle.std.proofs.lemmas.Grind.{common_steps}
use Rattle.objects.proofs.Effects.{release_keeps}
use Rattle.objects.proofs.Keeping.{store_sound}
use Rattle.objects.proofs.store.Store.release.Goals as goal

pub returns-clause-keeps : goal.returns-clause-keeps
returns-clause-keeps c = release_keeps c.args.self.now.tables (store_sound c.args.self.now) c.args.slot (search rules) (grind (arith, common_steps))
