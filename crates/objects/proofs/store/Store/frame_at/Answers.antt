use Rattle.objects.proofs.Keeping.{frame_only}
use Rattle.objects.proofs.store.Store.frame_at.Goals as goal

pub returns-clause-only : goal.returns-clause-only
returns-clause-only c = λ s. frame_only c.args.self.now c.args.owner s c.frame_of.result c.frame_of.ensures
