use Rattle.objects.proofs.Ends.{Comes}
use Rattle.objects.proofs.store.Store.walk.Given as goal

abbrev pub invariant-loop-length : goal.invariant-loop-length
invariant-loop-length l = Comes l.self.tables l.index l.initial.object l.object l.length
