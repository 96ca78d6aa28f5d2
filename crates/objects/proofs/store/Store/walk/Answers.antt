use Rattle.std.proofs.Common.{sym, ap, ◌∙◌, Some}
use Rattle.objects.proofs.Ends.{comes_more, comes_over, comes_says}
use Rattle.objects.proofs.Keeping.{store_sound}
use Rattle.objects.proofs.store.Store.walk.Goals as goal

pub returns-in-Break : goal.returns-in-Break
returns-in-Break c =
    let x = comes_says _ (store_sound c.args.self.now) _ _ _ _ _ _ _ c.in_ok-object.was c.loop-length.invariant c.in_ok-end.ensures c.in-Break.is in
    record { used = x.0; end = x.1; length = x.2; short = x.3 }

pub loop-length-preserved : goal.loop-length-preserved
loop-length-preserved c = comes_more _ (store_sound c.args.self.now) _ _ _ _ _ c.loop-length.invariant (ap Some (sym c.in-Continue.is) ∙ c.in_ok-end.ensures)

pub returns : goal.returns
returns c = absurd (comes_over _ (store_sound c.args.self.now) _ _ _ _ _ c.in_ok-object.was c.loop-length-test.false c.loop-length.invariant)
