use Rattle.std.proofs.Common.{rules}
use Rattle.objects.proofs.Effects.{frame_held, close_formed, close_sound, close_keeps, close_reached}
use Rattle.objects.proofs.Keeping.{store_sound, sound_fields}
use Rattle.objects.proofs.store.Store.close.Goals as goal

pub returns-in_default-clause-reached : goal.returns-in_default-clause-reached
returns-in_default-clause-reached c = λ k i s u d h. frame_held _ (store_sound c.args.self.now) k i s h

pub forget-requires-clause-formed : goal.forget-requires-clause-formed
forget-requires-clause-formed c = close_formed _ (store_sound c.args.self.now) _ _ (search rules) c.in-Some.is

pub invariant_of-self : goal.invariant_of-self
invariant_of-self c = sound_fields c.forget.new.self (close_sound _ (store_sound c.args.self.now) _ _ (search rules) c.in-Some.is _ c.forget.ensures)

pub returns-clause-keeps : goal.returns-clause-keeps
returns-clause-keeps c = close_keeps _ (store_sound c.args.self.now) _ _ (search rules) c.in-Some.is _ c.forget.ensures

pub returns-clause-reached : goal.returns-clause-reached
returns-clause-reached c = close_reached _ (store_sound c.args.self.now) _ _ (search rules) c.in-Some.is _ c.forget.ensures
