use Rattle.std.proofs.Common.{rules}
use Rattle.objects.proofs.Effects.{copy_sound, copy_copies, copy_keeps}
use Rattle.objects.proofs.Keeping.{store_sound, sound_fields, all_used}
use Rattle.objects.proofs.store.Store.copy.Goals as goal

pub returns-in_err-fresh-clause-full : goal.returns-in_err-fresh-clause-full
returns-in_err-fresh-clause-full c = λ e u. all_used c.args.self.now.tables c.in_err-fresh.ensures

pub invariant_of-self : goal.invariant_of-self
invariant_of-self c = sound_fields _ (copy_sound _ (store_sound c.args.self.now) _ _ _ (search rules) c.in_ok-object.was c.in_ok-fresh.ensures)

pub returns-clause-copies : goal.returns-clause-copies
returns-clause-copies c = let s = store_sound c.args.self.now in search (rules, copy_copies)

pub returns-clause-keeps : goal.returns-clause-keeps
returns-clause-keeps c = let s = store_sound c.args.self.now in search (rules, copy_keeps)
