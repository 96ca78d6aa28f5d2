use Rattle.std.proofs.Common.{sym, ◌∙◌, rules}
use Rattle.objects.proofs.Effects.{free_is, free_there, open_sound, open_starts, open_keeps}
use Rattle.objects.proofs.Keeping.{store_sound, sound_fields, all_used}
use Rattle.objects.proofs.store.Store.open.Goals as goal

pub returns-in_err-sharing-clause-full : goal.returns-in_err-sharing-clause-full
returns-in_err-sharing-clause-full c = λ e. all_used c.args.self.now.tables c.in_err-sharing.ensures

pub unwrap-object-requires : goal.unwrap-object-requires
unwrap-object-requires c = free_there _ (store_sound c.args.self.now) _ c.in_ok-sharing.ensures _ c.free.ensures

pub bounds-self-object : goal.bounds-self-object
bounds-self-object c = (free_is c.args.self.now.tables _ (sym c.unwrap-object.ensures ∙ c.free.ensures)).0

pub invariant_of-self : goal.invariant_of-self
invariant_of-self c = sound_fields _ (open_sound _ (store_sound c.args.self.now) _ _ _ (search rules) (search rules) c.in_ok-sharing.ensures (sym c.unwrap-object.ensures ∙ c.free.ensures))

pub returns-clause-starts : goal.returns-clause-starts
returns-clause-starts c = open_starts _ (store_sound c.args.self.now) _ _ _ (search rules) (search rules) c.in_ok-sharing.ensures (sym c.unwrap-object.ensures ∙ c.free.ensures)

pub returns-clause-keeps : goal.returns-clause-keeps
returns-clause-keeps c = open_keeps _ (store_sound c.args.self.now) c.args.origin _ _ (search rules) (search rules) c.in_ok-sharing.ensures (sym c.unwrap-object.ensures ∙ c.free.ensures)
