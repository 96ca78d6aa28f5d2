use Rattle.std.proofs.Common.{sym, ◌∙◌, arith, rules}
use Rattle.objects.proofs.Effects.{free_is, shadow_there, put_sound, put_here, put_others, cover_sound, cover_here, cover_others}
use Rattle.objects.proofs.Placing.{takes}
use Rattle.objects.proofs.Keeping.{store_sound, sound_fields}
use Rattle.objects.proofs.store.Store.put.Goals as goal

pub unwrap-shadow-requires : goal.unwrap-shadow-requires
unwrap-shadow-requires c = shadow_there _ (store_sound c.args.self.now) _ _ c.in-Some.is (omega arith) _ c.free.ensures

pub bounds-self-shadow : goal.bounds-self-shadow
bounds-self-shadow c = (free_is c.args.self.now.tables _ (sym c.unwrap-shadow.ensures ∙ c.free.ensures)).0

pub invariant_of-self : goal.invariant_of-self
invariant_of-self c =
    sound_fields _ (cover_sound _ (store_sound c.args.self.now) _ _ c.in-Some.is (omega arith) _ (search rules) (search rules) (sym c.unwrap-shadow.ensures ∙ c.free.ensures) _ _ (search rules) c.if-slot-ge128.false)

pub returns-then-weight-gt2-clause-here : goal.returns-then-weight-gt2-clause-here
returns-then-weight-gt2-clause-here c = λ e.
    cover_here _ (store_sound c.args.self.now) _ _ c.in-Some.is (omega arith) _ (search rules) (search rules) (sym c.unwrap-shadow.ensures ∙ c.free.ensures) _ _ (search rules) c.if-slot-ge128.false

pub returns-then-weight-gt2-clause-others : goal.returns-then-weight-gt2-clause-others
returns-then-weight-gt2-clause-others c =
    cover_others _ (store_sound c.args.self.now) _ _ c.in-Some.is (omega arith) _ (search rules) (search rules) (sym c.unwrap-shadow.ensures ∙ c.free.ensures) _ _ (search rules) c.if-slot-ge128.false

pub returns-then-is_some_and-clause-own : goal.returns-then-is_some_and-clause-own
returns-then-is_some_and-clause-own c = (takes _ (store_sound c.args.self.now) c.args.sharing c.args.index c.args.slot _ (search rules)).0

pub returns-then-is_some_and-clause-shared : goal.returns-then-is_some_and-clause-shared
returns-then-is_some_and-clause-shared c = (takes _ (store_sound c.args.self.now) c.args.sharing c.args.index c.args.slot _ (search rules)).1

pub invariant_of-self-2 : goal.invariant_of-self-2
invariant_of-self-2 c =
    sound_fields _ (put_sound _ (store_sound c.args.self.now) _ _ _ _ (search rules) c.if-slot-ge128.false c.in-Some.is (omega arith) (search rules))

pub returns-clause-here : goal.returns-clause-here
returns-clause-here c = λ e.
    put_here _ (store_sound c.args.self.now) _ _ _ _ (search rules) c.if-slot-ge128.false c.in-Some.is (omega arith) (search rules)

pub returns-clause-others : goal.returns-clause-others
returns-clause-others c =
    put_others _ (store_sound c.args.self.now) _ _ _ _ (search rules) c.if-slot-ge128.false c.in-Some.is (omega arith) (search rules)
