use Rattle.std.proofs.Common.{rules}
use Rattle.objects.proofs.Keeping.{owner_fixes}
use Rattle.objects.proofs.store.Store.owner.Goals as goal

pub returns-in_err-get-clause-fixes : goal.returns-in_err-get-clause-fixes
returns-in_err-get-clause-fixes c = owner_fixes c.args.self.now c.args.slot c.from_residual.result (search rules)

pub returns-clause-fixes : goal.returns-clause-fixes
returns-clause-fixes c = owner_fixes c.args.self.now c.args.slot c.in_ok-get.field-0.now (search rules)
