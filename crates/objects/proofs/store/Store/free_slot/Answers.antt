use Rattle.std.proofs.Common.{min, None, rules, arith}
use Rattle.chains.specs.contracts.OwnerPartialEq.TheImpl as owner_eq
use Rattle.objects.proofs.Scans.{found_within, is_unused}
use Rattle.objects.proofs.store.Store.free_slot.Goals as goal

pub returns : goal.returns
returns c = found_within None _ _ (is_unused (owner_eq.ghosts).eq) c.args.self.now.tables.frames 128 (search rules) (min c.args.limit 128) (omega arith) c.map.result (search rules)
