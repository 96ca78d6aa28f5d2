use Rattle.std.proofs.Common.{None, rules, arith}
use Rattle.chains.specs.declared.Backing.TheVariants.{Free}
use Rattle.objects.proofs.Scans.{count_is, is_top, is_shadow}
use Rattle.objects.proofs.tables.Tables.weight.Goals as goal

pub returns : goal.returns
returns c =
    let t = c.args.self.now in
    let o = c.args.object in
    omega (
      arith,
      c.count_of-names.ensures,
      c.count_of-shadows.ensures,
      count_is None _ _ (is_top o) t.records 256 (search rules),
      count_is Free _ _ (is_shadow o) t.objects 511 (search rules),
    )
