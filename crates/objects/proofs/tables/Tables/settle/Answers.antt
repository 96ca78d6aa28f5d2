use Rattle.std.proofs.Common.{sym, ◌∙◌, arith}
use Rattle.objects.proofs.Settling.{upper_is, upper_there, settle_collapse}
use Rattle.objects.proofs.tables.Tables.settle.Goals as goal

pub unwrap-shadow-requires : goal.unwrap-shadow-requires
unwrap-shadow-requires c = upper_there c.args.self.now c.requires.formed c.args.object (omega arith) c.upper.result c.upper.ensures

pub collapse-requires : goal.collapse-requires
collapse-requires c =
    let x = upper_is c.args.self.now c.requires.formed c.args.object c.unwrap-shadow.result (sym c.upper.ensures ∙ c.unwrap-shadow.ensures) in
    record { lower = x.2; upper = x.0 }

pub returns : goal.returns
returns c =
    settle_collapse c.args.self.now c.requires.formed c.args.object c.requires.others c.collapse.new.self c.collapse.ensures.rows c.collapse.ensures.records c.unwrap-shadow.result
    (omega arith) (sym c.upper.ensures ∙ c.unwrap-shadow.ensures) c.collapse.ensures.objects c.collapse.ensures.frames
