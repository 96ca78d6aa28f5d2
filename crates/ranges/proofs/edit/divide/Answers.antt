use Rattle.std.proofs.Common.{arith}
use Rattle.ranges.proofs.Divides.{row_around, divide_is}
use Rattle.ranges.proofs.edit.divide.Goals as goal

pub front-requires : goal.front-requires
front-requires g c =
    let row = row_around g.E.Element.shape c.args.rows.now c.args.len c.args.at c.args.span.from c.args.span.to c.index-rows-at.result (omega arith) c.requires.rising c.requires.around c.index-rows-at.is in
    record { proper = row.good; above = row.below; below = omega arith }

pub back-requires : goal.back-requires
back-requires g c =
    let row = row_around g.E.Element.shape c.args.rows.now c.args.len c.args.at c.args.span.from c.args.span.to c.index-rows-at.result (omega arith) c.requires.rising c.requires.around c.index-rows-at.is in
    record { proper = row.good; above = omega arith; below = row.above }

pub returns : goal.returns
returns g c =
    let row = row_around g.E.Element.shape c.args.rows.now c.args.len c.args.at c.args.span.from c.args.span.to c.index-rows-at.result (omega arith) c.requires.rising c.requires.around c.index-rows-at.is in
    divide_is g.E.Element.shape c.args.rows.now _ c.args.len c.args.at c.args.span.from c.args.span.to _ _ _ (omega arith) c.requires.rising c.args.span.ordered row c.front.ensures c.back.ensures c.put.ensures
