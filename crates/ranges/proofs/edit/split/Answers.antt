use Rattle.std.proofs.Common.{◌≡◌, ◌+◌, length, take, sym, ap, ◌∙◌, arith}
use Rattle.std.proofs.lemmas.List.{length-take-le}
use Rattle.ranges.specs.Tables.{cut}
use Rattle.ranges.proofs.Edits.{around_more, around_used, cut_uncut}
use Rattle.ranges.proofs.edit.split.Goals as goal

pub returns-in_default : goal.returns-in_default
returns-in_default g c =
    let xs = c.args.rows.now in
    let len = c.args.len in
    let same = cut_uncut g.E.Element.shape xs len c.requires.within c.requires.rising c.args.page c.in_default.ensures in
    record { count = sym (ap length same ∙ length-take-le len xs c.requires.within); table = sym same }

pub divide-requires : goal.divide-requires
divide-requires g c =
    let S = g.E.Element.shape in
    let xs = c.args.rows.now in
    let len = c.args.len in
    let p = c.args.page in
    let more : length (cut S p (take len xs)) ≡ len + 1 = around_more S xs len c.requires.within c.requires.rising p p _ (omega arith) c.in-Some.ensures in
    record {
      room = omega (arith, c.requires.room);
      rising = c.requires.rising;
      around = around_used S p p len _ xs c.in-Some.ensures;
    }

pub overflow_add-result : goal.overflow_add-result
overflow_add-result g c =
    let S = g.E.Element.shape in
    let xs = c.args.rows.now in
    let len = c.args.len in
    let p = c.args.page in
    let more : length (cut S p (take len xs)) ≡ len + 1 = around_more S xs len c.requires.within c.requires.rising p p _ (omega arith) c.in-Some.ensures in
    omega (arith, c.requires.room, c.well_formed.0.0)

pub returns : goal.returns
returns g c =
    let p = c.args.page in
    record {
      count = sym (around_more g.E.Element.shape c.args.rows.now c.args.len c.requires.within c.requires.rising p p _ (omega arith) c.in-Some.ensures);
      table = c.divide.ensures;
    }
