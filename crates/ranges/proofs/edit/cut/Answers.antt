use Rattle.std.proofs.Common.{◌≤◌, length, take, arith}
use Rattle.ranges.proofs.Edits.{cut_count, fits_rows, cut_keeps, cut_rises}
use Rattle.ranges.proofs.edit.cut.Goals as goal

pub returns : goal.returns
returns g c =
    let S = g.E.Element.shape in
    let L = g.E.Element.laws in
    let xs = c.args.rows.now in
    let len = c.args.len in
    let p = c.args.page in
    let more = cut_count S xs len c.requires.within c.requires.rising p c.extra.result c.extra.ensures.count in
    let count = c.split.ensures.count in
    let room : c.split.result ≤ length xs = omega (arith, more, count, c.if-rows-len.false, c.requires.within) in
    record {
      edited = (fits_rows c.split.result xs _ count room, count, room, c.split.ensures.table);
      says = cut_keeps S L (take len xs) _ c.requires.rising p c.split.ensures.table;
      rising = cut_rises S L (take len xs) _ c.requires.rising p c.split.ensures.table;
    }
