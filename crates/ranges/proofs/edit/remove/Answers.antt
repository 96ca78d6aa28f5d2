use Rattle.std.proofs.Common.{◌≡◌, ◌+◌, ◌-◌, ◌≤◌, ◌++◌, length, take, refl, ap, ◌∙◌, arith}
use borrow.Rule.Slice.PartMut.{post_of}
use Rattle.std.proofs.lemmas.List.{length-take-le, length-append}
use Rattle.ranges.specs.Tables.{removed}
use Rattle.ranges.proofs.Facts.{used}
use Rattle.ranges.proofs.Edits.{count_is, fits_rows, same_removed, squeezed_is, around_full, remove_says, remove_rises}
use Rattle.ranges.proofs.edit.remove.Goals as goal

pub returns-in_default : goal.returns-in_default
returns-in_default g c =
    let S = g.E.Element.shape in
    let L = g.E.Element.laws in
    let xs = c.args.rows.now in
    let len = c.args.len in
    let n = c.squeeze.result in
    let f = c.args.range.first in
    let to = f + c.args.range.pages in
    let low : n ≤ len = omega (arith, c.squeeze.ensures.within, ap length (used xs len), length-take-le len xs c.requires.within) in
    let all : n ≤ length c.squeeze.new.rows = omega (arith, c.squeeze.ensures.within, c.squeeze.auto.rows) in
    let is = squeezed_is S xs c.squeeze.new.rows (post_of 0 (len - 0) xs) len n f to _ _ c.from-span.ensures.0 c.from-span.ensures.1 all c.squeeze.ensures.table in
    let count : n ≡ length (removed S f to (take len xs)) = count_is n (c.squeeze.new.rows ++ post_of 0 (len - 0) xs) _ (omega (arith, length-append c.squeeze.new.rows (post_of 0 (len - 0) xs))) is in
    let room : n ≤ length xs = omega (arith, c.requires.within) in
    record {
      edited = (fits_rows n xs _ count room, count, room, is);
      says = remove_says S L (take len xs) _ c.requires.rising f to (omega arith) is;
      rising = remove_rises S L (take len xs) _ c.requires.rising f to (omega arith) is;
    }

pub returns-then-len-rows : goal.returns-then-len-rows
returns-then-len-rows g c =
    record {
      edited = (around_full g.E.Element.shape c.args.rows.now c.args.len c.requires.within c.requires.rising _ _ _ _ _ c.from-span.ensures.0 c.from-span.ensures.1 (omega arith) c.in-Some.ensures c.if-len-rows.true, refl);
      says = tt;
      rising = tt;
    }

pub returns : goal.returns
returns g c =
    let S = g.E.Element.shape in
    let L = g.E.Element.laws in
    let xs = c.args.rows.now in
    let len = c.args.len in
    let f = c.args.range.first in
    let to = f + c.args.range.pages in
    let same = same_removed S f to _ _ (take len xs) c.from-span.ensures.0 c.from-span.ensures.1 in
    let is = c.divide.ensures ∙ same in
    let room : len + 1 ≤ length xs = omega arith in
    let count : len + 1 ≡ length (removed S f to (take len xs)) = count_is (len + 1) c.divide.new.rows _ (omega (arith, c.divide.auto.rows)) is in
    record {
      edited = (fits_rows (len + 1) xs _ count room, count, room, is);
      says = remove_says S L (take len xs) _ c.requires.rising f to (omega arith) is;
      rising = remove_rises S L (take len xs) _ c.requires.rising f to (omega arith) is;
    }
