use Rattle.std.proofs.Common.{◌≡◌, ◌+◌, ◌-◌, ◌<◌, ◌≤◌, ◌++◌, length, take, refl, ap, ◌∙◌, arith}
use borrow.Rule.Slice.PartMut.{post_of}
use Rattle.std.proofs.lemmas.List.{length-append, length-take-le}
use Rattle.ranges.specs.Tables.{altered}
use Rattle.ranges.proofs.Facts.{used}
use Rattle.ranges.proofs.Edits.{count_is, fits_rows}
use Rattle.ranges.proofs.Changes.{change_full, half_within, half_rises, half_room, all_within, altered_is, alter_says, alter_rises}
use Rattle.ranges.proofs.edit.change.Goals as goal

pub returns-then-rows-len : goal.returns-then-rows-len
returns-then-rows-len g c =
    let some = c.args.range.some in
    let low : c.from-span.result.from < c.from-span.result.to = omega (arith, c.from-span.ensures.0, c.from-span.ensures.1) in
    record {
      edited = (change_full g.E.Element.shape g.E.Element.laws c.args.rows.now c.args.len c.requires.within c.requires.rising c.from-span.result.from c.from-span.result.to low _ _ c.extra.ensures.count c.extra-2.ensures.count (g.C.Change.alters c.args.by.now) _ _ c.from-span.ensures.0 c.from-span.ensures.1 c.if-rows-len.true, refl);
      says = tt;
      rising = tt;
    }

pub split-count-requires : goal.split-count-requires
split-count-requires g c =
    let some = c.args.range.some in
    let S = g.E.Element.shape in
    let L = g.E.Element.laws in
    let xs = c.args.rows.now in
    let ys = c.split-half.new.rows in
    let low : c.from-span.result.from < c.from-span.result.to = omega (arith, c.from-span.ensures.0, c.from-span.ensures.1) in
    let long : length ys ≡ length xs = omega (arith, c.split-half.auto.rows) in
    record {
      within = half_within S L xs c.args.len c.requires.within c.requires.rising _ _ low _ _ c.extra.ensures.count c.extra-2.ensures.count ys _ c.if-rows-len.false long c.split-half.ensures.count c.split-half.ensures.table;
      rising = half_rises S L xs c.args.len c.requires.within c.requires.rising _ _ low _ _ c.extra.ensures.count c.extra-2.ensures.count ys _ c.if-rows-len.false long c.split-half.ensures.count c.split-half.ensures.table;
      room = half_room S L xs c.args.len c.requires.within c.requires.rising _ _ low _ _ c.extra.ensures.count c.extra-2.ensures.count ys _ c.if-rows-len.false long c.split-half.ensures.count c.split-half.ensures.table;
    }

pub returns : goal.returns
returns g c =
    let some = c.args.range.some in
    let S = g.E.Element.shape in
    let L = g.E.Element.laws in
    let h = g.C.Change.alters c.args.by.now in
    let A = g.met.C.Change.still c.args.by.now in
    let xs = c.args.rows.now in
    let ys = c.split-half.new.rows in
    let zs = c.split-count.new.rows in
    let ws = c.alter.new.rows in
    let n = c.split-count.result in
    let rest = post_of 0 (n - 0) zs in
    let len = c.args.len in
    let f = c.args.range.first in
    let to = f + c.args.range.pages in
    let low : c.from-span.result.from < c.from-span.result.to = omega (arith, c.from-span.ensures.0, c.from-span.ensures.1) in
    let long : length ys ≡ length xs = omega (arith, c.split-half.auto.rows) in
    let long' : length zs ≡ length ys = omega (arith, c.split-count.auto.rows) in
    let bound : n ≤ length zs = all_within S L xs len c.requires.within c.requires.rising _ _ low _ _ c.extra.ensures.count c.extra-2.ensures.count ys _ c.if-rows-len.false long c.split-half.ensures.count c.split-half.ensures.table zs _ long' c.split-count.ensures.count c.split-count.ensures.table in
    let is : take n (ws ++ rest) ≡ altered S h f to (take len xs) = altered_is S L xs len c.requires.within c.requires.rising _ _ low _ _ c.extra.ensures.count c.extra-2.ensures.count ys _ c.if-rows-len.false long c.split-half.ensures.count c.split-half.ensures.table zs _ long' c.split-count.ensures.count c.split-count.ensures.table h f to ws rest c.from-span.ensures.0 c.from-span.ensures.1 c.alter.auto.rows c.alter.ensures in
    let room : n ≤ length xs = omega arith in
    let size : length ws ≡ n = c.alter.auto.rows ∙ ap length (used zs n) ∙ length-take-le n zs bound in
    let count : n ≡ length (altered S h f to (take len xs)) = count_is n (ws ++ rest) _ (omega (arith, length-append ws rest)) is in
    let range : f < to = omega arith in
    record {
      edited = (fits_rows n xs _ count room, count, room, is);
      says = alter_says S h A f to range L (take len xs) _ c.requires.rising is;
      rising = alter_rises S h A f to range L (take len xs) _ c.requires.rising is;
    }
