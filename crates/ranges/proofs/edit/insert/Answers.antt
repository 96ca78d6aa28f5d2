use Rattle.std.proofs.Common.{◌≡◌, ◌+◌, ◌<◌, false, length, take, sym, refl, ap, ◌∙◌, arith}
use Rattle.std.proofs.lemmas.Bool.{or_left, or_right, or_from}
use Rattle.ranges.specs.Tables.{taken, inserted}
use Rattle.ranges.proofs.Facts.{used}
use Rattle.ranges.proofs.Inserts.{insert_says, insert_rises, insert_full, insert_fits, insert_count, insert_is}
use Rattle.ranges.proofs.edit.insert.Goals as goal
use Rattle.ranges.proofs.edit.insert.Goals.{then-len-rows-via-then-len-rows, then-len-rows-via-else-len-rows+then-is_taken}

pub returns-then-len-rows : goal.returns-then-len-rows
returns-then-len-rows g c =
    let S = g.E.Element.shape in
    let e = c.args.e in
    let xs = c.args.rows.now in
    let len = c.args.len in
    record {
      edited = (
        elim c.then-len-rows.branch [
          | then-len-rows-via-then-len-rows w ↦ or_right _ _ (insert_full S e xs len c.requires.within w.if-len-rows.true)
          | then-len-rows-via-else-len-rows+then-is_taken w ↦ or_left _ _ (sym (w.is_taken.ensures ∙ ap (taken S e) (used xs len)) ∙ w.if-is_taken.true)
        ],
        refl,
      );
      says = tt;
      rising = tt;
    }

pub returns : goal.returns
returns g c =
    let S = g.E.Element.shape in
    let e = c.args.e in
    let xs = c.args.rows.now in
    let len = c.args.len in
    let room : len < length xs = omega arith in
    let free : taken S e (take len xs) ≡ false = sym (c.is_taken.ensures ∙ ap (taken S e) (used xs len)) ∙ c.if-is_taken.false in
    let is : take (len + 1) c.put.new.rows ≡ inserted S e (take len xs) = insert_is S e xs len c.requires.within _ _ c.place-at.ensures.inserted c.put.ensures in
    record {
      edited = (or_from _ _ free (insert_fits S e xs len c.requires.within room), insert_count S e xs len c.requires.within, omega arith, is);
      says = insert_says S e (take len xs) c.requires.rising c.requires.proper free _ is;
      rising = insert_rises S e (take len xs) c.requires.rising c.requires.proper free _ is;
    }
