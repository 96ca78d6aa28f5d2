use Rattle.std.proofs.Common.{◌≡◌, length, drop, map}
use Rattle.ranges.specs.Held.{held}
use Rattle.pagers.specs.Images.{extent_in, extents, page_count}
use Rattle.pagers.proofs.Openings.{Parted}
use Rattle.pagers.proofs.layout.Layout.open.Given as goal

-- the extents of the rows so far are in the table
abbrev pub invariant-loop-row : goal.invariant-loop-row
invariant-loop-row l = record {
  pages : l.layout.pages ≡ page_count l.file;
  size : length (held l.layout.extents) ≡ l.row-index;
  parted : Parted (page_count l.file) (extents l.file) (map extent_in (drop l.row-index l.table)) (held l.layout.extents);
}
