-- What a layout says of the data of a file.
use Rattle.std.specs.Prelude.{ℕ, List}
use Rattle.ranges.specs.Held.{held}
use Rattle.pagers.specs.declared.layout.Layout.{Layout}
use Rattle.pagers.specs.Images.{laid}
use Rattle.pagers.specs.Meaning.{Meaning}

-- the extents say where the pages lie in the data
abbrev pub over : Layout → List ℕ → Meaning
over l body = laid l.pages (held l.extents) body
