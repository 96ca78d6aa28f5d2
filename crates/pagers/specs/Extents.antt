-- Extents as elements of a range table.
use Rattle.std.proofs.Common.{ap, arith}
use Rattle.std.specs.Prelude.{ℕ, ◌+◌, ◌-◌, ◌*◌, ◌^◌, nat_lt, refl}
use Rattle.std.proofs.lemmas.Bool.{ltb-true, lt-ltb}
use Rattle.ranges.specs.Shape.{Shape, Laws}
use Rattle.pagers.specs.declared.extent.Extent.{Extent}

-- so many pages from a page on, at a position of the file
abbrev pub extent : ℕ → ℕ → ℕ → Extent
extent f n at = record { first = f; pages = n; position = at }

-- where the bytes of page p lie
abbrev pub position_of : ℕ → Extent → ℕ
position_of p e = e.position + 256 * (p - e.first)

-- an extent as an element: positions rise by 256 a page, and its end is a position
abbrev pub extent_shape : Shape Extent
extent_shape = record {
  first = λ e. e.first;
  pages = λ e. e.pages;
  part = λ p n e. extent p n (position_of p e);
  one = λ p e. extent p 1 (position_of p e);
  fits = λ e. nat_lt (e.position + 256 * e.pages) (2 ^ 64);
}

-- the two parts of a cut say of each page what the whole said
pub extent_laws : Laws extent_shape
extent_laws = record {
  front_first = λ e p above below. refl;
  front_pages = λ e p above below. refl;
  back_first = λ e p above below. refl;
  back_pages = λ e p above below. refl;
  front_fits = λ e p fits above below. lt-ltb _ _ (omega (arith, ltb-true _ _ fits));
  back_fits = λ e p fits above below. lt-ltb _ _ (omega (arith, ltb-true _ _ fits));
  front_says = λ e p q from below within. ap (extent q 1) (omega arith);
  back_says = λ e p q above from below. ap (extent q 1) (omega arith);
  one_first = λ e q. refl;
  one_pages = λ e q. refl;
}
