-- Pages that know whether they were cut off, as elements of a range table.
use Rattle.std.specs.Prelude.{ℕ, Bool, true, false, refl}
use Rattle.ranges.specs.Shape.{Shape, Laws}
use Rattle.ranges_tests.specs.declared.cuttable.Cuttable.{Cuttable}

-- so many pages from a page on, cut off or not
abbrev pub cuttable : ℕ → ℕ → Bool → Cuttable
cuttable f n b = record { first = f; pages = n; cut = b }

-- elements whose parts are cut off, also a part of one page; of a page alone they say no such thing
abbrev pub cuttable_shape : Shape Cuttable
cuttable_shape = record {
  first = λ e. e.first;
  pages = λ e. e.pages;
  part = λ p n e. cuttable p n true;
  one = λ p e. cuttable p 1 false;
  fits = λ e. true;
}

-- their parts say of each page what the whole said
pub cuttable_laws : Laws cuttable_shape
cuttable_laws = record {
  front_first = λ e p above below. refl;
  front_pages = λ e p above below. refl;
  back_first = λ e p above below. refl;
  back_pages = λ e p above below. refl;
  front_fits = λ e p fits above below. refl;
  back_fits = λ e p fits above below. refl;
  front_says = λ e p q from below within. refl;
  back_says = λ e p q above from below. refl;
  one_first = λ e q. refl;
  one_pages = λ e q. refl;
}
