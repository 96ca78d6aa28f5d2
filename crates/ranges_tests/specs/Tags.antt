-- Tagged pages as elements of a range table.
use Rattle.std.specs.Prelude.{ℕ, true, refl}
use Rattle.ranges.specs.Shape.{Shape, Laws, Altering}
use Rattle.ranges_tests.specs.declared.tagged.Retag.{Retag}
use Rattle.ranges_tests.specs.declared.tagged.Tagged.{Tagged}

-- so many pages from a page on, with a tag
abbrev pub tagged_of : ℕ → ℕ → ℕ → Tagged
tagged_of f n t = record { first = f; pages = n; tag = t }

-- elements that say a tag
abbrev pub tagged_shape : Shape Tagged
tagged_shape = record {
  first = λ e. e.first;
  pages = λ e. e.pages;
  part = λ p n e. tagged_of p n e.tag;
  one = λ p e. tagged_of p 1 e.tag;
  fits = λ e. true;
}

-- their parts say the same tag
pub tagged_laws : Laws tagged_shape
tagged_laws = record {
  front_first = λ e p above below. refl;
  front_pages = λ e p above below. refl;
  back_first = λ e p above below. refl;
  back_pages = λ e p above below. refl;
  front_fits = λ e p fits above below. refl;
  back_fits = λ e p fits above below. refl;
  front_says = λ e p q from below within. refl;
  back_says = λ e p q above from below. refl;
  one_first = λ e q. refl;
  one_pages = λ e q. refl;
}

-- the element with the new tag
abbrev pub retagged : Retag → Tagged → Tagged
retagged r e = tagged_of e.first e.pages r.tag

-- a new tag moves no page
pub retagged_still : (r : Retag) → Altering tagged_shape (retagged r)
retagged_still r = record { same_first = λ e. refl; same_pages = λ e. refl; same_fits = λ e. refl; page_by_page = λ e q. refl }
