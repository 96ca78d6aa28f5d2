-- Map entries as elements of a range table, and the changes that protect and inherit make.
use Rattle.std.specs.Prelude.{ℕ, ◌+◌, ◌-◌, nat_le, refl}
use Rattle.std.proofs.Common.{ap, arith}
use Rattle.std.proofs.lemmas.Bool.{leb-true, le-leb}
use Rattle.ranges.specs.Shape.{Shape, Laws, Altering}
use Rattle.machine.specs.declared.words.Entry.{Entry}
use Rattle.machine.specs.declared.words.Protection.{Protection}
use Rattle.machine.specs.declared.words.Inheritance.{Inheritance}

-- what e says, of the n pages from p on, with indices from i on
abbrev pub placed : ℕ → ℕ → ℕ → Entry → Entry
placed p n i e = record { first = p; pages = n; protection = e.protection; inheritance = e.inheritance; sharing = e.sharing; index = i }

-- the n pages of e from page p on
abbrev pub part : ℕ → ℕ → Entry → Entry
part p n e = placed p n (e.index + (p - e.first)) e

-- the index rises by one a page, and stays below 4,096
abbrev pub entry_shape : Shape Entry
entry_shape = record {
  first = λ e. e.first;
  pages = λ e. e.pages;
  part = part;
  one = λ p e. part p 1 e;
  fits = λ e. nat_le (e.index + e.pages) 4096;
}

-- the two parts of a cut say of each page what the whole said
pub entry_laws : Laws entry_shape
entry_laws = record {
  front_first = λ e p above below. refl;
  front_pages = λ e p above below. refl;
  back_first = λ e p above below. refl;
  back_pages = λ e p above below. refl;
  front_fits = λ e p fits above below. le-leb _ _ (omega (arith, leb-true _ _ fits));
  back_fits = λ e p fits above below. le-leb _ _ (omega (arith, leb-true _ _ fits));
  front_says = λ e p q from below within. ap (λ (i : ℕ). placed q 1 i e) (omega arith);
  back_says = λ e p q above from below. ap (λ (i : ℕ). placed q 1 i e) (omega arith);
  one_first = λ e q. refl;
  one_pages = λ e q. refl;
}

-- the entry with another protection
abbrev pub protected : Protection → Entry → Entry
protected v e = record { first = e.first; pages = e.pages; protection = v; inheritance = e.inheritance; sharing = e.sharing; index = e.index }

-- the entry with another inheritance
abbrev pub inheriting : Inheritance → Entry → Entry
inheriting v e = record { first = e.first; pages = e.pages; protection = e.protection; inheritance = v; sharing = e.sharing; index = e.index }

-- the entry on another sharing record
abbrev pub resting : ℕ → Entry → Entry
resting r e = record { first = e.first; pages = e.pages; protection = e.protection; inheritance = e.inheritance; sharing = r; index = e.index }

-- a new protection or inheritance moves no page and no index
pub protected_still : (v : Protection) → Altering entry_shape (protected v)
protected_still v = record { same_first = λ e. refl; same_pages = λ e. refl; same_fits = λ e. refl; page_by_page = λ e q. refl }

-- and nor does a new inheritance
pub inheriting_still : (v : Inheritance) → Altering entry_shape (inheriting v)
inheriting_still v = record { same_first = λ e. refl; same_pages = λ e. refl; same_fits = λ e. refl; page_by_page = λ e q. refl }
