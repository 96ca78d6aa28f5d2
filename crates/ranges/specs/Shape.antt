-- What an element of a range table is: where it lies, what it says of each of its pages, and its parts at a cut.
use Rattle.std.specs.Prelude.{◌≡◌, ℕ, ◌+◌, ◌-◌, ◌<◌, ◌≤◌, Bool, true, ◌&&◌, nat_le, nat_lt}

-- where an element lies, what it says of each of its pages, and its parts
pub record Shape (E : Type 0) : Type 0 where
  -- the first page, and the number of pages
  pub first : E → ℕ
  pub pages : E → ℕ
  -- the part of so many pages from a page on
  pub part : ℕ → ℕ → E → E
  -- what the element says of a page: an element of that page alone
  pub one : ℕ → E → E
  -- what the element says of its last page is still in the kind's bounds
  pub fits : E → Bool

-- the page after the element's last
abbrev pub end : {E : Type 0} → Shape E → E → ℕ
end S e = S.first e + S.pages e

-- the part below a page
abbrev pub front_of : {E : Type 0} → Shape E → ℕ → E → E
front_of S p e = S.part (S.first e) (p - S.first e) e

-- the part from a page on
abbrev pub back_of : {E : Type 0} → Shape E → ℕ → E → E
back_of S p e = S.part p (end S e - p) e

-- the element has a page, lies within a task and keeps the kind's bounds
abbrev pub proper : {E : Type 0} → Shape E → E → Bool
proper S e = (nat_lt 0 (S.pages e) && nat_le (end S e) 4096) && S.fits e

-- the page is the element's
abbrev pub holds : {E : Type 0} → Shape E → ℕ → E → Bool
holds S p e = nat_le (S.first e) p && nat_lt p (end S e)

-- what every kind of element owes: a cut inside gives two parts that lie side by side
-- and say of each page what the whole said
pub record Laws {E : Type 0} (S : Shape E) : Type 0 where
  pub front_first : (e : E) (p : ℕ) → S.first e < p → p < end S e → S.first (front_of S p e) ≡ S.first e
  pub front_pages : (e : E) (p : ℕ) → S.first e < p → p < end S e → S.pages (front_of S p e) ≡ p - S.first e
  pub back_first : (e : E) (p : ℕ) → S.first e < p → p < end S e → S.first (back_of S p e) ≡ p
  pub back_pages : (e : E) (p : ℕ) → S.first e < p → p < end S e → S.pages (back_of S p e) ≡ end S e - p
  pub front_fits : (e : E) (p : ℕ) → S.fits e ≡ true → S.first e < p → p < end S e → S.fits (front_of S p e) ≡ true
  pub back_fits : (e : E) (p : ℕ) → S.fits e ≡ true → S.first e < p → p < end S e → S.fits (back_of S p e) ≡ true
  pub front_says : (e : E) (p q : ℕ) → S.first e ≤ q → q < p → p < end S e → S.one q (front_of S p e) ≡ S.one q e
  pub back_says : (e : E) (p q : ℕ) → S.first e < p → p ≤ q → q < end S e → S.one q (back_of S p e) ≡ S.one q e
  pub one_first : (e : E) (q : ℕ) → S.first (S.one q e) ≡ q
  pub one_pages : (e : E) (q : ℕ) → S.pages (S.one q e) ≡ 1

-- what a change of elements owes: it moves no element, keeps the kind's bounds, and is the same page by page
pub record Altering {E : Type 0} (S : Shape E) (h : E → E) : Type 0 where
  pub same_first : (e : E) → S.first (h e) ≡ S.first e
  pub same_pages : (e : E) → S.pages (h e) ≡ S.pages e
  pub same_fits : (e : E) → S.fits (h e) ≡ S.fits e
  pub page_by_page : (e : E) (q : ℕ) → S.one q (h e) ≡ h (S.one q e)
