-- What an edit leaves in the rows, and what the edited table says of each page.
use Rattle.std.specs.Prelude.{◌≡◌, ℕ, ◌≤◌, Bool, true, false, cond, ◌&&◌, List, length, take, Some, None, Option, nat_le, nat_lt}
use Rattle.std.specs.Option.{option_map}
use Rattle.ranges.specs.Shape.{Shape, holds}
use Rattle.ranges.specs.Tables.{said}

-- the table does not fit the rows
abbrev pub full : {E : Type 0} → List E → List E → Bool
full rows table = nat_lt (length rows) (length table)

-- a refused edit leaves every row; any other puts the table into the first rows and answers how many those are.
-- What lies behind them is left free
abbrev pub Edited : {E : Type 0} → Bool → List E → List E → List E → Option ℕ → Type 0
Edited refused table old new None = (refused ≡ true) × (new ≡ old)
Edited refused table old new (Some n) = (refused ≡ false) × (n ≡ length table) × (n ≤ length old) × (take n new ≡ table)

-- page p is one of those from f to before g
abbrev pub among : ℕ → ℕ → ℕ → Bool
among f g p = nat_le f p && nat_lt p g

-- e's pages are said by e, and every other as before
abbrev pub Inserts : {E : Type 0} → Shape E → E → List E → List E → Type 0
Inserts S e old new = (p : ℕ) → said S p new ≡ cond (holds S p e) (Some (S.one p e)) (said S p old)

-- nothing is said of a page from f to before g, and every other is said as before
abbrev pub Removes : {E : Type 0} → Shape E → ℕ → ℕ → List E → List E → Type 0
Removes S f g old new = (p : ℕ) → said S p new ≡ cond (among f g p) None (said S p old)

-- every page is said as before
abbrev pub Keeps : {E : Type 0} → Shape E → List E → List E → Type 0
Keeps S old new = (p : ℕ) → said S p new ≡ said S p old

-- a page from f to before g is said with h applied, and every other as before
abbrev pub Alters : {E : Type 0} → Shape E → (E → E) → ℕ → ℕ → List E → List E → Type 0
Alters S h f g old new = (p : ℕ) → said S p new ≡ cond (among f g p) (option_map h (said S p old)) (said S p old)
