-- A table whose rows and length are as they were is as it was.
use Rattle.std.proofs.Common.{◌≡◌, ℕ, ◌≤◌, Bool, true, false, List, take, Ok, Err, Result, sym, refl, ap, ◌∙◌, subst}
use Rattle.std.specs.Result.{is_err}
use Rattle.std.proofs.lemmas.Bool.{both_ways}
use Rattle.std.specs.Coded.{le_prop}
use Rattle.std.proofs.Math.Bool.{Bool-set}
use Rattle.ranges.specs.declared.element.Element.{Ghosts}
use Rattle.ranges.specs.declared.table.Table.{Table}
use Rattle.ranges.specs.Tables.{rising}
use Rattle.ranges.specs.Held.{Becomes}

module _ {E : Type 0} {N : ℕ} {g : Ghosts E} (t : Table E N g) where
  -- the rows with this table's length
  abbrev made : (rows : List E) → t.len ≤ N → rising g.shape 0 (take t.len rows) ≡ true → Table E N g
  made rows fit ordered = record { rows = rows; len = t.len; fit = fit; ordered = ordered }

  same_facts : (fit : t.len ≤ N) (ordered : rising g.shape 0 (take t.len t.rows) ≡ true) → made t.rows fit ordered ≡ t
  same_facts fit ordered = ap (λ f. made t.rows f ordered) (le_prop fit t.fit) ∙ ap (made t.rows t.fit) (Bool-set _ _ ordered t.ordered)

  pub same_table : (rows : List E) → rows ≡ t.rows → (fit : t.len ≤ N) (ordered : rising g.shape 0 (take t.len rows) ≡ true) → made rows fit ordered ≡ t
  same_table rows same = subst (λ xs. (fit : t.len ≤ N) (ordered : rising g.shape 0 (take t.len xs) ≡ true) → made xs fit ordered ≡ t) (sym same) same_facts

-- an error answers that an edit was not allowed and left the table as it was
not_allowed : {E X Y : Type 0} {N : ℕ} {g : Ghosts E} (old new : Table E N g) (es : List E) (allowed : Bool) (r : Result X Y) → is_err r ≡ true → allowed ≡ false → new ≡ old → Becomes old new es allowed r
not_allowed old new es allowed (Ok x) err turned same = absurd (both_ways false refl err)
not_allowed old new es allowed (Err y) err turned same = (turned, same)

-- so it is where the edit left the rows as they were
pub refused_table : {E X Y : Type 0} {N : ℕ} {g : Ghosts E} (t : Table E N g) (rows : List E) (fit : t.len ≤ N) (ordered : rising g.shape 0 (take t.len rows) ≡ true) (es : List E) (allowed : Bool) (r : Result X Y) → is_err r ≡ true → rows ≡ t.rows → allowed ≡ false → Becomes t (record { rows = rows; len = t.len; fit = fit; ordered = ordered }) es allowed r
refused_table t rows fit ordered es allowed r err same turned = not_allowed t _ es allowed r err turned (same_table t rows same fit ordered)
