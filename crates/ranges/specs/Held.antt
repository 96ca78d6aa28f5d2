-- The elements that a table holds, and how an edit answers.
use Rattle.std.specs.Prelude.{◌≡◌, ℕ, Bool, true, false, List, length, take, Ok, Err, Result, nat_lt}
use Rattle.ranges.specs.declared.element.Element.{Ghosts}
use Rattle.ranges.specs.declared.table.Table.{Table}

-- the elements of a table
abbrev pub held : {E : Type 0} {N : ℕ} {g : Ghosts E} → Table E N g → List E
held t = take t.len t.rows

-- more elements than a table of N rows can hold
abbrev pub overfull : {E : Type 0} → ℕ → List E → Bool
overfull N es = nat_lt N (length es)

-- the table becomes one of these elements if the edit is allowed; otherwise it is as it was
abbrev pub Becomes : {E X Y : Type 0} {N : ℕ} {g : Ghosts E} → Table E N g → Table E N g → List E → Bool → Result X Y → Type 0
Becomes old new es allowed (Ok x) = (allowed ≡ true) × (held new ≡ es)
Becomes old new es allowed (Err y) = (allowed ≡ false) × (new ≡ old)
