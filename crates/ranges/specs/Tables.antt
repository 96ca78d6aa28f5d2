-- Tables of elements as lists, and what each edit makes of one.
use Rattle.std.specs.Prelude.{ℕ, zero, suc, Bool, true, cond, ◌&&◌, List, [], ◌∷◌, ◌++◌, map, is_some, Some, None, Option, nat_le, nat_lt}
use Rattle.std.specs.List.{flat_map, list_any}
use Rattle.ranges.specs.Shape.{Shape, end, holds, proper, front_of, back_of}

-- proper elements in rising order from page n on, no two with a page in common
abbrev pub rising : {E : Type 0} → Shape E → ℕ → List E → Bool
rising S n [] = true
rising S n (e ∷ es) = (proper S e && nat_le n (S.first e)) && rising S (end S e) es

-- what the table says of a page
abbrev pub said : {E : Type 0} → Shape E → ℕ → List E → Option E
said S p [] = None
said S p (e ∷ es) = cond (holds S p e) (Some (S.one p e)) (said S p es)

-- two elements have a page in common
abbrev pub meets : {E : Type 0} → Shape E → E → E → Bool
meets S a b = nat_lt (S.first a) (end S b) && nat_lt (S.first b) (end S a)

-- an element of the table has a page in common with e
abbrev pub taken : {E : Type 0} → Shape E → E → List E → Bool
taken S e xs = list_any (meets S e) xs

-- e at its place in a rising table
abbrev pub inserted : {E : Type 0} → Shape E → E → List E → List E
inserted S e [] = e ∷ []
inserted S e (x ∷ xs) = cond (nat_lt (S.first e) (S.first x)) (e ∷ (x ∷ xs)) (x ∷ inserted S e xs)

-- what is left of e below page p: all of it, its front part or nothing
abbrev pub before : {E : Type 0} → Shape E → ℕ → E → List E
before S p e = cond (nat_le (end S e) p) (e ∷ []) (cond (nat_lt (S.first e) p) (front_of S p e ∷ []) [])

-- what is left of e from page p on: all of it, its back part or nothing
abbrev pub since : {E : Type 0} → Shape E → ℕ → E → List E
since S p e = cond (nat_le p (S.first e)) (e ∷ []) (cond (nat_lt p (end S e)) (back_of S p e ∷ []) [])

-- what is left of e without the pages from f to before g
abbrev pub trimmed : {E : Type 0} → Shape E → ℕ → ℕ → E → List E
trimmed S f g e = before S f e ++ since S g e

-- the table without the pages from f to before g
abbrev pub removed : {E : Type 0} → Shape E → ℕ → ℕ → List E → List E
removed S f g es = flat_map (trimmed S f g) es

-- the table with a cut before page p: no element has pages on both sides
abbrev pub cut : {E : Type 0} → Shape E → ℕ → List E → List E
cut S p es = removed S p p es

-- e lies in the pages from f to before g
abbrev pub inside : {E : Type 0} → Shape E → ℕ → ℕ → E → Bool
inside S f g e = nat_le f (S.first e) && nat_le (end S e) g

-- the table cut before f and before g, with each element between them altered by h
abbrev pub altered : {E : Type 0} → Shape E → (E → E) → ℕ → ℕ → List E → List E
altered S h f g es = map (λ e. cond (inside S f g e) (h e) e) (cut S g (cut S f es))

-- each of the n pages from p on is said of
abbrev pub covered : {E : Type 0} → Shape E → ℕ → ℕ → List E → Bool
covered S p zero es = true
covered S p (suc n) es = is_some (said S p es) && covered S (suc p) n es
