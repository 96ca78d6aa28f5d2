-- Members of lists, and lists without repetition.
use Rattle.std.proofs.Common.{◌≡◌, ℕ, suc, ◌≤◌, Bool, true, false, cond, eqb, ◌⊎◌, List, [], ◌∷◌, ◌++◌, map, length, sym, refl, ap, ◌∙◌, subst, inl, inr, arith}
use Rattle.std.specs.List.{flat_map}
use Rattle.std.proofs.lemmas.Bool.{both_ways, eq-eqb, eqb-true, eqb-false, or_cases, or_left, or_right}
use Rattle.machine.specs.State.{member, distinct}

-- x is in the list, by cases on it: std's `Contains` is by index, and std has no lemma on it for `map` and `flat_map`, as these are
abbrev pub Among : {A : Type 0} → A → List A → Type 0
Among x [] = ⊥
Among x (y ∷ ys) = (x ≡ y) ⊎ Among x ys

pub among_left : {A : Type 0} (x : A) (xs ys : List A) → Among x xs → Among x (xs ++ ys)
among_left x [] ys h = absurd h
among_left x (y ∷ xs) ys (inl e) = inl e
among_left x (y ∷ xs) ys (inr h) = inr (among_left x xs ys h)

pub among_right : {A : Type 0} (x : A) (xs ys : List A) → Among x ys → Among x (xs ++ ys)
among_right x [] ys h = h
among_right x (y ∷ xs) ys h = inr (among_right x xs ys h)

pub among_either : {A : Type 0} (x : A) (xs ys : List A) → Among x (xs ++ ys) → Among x xs ⊎ Among x ys
among_either x [] ys h = inr h
among_either x (y ∷ xs) ys (inl e) = inl (inl e)
among_either x (y ∷ xs) ys (inr h) = elim (among_either x xs ys h) [ inl a ↦ inl (inr a) | inr b ↦ inr b ]

pub among_joined : {A B : Type 0} (f : A → List B) (x : A) (y : B) (xs : List A) → Among x xs → Among y (f x) → Among y (flat_map f xs)
among_joined f x y [] h k = absurd h
among_joined f x y (z ∷ xs) (inl e) k = among_left y (f z) (flat_map f xs) (subst (λ a. Among y (f a)) e k)
among_joined f x y (z ∷ xs) (inr h) k = among_right y (f z) (flat_map f xs) (among_joined f x y xs h k)

pub among_part : {A B : Type 0} (f : A → List B) (y : B) (xs : List A) → Among y (flat_map f xs) → (x : A) × Among x xs × Among y (f x)
among_part f y [] h = absurd h
among_part f y (z ∷ xs) h =
    elim (among_either y (f z) (flat_map f xs) h) [
      | inl a ↦ (z, inl refl, a)
      | inr b ↦ let r = among_part f y xs b in (r.0, inr r.1, r.2)
    ]

pub among_map : {A B : Type 0} (f : A → B) (x : A) (xs : List A) → Among x xs → Among (f x) (map f xs)
among_map f x [] h = absurd h
among_map f x (z ∷ xs) (inl e) = inl (ap f e)
among_map f x (z ∷ xs) (inr h) = inr (among_map f x xs h)

pub among_unmap : {A B : Type 0} (f : A → B) (y : B) (xs : List A) → Among y (map f xs) → (x : A) × Among x xs × (y ≡ f x)
among_unmap f y [] h = absurd h
among_unmap f y (z ∷ xs) (inl e) = (z, inl refl, e)
among_unmap f y (z ∷ xs) (inr h) = let r = among_unmap f y xs h in (r.0, inr r.1, r.2)

-- the test for members tells them
pub among_member : (x : ℕ) (xs : List ℕ) → Among x xs → member x xs ≡ true
unfolding member
among_member x [] h = absurd h
among_member x (y ∷ ys) (inl e) = or_left _ _ (eq-eqb x y e)
among_member x (y ∷ ys) (inr h) = or_right (eqb x y) _ (among_member x ys h)

pub member_among : (x : ℕ) (xs : List ℕ) → member x xs ≡ true → Among x xs
unfolding member
member_among x [] h = absurd (both_ways false refl h)
member_among x (y ∷ ys) h = elim (or_cases (eqb x y) (member x ys) h) [ inl e ↦ inl (eqb-true x y e) | inr k ↦ inr (member_among x ys k) ]

-- no number is in the list twice
abbrev pub Once : List ℕ → Type 0
Once [] = Unit {0}
Once (x ∷ xs) = (Among x xs → ⊥) × Once xs

-- the different numbers of a list are its numbers, each once
pub distinct_among : (x : ℕ) (xs : List ℕ) → Among x xs → Among x (distinct xs)
unfolding distinct
distinct_among x [] h = absurd h
distinct_among x (y ∷ ys) h = go (distinct_among x ys) (member y ys) refl h
  where
    go : (Among x ys → Among x (distinct ys)) → (b : Bool) → member y ys ≡ b → Among x (y ∷ ys) → Among x (cond b (distinct ys) (y ∷ distinct ys))
    go on true e (inl q) = on (subst (λ a. Among a ys) (sym q) (member_among y ys e))
    go on true e (inr k) = on k
    go on false e (inl q) = inl q
    go on false e (inr k) = inr (on k)

pub among_distinct : (x : ℕ) (xs : List ℕ) → Among x (distinct xs) → Among x xs
unfolding distinct
among_distinct x [] h = absurd h
among_distinct x (y ∷ ys) h = go (among_distinct x ys) (member y ys) h
  where
    go : (Among x (distinct ys) → Among x ys) → (b : Bool) → Among x (cond b (distinct ys) (y ∷ distinct ys)) → Among x (y ∷ ys)
    go on true k = inr (on k)
    go on false (inl q) = inl q
    go on false (inr k) = inr (on k)

pub distinct_once : (xs : List ℕ) → Once (distinct xs)
unfolding distinct
distinct_once [] = tt
distinct_once (y ∷ ys) = go (distinct_once ys) (member y ys) refl
  where
    go : Once (distinct ys) → (b : Bool) → member y ys ≡ b → Once (cond b (distinct ys) (y ∷ distinct ys))
    go on true e = on
    go on false e = (λ k. both_ways (member y ys) e (among_member y ys (among_distinct y ys k)), on)

-- the list without one x
without : ℕ → List ℕ → List ℕ
without x [] = []
without x (y ∷ ys) = cond (eqb x y) ys (y ∷ without x ys)

without_length : (x : ℕ) (ys : List ℕ) → Among x ys → suc (length (without x ys)) ≡ length ys
unfolding without
without_length x [] h = absurd h
without_length x (y ∷ ys) h = go (without_length x ys) (eqb x y) refl h
  where
    go : (Among x ys → suc (length (without x ys)) ≡ length ys) → (b : Bool) → eqb x y ≡ b → Among x (y ∷ ys) → suc (length (cond b ys (y ∷ without x ys))) ≡ length (y ∷ ys)
    go on true e h = refl
    go on false e (inl q) = absurd (eqb-false x y e q)
    go on false e (inr k) = ap suc (on k)

without_among : (x z : ℕ) (ys : List ℕ) → (z ≡ x → ⊥) → Among z ys → Among z (without x ys)
unfolding without
without_among x z [] ne h = absurd h
without_among x z (y ∷ ys) ne h = go (without_among x z ys ne) (eqb x y) refl h
  where
    go : (Among z ys → Among z (without x ys)) → (b : Bool) → eqb x y ≡ b → Among z (y ∷ ys) → Among z (cond b ys (y ∷ without x ys))
    go on true e (inl q) = absurd (ne (q ∙ sym (eqb-true x y e)))
    go on true e (inr k) = k
    go on false e (inl q) = inl q
    go on false e (inr k) = inr (on k)

-- a list without repetition is no longer than one that has its numbers
pub once_le : (xs ys : List ℕ) → Once xs → ((x : ℕ) → Among x xs → Among x ys) → length xs ≤ length ys
once_le [] ys o h = omega arith
once_le (x ∷ xs) ys o h =
    let rest : length xs ≤ length (without x ys) = once_le xs (without x ys) o.1 (λ z k. without_among x z ys (λ q. o.0 (subst (λ a. Among a xs) q k)) (h z (inr k))) in
    let one : suc (length (without x ys)) ≡ length ys = without_length x ys (h x (inl refl)) in
    omega arith
