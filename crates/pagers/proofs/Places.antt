-- The extents that a table holds, and those that were put into it.
use Rattle.std.proofs.Common.{◌≡◌, ℕ, ◌+◌, ◌<◌, Bool, true, false, cond, not, ◌&&◌, ◌||◌, ltb, List, [], ◌∷◌, Some, None, Option, sym, refl, ap, ◌∙◌, inl, inr, ⊎_elim, arith}
use Rattle.std.proofs.lemmas.Bool.{or_parts, lt-ltb, and_from, cond-true, cases_Bool, both_ways}
use Rattle.std.specs.Option.{option_map, option_or}
use Rattle.std.proofs.Math.Bool.{or_assoc, or_comm}
use Rattle.ranges.specs.Tables.{said, taken, inserted}
use Rattle.ranges.specs.Says.{Inserts}
use Rattle.ranges.proofs.Facts.{holds_facts}
use Rattle.pagers.specs.declared.extent.Extent.{Extent}
use Rattle.pagers.specs.Extents.{extent_shape, position_of}
use Rattle.pagers.specs.Images.{has, overlap, crosses, place, within, sound}

abbrev pub position : Extent → ℕ
position e = e.position

-- a page's place is where its extent of one page lies
pub place_said : (p : ℕ) (es : List Extent) → place p es ≡ option_map position (said extent_shape p es)
place_said p [] = refl
place_said p (e ∷ es) =
    elim (has p e) as (λ b. cond b (Some (position_of p e)) (place p es) ≡ option_map position (cond b (Some (extent_shape.one p e)) (said extent_shape p es))) [
      | true ↦ refl
      | false ↦ place_said p es
    ]

pub taken_crosses : (e : Extent) (es : List Extent) → taken extent_shape e es ≡ crosses e es
taken_crosses e [] = refl
taken_crosses e (x ∷ xs) = ap (λ b. overlap e x || b) (taken_crosses e xs)

or_swap : (a b c : Bool) → (a || (b || c)) ≡ (b || (a || c))
or_swap a b c = sym (or_assoc a b c) ∙ ap (λ x. x || c) (or_comm a b) ∙ or_assoc b a c

pub crosses_inserted : (x e : Extent) (es : List Extent) → crosses x (inserted extent_shape e es) ≡ crosses x (e ∷ es)
crosses_inserted x e [] = refl
crosses_inserted x e (y ∷ ys) =
    elim (ltb e.first y.first) as (λ b. crosses x (cond b (e ∷ (y ∷ ys)) (y ∷ inserted extent_shape e ys)) ≡ crosses x (e ∷ (y ∷ ys))) [
      | true ↦ refl
      | false ↦ ap (λ b. overlap x y || b) (crosses_inserted x e ys) ∙ or_swap (overlap x y) (overlap x e) (crosses x ys)
    ]

overlaps : (p : ℕ) (a b : Extent) → has p a ≡ true → has p b ≡ true → overlap a b ≡ true
overlaps p a b in_a in_b =
    let f = holds_facts extent_shape p a in_a in
    let g = holds_facts extent_shape p b in_b in
    let below : a.first < b.first + b.pages = omega arith in
    let above : b.first < a.first + a.pages = omega arith in
    and_from _ _ (lt-ltb _ _ below) (lt-ltb _ _ above)

-- a page of an extent that crosses none of the others is in none of them
pub apart_place : (p : ℕ) (e : Extent) (es : List Extent) → has p e ≡ true → crosses e es ≡ false → place p es ≡ None
apart_place p e [] here free = refl
apart_place p e (x ∷ xs) here free =
    let parts = or_parts _ _ free in
    elim (cases_Bool (has p x)) [
      | inl yes' ↦ absurd (both_ways _ parts.0 (overlaps p e x here yes'))
      | inr no' ↦ ap (λ b. cond b (Some (position_of p x)) (place p xs)) no' ∙ apart_place p e xs here parts.1
    ]

pub all_places : (a b : Option ℕ) → b ≡ None → option_or a b ≡ a
all_places None b e = e
all_places (Some k) b e = refl

-- an extent taken off the list and put into the table
pub moved_place : (p : ℕ) (e : Extent) (old new es : List Extent) → crosses e old ≡ false → Inserts extent_shape e old new → option_or (place p old) (place p (e ∷ es)) ≡ option_or (place p new) (place p es)
moved_place p e old new es free says =
    let is : place p new ≡ cond (has p e) (Some (position_of p e)) (place p old) =
    place_said p new ∙ ap (option_map position) (says p) ∙ sym (place_said p (e ∷ old)) in
    ⊎_elim
    (λ (here : has p e ≡ true).
    ap (λ a. option_or a (place p (e ∷ es))) (apart_place p e old here free)
    ∙ cond-true _ _ _ here
    ∙ sym (ap (λ a. option_or a (place p es)) (is ∙ cond-true _ _ _ here)))
    (λ (away : has p e ≡ false).
    ap (λ b. option_or (place p old) (cond b (Some (position_of p e)) (place p es))) away
    ∙ sym (ap (λ a. option_or a (place p es)) (is ∙ ap (λ b. cond b (Some (position_of p e)) (place p old)) away)))
    (cases_Bool (has p e))

-- soundness asks of the extents before only which they cross
pub sound_same : (n : ℕ) (xs ys es : List Extent) → ((x : Extent) → crosses x xs ≡ crosses x ys) → sound n xs es ≡ sound n ys es
sound_same n xs ys [] same = refl
sound_same n xs ys (e ∷ es) same =
    ap (λ b. (within n e && not b) && sound n (e ∷ xs) es) (same e)
    ∙ ap (λ b. (within n e && not (crosses e ys)) && b) (sound_same n (e ∷ xs) (e ∷ ys) es (λ x. ap (λ b. overlap x e || b) (same x)))

pub moved_sound : (n : ℕ) (e : Extent) (old new es : List Extent) → (within n e && not (crosses e old)) ≡ true → new ≡ inserted extent_shape e old → sound n old (e ∷ es) ≡ sound n new es
moved_sound n e old new es ok is =
    ap (λ b. b && sound n (e ∷ old) es) ok
    ∙ sound_same n (e ∷ old) new es (λ x. sym (ap (crosses x) is ∙ crosses_inserted x e old))
