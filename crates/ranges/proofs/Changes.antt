-- A table cut at both ends of a range and changed between them.
use Rattle.std.proofs.Common.{◌≡◌, ℕ, ◌+◌, ◌-◌, ◌<◌, ◌≤◌, Bool, true, false, cond, ◌⊎◌, List, [], ◌∷◌, ◌++◌, map, length, get_or, take, drop, set, Some, None, Option, sym, refl, ap, ◌∙◌, inl, inr, ⊎_elim, arith}
use Rattle.std.proofs.lemmas.List.{length-append, length-map, length-take-le, take_at}
use Rattle.std.proofs.lemmas.Grind.{flat_map-append}
use Rattle.std.proofs.lemmas.List.Edits.{map_over_more}
use Rattle.std.proofs.lemmas.Bool.{and_from, and_left, and_right, lt-ltb, le-ltb, le-leb, lt-leb, cond-true, cond-false, cases_lt}
use Rattle.std.specs.Option.{option_map}
use Rattle.ranges.specs.Shape.{Shape, Laws, Altering, end, front_of, back_of}
use Rattle.ranges.specs.Tables.{rising, said, trimmed, cut, inside, altered}
use Rattle.ranges.specs.Says.{full, among, Alters}
use Rattle.ranges.proofs.Facts.{Proper, used, Rising, rising_facts, rising_from, rising_lower, said_here, said_past}
use Rattle.ranges.proofs.Trims.{Trim, left, right, around, over_first, over_last, inside as within, trim, trimmed_left, trimmed_right, trimmed_around}
use Rattle.ranges.proofs.Edits.{cut_count, cut_rises}
use Rattle.ranges.proofs.Removals.{removed_rises, cut_says, front_end, back_end, front_proper, back_proper}

-- a loop that writes h x over each element x
module _ {E : Type 0} (h : E → E) (xs ys : List E) (i : ℕ) (l : i < length xs) (is : ys ≡ map h (take i xs) ++ drop i xs) where
  pub over_more : (x y : E) → x ≡ get_or ys i x → y ≡ h x → set ys i y ≡ map h (take (i + 1) xs) ++ drop (i + 1) xs
  over_more x y read to = ap (set ys i) to ∙ map_over_more h xs ys i x l is read

-- each element lies on one side of page p
abbrev pub Clear : {E : Type 0} → Shape E → ℕ → List E → Type 0
Clear S p [] = Unit {0}
Clear S p (e ∷ es) = ((end S e ≤ p) ⊎ (p ≤ S.first e)) × Clear S p es

module _ {E : Type 0} (S : Shape E) (L : Laws S) where
  cut_clear : (n p : ℕ) (es : List E) → Rising S n es → Clear S p (cut S p es)
  cut_clear n p [] up = tt
  cut_clear n p (e ∷ es) up = pieces p e (cut S p es) up.0 (cut_clear (end S e) p es up.2) (trim S p p e up.0 (omega arith))
    where
      pieces : (p : ℕ) (e : E) {ts : List E} (r : List E) → Proper S e → Clear S p r → Trim S p p e ts → Clear S p (ts ++ r)
      pieces p e r ok h (left a) = (inl a, h)
      pieces p e r ok h (right a) = (inr a, h)
      pieces p e r ok h (around a b) = (inl (omega (arith, front_end S L e p a b)), (inr (omega (arith, L.back_first e p a b)), h))
      pieces p e r ok h (over_first a b d) = absurd (omega arith)
      pieces p e r ok h (over_last a b d) = absurd (omega arith)
      pieces p e r ok h (within a b) = h

  -- a later cut leaves the earlier one
  cut_still : (n f g : ℕ) (es : List E) → f < g → Rising S n es → Clear S f es → Clear S f (cut S g es)
  cut_still n f g [] l up h = tt
  cut_still n f g (e ∷ es) l up h = pieces f g e (cut S g es) l h.0 (cut_still (end S e) f g es l up.2 h.1) (trim S g g e up.0 (omega arith))
    where
      pieces : (f g : ℕ) (e : E) {ts : List E} (r : List E) → f < g → (end S e ≤ f) ⊎ (f ≤ S.first e) → Clear S f r → Trim S g g e ts → Clear S f (ts ++ r)
      pieces f g e r l side h (left a) = (side, h)
      pieces f g e r l side h (right a) = (side, h)
      pieces f g e r l side h (around a b) =
          let low : f ≤ S.first e = ⊎_elim (λ k. absurd (omega arith)) (λ k. k) side in
          (inr (omega (arith, L.front_first e g a b)), (inr (omega (arith, L.back_first e g a b)), h))
      pieces f g e r l side h (over_first a b d) = absurd (omega arith)
      pieces f g e r l side h (over_last a b d) = absurd (omega arith)
      pieces f g e r l side h (within a b) = h

  -- how long two cuts make a table
  trimmed_one : (p : ℕ) (e : E) → Proper S e → (end S e ≤ p) ⊎ (p ≤ S.first e) → length (trimmed S p p e) ≡ 1
  trimmed_one p e ok side =
      ⊎_elim (λ h. ap length (trimmed_left S p p e ok (omega arith) h)) (λ h. ap length (trimmed_right S p p e ok (omega arith) h)) side

  trimmed_two : (p : ℕ) (e : E) → S.first e < p → p < end S e → length (trimmed S p p e) ≡ 2
  trimmed_two p e a b = ap length (trimmed_around S p p e (omega arith) a b)

  two_cuts_one : (f g : ℕ) (e : E) → f < g → Proper S e → length (cut S g (trimmed S f f e)) + 1 ≡ length (trimmed S f f e) + length (trimmed S g g e)
  two_cuts_one f g e l ok =
      elim (cases_lt (S.first e) f) [
        | inl a ↦ elim (cases_lt f (end S e)) [
          | inl b ↦ split a b
          | inr b ↦ whole (trimmed_left S f f e ok (omega arith) b)
        ]
        | inr a ↦ whole (trimmed_right S f f e ok (omega arith) a)
      ]
    where
      whole : trimmed S f f e ≡ e ∷ [] → length (cut S g (trimmed S f f e)) + 1 ≡ length (trimmed S f f e) + length (trimmed S g g e)
      whole is = rw is (omega (arith, length-append (trimmed S g g e) []))

      split : S.first e < f → f < end S e → length (cut S g (trimmed S f f e)) + 1 ≡ length (trimmed S f f e) + length (trimmed S g g e)
      split a b =
          let fr = front_of S f e in
          let bk = back_of S f e in
          let one = trimmed_one g fr (front_proper S L e f ok a b) (inl (omega (arith, front_end S L e f a b))) in
          let sum : length (cut S g (fr ∷ (bk ∷ []))) ≡ length (trimmed S g g fr) + length (trimmed S g g bk) = length-append (trimmed S g g fr) (trimmed S g g bk ++ []) ∙ omega (arith, length-append (trimmed S g g bk) []) in
          let same : length (trimmed S g g bk) ≡ length (trimmed S g g e) = elim (cases_lt g (end S e)) [
            | inl d ↦ trimmed_two g bk (omega (arith, L.back_first e f a b)) (omega (arith, back_end S L e f a b)) ∙ sym (trimmed_two g e (omega arith) d)
            | inr d ↦ trimmed_one g bk (back_proper S L e f ok a b) (inl (omega (arith, back_end S L e f a b))) ∙ sym (trimmed_one g e ok (inl d))
          ] in
          rw (trimmed_around S f f e (omega arith) a b) (omega arith)

  pub two_cuts : (n f g : ℕ) (es : List E) → f < g → Rising S n es → length (cut S g (cut S f es)) + length es ≡ length (cut S f es) + length (cut S g es)
  two_cuts n f g [] l up = refl
  two_cuts n f g (e ∷ es) l up =
      omega (
        arith,
        two_cuts (end S e) f g es l up.2,
        two_cuts_one f g e l up.0,
        ap length (flat_map-append (trimmed S g g) (trimmed S f f e) (cut S f es)),
        length-append (cut S g (trimmed S f f e)) (cut S g (cut S f es)),
        length-append (trimmed S f f e) (cut S f es),
        length-append (trimmed S g g e) (cut S g es),
      )

pub same_altered : {E : Type 0} (S : Shape E) (h : E → E) (f g f' g' : ℕ) (t : List E) → f' ≡ f → g' ≡ g → altered S h f' g' t ≡ altered S h f g t
same_altered S h f g f' g' t p q = ap (λ k. altered S h k g' t) p ∙ ap (λ k. altered S h f k t) q

-- the element, changed by h if it lies in the pages from f to before g
abbrev pub change_in : {E : Type 0} → Shape E → (E → E) → ℕ → ℕ → E → E
change_in S h f g e = cond (inside S f g e) (h e) e

module _ {E : Type 0} (S : Shape E) (h : E → E) (A : Altering S h) (f g : ℕ) (l : f < g) where
  first_same : (b : Bool) (e : E) → S.first (cond b (h e) e) ≡ S.first e
  first_same true e = A.same_first e
  first_same false e = refl

  end_same : (b : Bool) (e : E) → end S (cond b (h e) e) ≡ end S e
  end_same true e = omega (arith, A.same_first e, A.same_pages e)
  end_same false e = refl

  proper_same : (b : Bool) (e : E) → Proper S e → Proper S (cond b (h e) e)
  proper_same true e ok = record {
    some = omega (arith, A.same_pages e, ok.some);
    within = omega (arith, A.same_first e, A.same_pages e, ok.within);
    kept = A.same_fits e ∙ ok.kept;
  }
  proper_same false e ok = ok

  map_rises : (n : ℕ) (es : List E) → Rising S n es → Rising S n (map (change_in S h f g) es)
  map_rises n [] up = tt
  map_rises n (e ∷ es) up = (
    proper_same (inside S f g e) e up.0,
    omega (arith, first_same (inside S f g e) e, up.1),
    rising_lower S _ _ _ (omega (arith, end_same (inside S f g e) e)) (map_rises (end S e) es up.2),
  )

  abbrev changed_says : Option E → ℕ → Option E
  changed_says o p = cond (among f g p) (option_map h o) o

  nothing : (b : Bool) → ◌≡◌ {A = Option E} None (cond b (option_map h None) None)
  nothing true = refl
  nothing false = refl

  -- a page that e does not hold
  past : (p : ℕ) (e : E) (es : List E) → (p < S.first e) ⊎ (end S e ≤ p) → said S p (map (change_in S h f g) es) ≡ changed_says (said S p es) p → said S p (map (change_in S h f g) (e ∷ es)) ≡ changed_says (said S p (e ∷ es)) p
  past p e es out more =
      said_past S p _ _ (⊎_elim (λ k. inl (omega (arith, first_same (inside S f g e) e))) (λ k. inr (omega (arith, end_same (inside S f g e) e))) out)
      ∙ more
      ∙ ap (λ o. changed_says o p) (sym (said_past S p e es out))

  inside_yes : (e : E) → f ≤ S.first e → end S e ≤ g → change_in S h f g e ≡ h e
  inside_yes e a b = cond-true _ _ _ (and_from _ _ (le-leb _ _ a) (le-leb _ _ b))

  inside_below : (e : E) → S.first e < f → change_in S h f g e ≡ e
  inside_below e a = cond-false _ _ _ (and_left _ _ (lt-leb _ _ a))

  inside_above : (e : E) → g < end S e → change_in S h f g e ≡ e
  inside_above e a = cond-false _ _ _ (and_right _ _ (lt-leb _ _ a))

  among_yes : (p : ℕ) (o : Option E) → f ≤ p → p < g → changed_says o p ≡ option_map h o
  among_yes p o a b = cond-true _ _ _ (and_from _ _ (le-leb _ _ a) (lt-ltb _ _ b))

  among_below : (p : ℕ) (o : Option E) → p < f → changed_says o p ≡ o
  among_below p o a = cond-false _ _ _ (and_left _ _ (lt-leb _ _ a))

  among_above : (p : ℕ) (o : Option E) → g ≤ p → changed_says o p ≡ o
  among_above p o a = cond-false _ _ _ (and_right _ _ (le-ltb _ _ a))

  -- and one that it holds
  here : (p : ℕ) (e : E) (es : List E) → Proper S e → (end S e ≤ f) ⊎ (f ≤ S.first e) → (end S e ≤ g) ⊎ (g ≤ S.first e) → S.first e ≤ p → p < end S e → said S p (map (change_in S h f g) (e ∷ es)) ≡ changed_says (said S p (e ∷ es)) p
  here p e es ok at_f at_g from below =
      let o = said S p (e ∷ es) in
      let said_e : o ≡ Some (S.one p e) = said_here S p e es from below in
      let done : said S p (map (change_in S h f g) (e ∷ es)) ≡ Some (S.one p (change_in S h f g e)) = said_here S p (change_in S h f g e) (map (change_in S h f g) es) (omega (arith, first_same (inside S f g e) e)) (omega (arith, end_same (inside S f g e) e)) in
      done ∙ ⊎_elim
      (λ a. ap (λ x. Some (S.one p x)) (inside_below e (omega (arith, ok.some))) ∙ sym said_e ∙ sym (among_below p o (omega arith)))
      (λ a. ⊎_elim
      (λ b. ap (λ x. Some (S.one p x)) (inside_yes e a b) ∙ ap Some (A.page_by_page e p) ∙ ap (option_map h) (sym said_e) ∙ sym (among_yes p o (omega arith) (omega arith)))
      (λ b. ap (λ x. Some (S.one p x)) (inside_above e (omega (arith, ok.some))) ∙ sym said_e ∙ sym (among_above p o (omega arith)))
      at_g)
      at_f

  map_says : (n : ℕ) (es : List E) → Rising S n es → Clear S f es → Clear S g es → (p : ℕ) → said S p (map (change_in S h f g) es) ≡ changed_says (said S p es) p
  map_says n [] up at_f at_g p = nothing (among f g p)
  map_says n (e ∷ es) up at_f at_g p =
      let more = map_says (end S e) es up.2 at_f.1 at_g.1 p in
      elim (cases_lt p (S.first e)) [
        | inl a ↦ past p e es (inl a) more
        | inr a ↦ elim (cases_lt p (end S e)) [
          | inl b ↦ here p e es up.0 at_f.0 at_g.0 a b
          | inr b ↦ past p e es (inr b) more
        ]
      ]

  module _ (L : Laws S) (t ts : List E) (up : rising S 0 t ≡ true) (is : ts ≡ altered S h f g t) where
    once : Rising S 0 (cut S f t)
    once = removed_rises S L 0 f f t (rising_facts S 0 t up) (omega arith)

    twice : Rising S 0 (cut S g (cut S f t))
    twice = removed_rises S L 0 g g (cut S f t) once (omega arith)

    pub alter_rises : rising S 0 ts ≡ true
    alter_rises = ap (rising S 0) is ∙ rising_from S 0 _ (map_rises 0 _ twice)

    pub alter_says : Alters S h f g t ts
    alter_says p =
        ap (said S p) is
        ∙ map_says 0 _ twice (cut_still S L 0 f g (cut S f t) l once (cut_clear S L 0 f t (rising_facts S 0 t up))) (cut_clear S L 0 g (cut S f t) once) p
        ∙ ap (λ o. changed_says o p) (cut_says S L 0 g (cut S f t) once p ∙ cut_says S L 0 f t (rising_facts S 0 t up) p)

module _ {E : Type 0} (S : Shape E) (L : Laws S) (xs : List E) (len : ℕ) (inside_rows : len ≤ length xs) (up : rising S 0 (take len xs) ≡ true) (f g : ℕ) (l : f < g) (m n : ℕ) (at_f : length (cut S f (take (len - 0) xs)) ≡ length (take (len - 0) xs) + m) (at_g : length (cut S g (take (len - 0) xs)) ≡ length (take (len - 0) xs) + n) where
  -- how many rows the two cuts take
  pub both_cuts : length (cut S g (cut S f (take len xs))) ≡ len + m + n
  both_cuts =
      omega (
        arith,
        two_cuts S L 0 f g (take len xs) l (rising_facts S 0 (take len xs) up),
        cut_count S xs len inside_rows up f m at_f,
        cut_count S xs len inside_rows up g n at_g,
        length-take-le len xs inside_rows,
      )

  pub change_full : (h : E → E) (f' g' : ℕ) → f ≡ f' → g ≡ g' → length xs - len < m + n → full xs (altered S h f' g' (take len xs)) ≡ true
  change_full h f' g' p q over =
      lt-ltb _ _ (omega (arith, both_cuts, ap length (same_altered S h f' g' f g (take len xs) p q), length-map (cut S g (cut S f (take len xs))) (change_in S h f g)))

  module _ (ys : List E) (half : ℕ) (room : m + n ≤ length xs - len) (long : length ys ≡ length xs) (count : half ≡ length (cut S f (take len xs))) (is : take half ys ≡ cut S f (take len xs)) where
    pub half_within : half ≤ length ys
    half_within = omega (arith, cut_count S xs len inside_rows up f m at_f)

    pub half_rises : rising S 0 (take half ys) ≡ true
    half_rises = cut_rises S L (take len xs) (take half ys) up f is

    pub half_room : length (cut S g (take half ys)) ≤ length ys
    half_room = omega (arith, both_cuts, ap (λ t. length (cut S g t)) is)

    module _ (zs : List E) (all : ℕ) (long' : length zs ≡ length ys) (count' : all ≡ length (cut S g (take half ys))) (is' : take all zs ≡ cut S g (take half ys)) where
      pub all_within : all ≤ length zs
      all_within = omega (arith, half_room)

      pub all_is : take all zs ≡ cut S g (cut S f (take len xs))
      all_is = is' ∙ ap (cut S g) is

      pub all_rises : rising S 0 (take (all - 0) zs) ≡ true
      all_rises = ap (rising S 0) (used zs all) ∙ cut_rises S L (take half ys) (take all zs) half_rises g is'

      pub altered_is : (h : E → E) (f' g' : ℕ) (ws rest : List E) → f ≡ f' → g ≡ g' → length ws ≡ length (take (all - 0) zs) → ws ≡ map (change_in S h f g) (take (all - 0) zs) → take all (ws ++ rest) ≡ altered S h f' g' (take len xs)
      altered_is h f' g' ws rest p q size made =
          let low : length ws ≡ all = size ∙ ap length (used zs all) ∙ length-take-le all zs all_within in
          take_at ws rest all low
          ∙ made
          ∙ ap (map (change_in S h f g)) (used zs all ∙ all_is)
          ∙ same_altered S h f' g' f g (take len xs) p q
