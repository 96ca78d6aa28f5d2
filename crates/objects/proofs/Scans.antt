-- Our counts and lowest numbers in std's words, over the rows of a table.
use Rattle.std.proofs.Common.{◌≡◌, ℕ, zero, suc, ◌+◌, ◌<◌, ◌≤◌, Bool, true, false, not, cond, eqb, ltb, List, length, get_or, take, count_by, position, is_some, Some, None, Option, sym, refl, ap, ◌∙◌, inl, inr, arith}
use Rattle.std.specs.List.{position_or_len}
use Rattle.std.specs.Option.{option_eq}
use Rattle.std.proofs.lemmas.Bool.{cases_Bool, ltb-false}
use Rattle.std.proofs.lemmas.List.{take_all, length-take, get_or-take}
use Rattle.std.proofs.lemmas.List.Sums.{count_by_more_yes, count_by_more_no, fails_before_first}
use Rattle.std.proofs.lemmas.List.Quantifiers.{position-Some}
use Rattle.std.proofs.lemmas.Option.{none-some}
use Rattle.chains.specs.declared.Backing.{Backing}
use Rattle.chains.specs.declared.Backing.TheVariants.{Free, Root, Shadow}
use Rattle.chains.specs.contracts.BackingPartialEq.TheImpl as row_eq
use Rattle.chains.specs.Rows.{live, is_shadowing, is_naming, sum_to, bit, count}
use Rattle.chains.specs.Walks.{lowest}
use Rattle.chains.proofs.Finds.{lowest_is, lowest_not}
use Rattle.objects.specs.declared.tables.Tables.{Tables}
use Rattle.objects.specs.View.{records_used, frames_held}

-- the first row that passes
first_lowest : {A : Type 0} (d : A) (p : A → Bool) (q : ℕ → Bool) (xs : List A) → ((k : ℕ) → k < length xs → p (get_or xs k d) ≡ q k) → position p xs ≡ lowest (length xs) q
first_lowest d p q xs same = at (position p xs) refl
  where
    past : (b : Bool) → ltb (position_or_len p xs) (length xs) ≡ b → ◌≡◌ {A = Option ℕ} (cond b (Some (position_or_len p xs)) None) None → length xs ≤ position_or_len p xs
    past true e h = absurd (none-some _ (sym h))
    past false e h = ltb-false _ _ e

    at : (x : Option ℕ) → position p xs ≡ x → position p xs ≡ lowest (length xs) q
    at None e =
        let all = past (ltb (position_or_len p xs) (length xs)) refl e in
        e ∙ sym (lowest_not (length xs) q (λ k m. sym (same k m) ∙ fails_before_first p xs k d (omega arith)))
    at (Some i) e =
        let f = position-Some p xs i d e in
        e ∙ sym (lowest_is (length xs) q i f.0 (sym (same i f.0) ∙ f.1) (λ k m. sym (same k (omega (arith, f.0))) ∙ f.2 k m))

module _ {A : Type 0} (d : A) (p q : A → Bool) (same : (x : A) → p x ≡ q x) (xs : List A) (n : ℕ) (long : length xs ≡ n) where
  counted : (m : ℕ) → m ≤ length xs → count_by p (take m xs) ≡ count m (λ k. q (get_or xs k d))
  unfolding sum_to
  counted zero l = refl
  counted (suc m) l =
      let e : suc m ≡ m + 1 = omega arith in
      let one = ap (λ i. count_by p (take i xs)) e in
      elim (cases_Bool (p (get_or xs m d))) [
        | inl t ↦ omega (arith, one, count_by_more_yes p xs m d (omega arith) t, counted m (omega arith), ap bit (sym (same (get_or xs m d)) ∙ t))
        | inr f ↦ omega (arith, one, count_by_more_no p xs m d (omega arith) f, counted m (omega arith), ap bit (sym (same (get_or xs m d)) ∙ f))
      ]

  -- how many rows pass
  pub count_is : count_by p xs ≡ count n (λ k. q (get_or xs k d))
  count_is = ap (count_by p) (sym (take_all n xs (omega arith))) ∙ counted n (omega arith)

  -- the lowest row that passes
  pub found : (r : Option ℕ) → r ≡ position p xs → r ≡ lowest n (λ k. q (get_or xs k d))
  found r h = h ∙ first_lowest d p (λ k. q (get_or xs k d)) xs (λ k m. same (get_or xs k d)) ∙ ap (λ i. lowest i (λ k. q (get_or xs k d))) long

  -- among the first m
  pub found_within : (m : ℕ) → m ≤ n → (r : Option ℕ) → r ≡ position p (take m xs) → r ≡ lowest m (λ k. q (get_or xs k d))
  found_within m few r h =
      let e : length (take m xs) ≡ m = omega (arith, length-take m xs, long) in
      h ∙ first_lowest d p (λ k. q (get_or xs k d)) (take m xs) (λ k l. ap p (get_or-take m xs k d (omega (arith, e))) ∙ same (get_or xs k d))
      ∙ ap (λ i. lowest i (λ k. q (get_or xs k d))) e

-- how many records are in use, and how many frames are held
pub records_counted : (t : Tables) → length t.records ≡ 256 → count_by is_some t.records ≡ records_used t
records_counted t long = count_is None is_some is_some (λ x. refl) t.records 256 long

pub frames_counted : (t : Tables) → length t.frames ≡ 128 → count_by is_some t.frames ≡ frames_held t
frames_counted t long = count_is None is_some is_some (λ x. refl) t.frames 128 long

-- what `==` says of rows and tops
abbrev pub same_row : Backing → Backing → Bool
same_row = (row_eq.ghosts).eq

pub is_free : (b : Backing) → same_row b Free ≡ not (live b)
is_free Free = refl
is_free (Root g) = refl
is_free (Shadow p) = refl

pub is_shadow : (o : ℕ) (b : Backing) → same_row b (Shadow o) ≡ is_shadowing o b
is_shadow o Free = refl
is_shadow o (Root g) = refl
is_shadow o (Shadow p) = refl

pub is_unused : {A : Type 0} (same : A → A → Bool) (x : Option A) → option_eq same x None ≡ not (is_some x)
is_unused same None = refl
is_unused same (Some a) = refl

pub is_top : (o : ℕ) (x : Option ℕ) → option_eq eqb x (Some o) ≡ is_naming o x
is_top o None = refl
is_top o (Some p) = refl
