-- The lowest number that passes a test, and the frame of an owner.
use Rattle.std.proofs.Common.{◌≡◌, ℕ, zero, suc, ◌<◌, ◌≤◌, Bool, true, false, cond, eqb, Some, None, Option, sym, refl, ap, ◌∙◌, inl, inr, arith}
use Rattle.std.proofs.lemmas.Bool.{cases_eq, cases_lt, cases_Bool, eqb-true, eq-eqb, and_parts, and_from, both_ways}
use Rattle.std.proofs.lemmas.Option.{none-some}
use Rattle.chains.specs.declared.Owner.{Owner}
use Rattle.chains.specs.Rows.{own, is_owned_by}
use Rattle.chains.specs.Walks.{lowest, slot_of, Bare}
use Rattle.chains.specs.Sound.{Apart}

-- what the search finds
pub lowest_none : (n : ℕ) (p : ℕ → Bool) → lowest n p ≡ None → (k : ℕ) → k < n → p k ≡ false
unfolding lowest
lowest_none zero p h k l = absurd (omega arith)
lowest_none (suc n) p h k l = at (lowest n p) (p n) h refl refl (lowest_none n p)
  where
    at : (x : Option ℕ) (b : Bool) → ◌≡◌ {A = Option ℕ} (elim x [ Some k ↦ Some k | None ↦ cond b (Some n) None ]) None → lowest n p ≡ x → p n ≡ b → (lowest n p ≡ None → (k : ℕ) → k < n → p k ≡ false) → p k ≡ false
    at (Some j) b e q r ih = absurd (none-some _ (sym e))
    at None true e q r ih = absurd (none-some _ (sym e))
    at None false e q r ih = elim (cases_eq k n) [ inl d ↦ ap p d ∙ r | inr d ↦ ih q k (omega arith) ]

pub lowest_some : (n : ℕ) (p : ℕ → Bool) (k : ℕ) → lowest n p ≡ Some k → (k < n) × (p k ≡ true) × ((j : ℕ) → j < k → p j ≡ false)
unfolding lowest
lowest_some zero p k h = absurd (none-some k h)
lowest_some (suc n) p k h = at (lowest n p) (p n) h refl refl (lowest_some n p)
  where
    at : (x : Option ℕ) (b : Bool) → ◌≡◌ {A = Option ℕ} (elim x [ Some k ↦ Some k | None ↦ cond b (Some n) None ]) (Some k) → lowest n p ≡ x → p n ≡ b → ((k : ℕ) → lowest n p ≡ Some k → (k < n) × (p k ≡ true) × ((j : ℕ) → j < k → p j ≡ false)) → (k < suc n) × (p k ≡ true) × ((j : ℕ) → j < k → p j ≡ false)
    at (Some j) b e q r ih = let a = ih k (q ∙ e) in (omega (arith, a.0), a.1, a.2)
    at None true e q r ih =
        let d : n ≡ k = cc in
        (omega arith, ap p (sym d) ∙ r, λ j l. lowest_none n p q j (omega arith))
    at None false e q r ih = absurd (none-some _ e)

pub lowest_is : (n : ℕ) (p : ℕ → Bool) (k : ℕ) → k < n → p k ≡ true → ((j : ℕ) → j < k → p j ≡ false) → lowest n p ≡ Some k
lowest_is n p k l h b = at (lowest n p) refl
  where
    at : (x : Option ℕ) → lowest n p ≡ x → lowest n p ≡ Some k
    at None e = absurd (both_ways (p k) (lowest_none n p e k l) h)
    at (Some j) e =
        let f = lowest_some n p j e in
        elim (cases_lt j k) [
          | inl d ↦ absurd (both_ways (p j) (b j d) f.1)
          | inr d ↦ elim (cases_eq j k) [ inl q ↦ e ∙ ap Some q | inr q ↦ absurd (both_ways (p k) (f.2 k (omega arith)) h) ]
        ]

pub lowest_not : (n : ℕ) (p : ℕ → Bool) → ((k : ℕ) → k < n → p k ≡ false) → lowest n p ≡ None
lowest_not n p b = at (lowest n p) refl
  where
    at : (x : Option ℕ) → lowest n p ≡ x → lowest n p ≡ None
    at None e = e
    at (Some j) e = let f = lowest_some n p j e in absurd (both_ways (p j) (b j f.0) f.1)

-- owners
pub owned_true : (o i : ℕ) (x : Option Owner) → is_owned_by o i x ≡ true → x ≡ Some (own o i)
owned_true o i None h = absurd (both_ways false refl h)
owned_true o i (Some w) h =
    let a = and_parts (eqb w.object o) (eqb w.index i) h in
    let p : w.object ≡ o = eqb-true _ _ a.0 in
    let q : w.index ≡ i = eqb-true _ _ a.1 in
    ap (λ x. Some (own x w.index)) p ∙ ap (λ y. Some (own o y)) q

pub owned_is : (o i : ℕ) (x : Option Owner) → x ≡ Some (own o i) → is_owned_by o i x ≡ true
owned_is o i x h = ap (is_owned_by o i) h ∙ and_from (eqb o o) (eqb i i) (eq-eqb o o refl) (eq-eqb i i refl)

module _ (F : ℕ) (W : ℕ → Option Owner) where
  pub slot_some : (o i s : ℕ) → slot_of F W o i ≡ Some s → W s ≡ Some (own o i)
  slot_some o i s h = owned_true o i (W s) (lowest_some F _ s h).1

  pub bare_none : (o i : ℕ) → Bare W o i → slot_of F W o i ≡ None
  bare_none o i h = lowest_not F _ (λ k l. elim (cases_Bool (is_owned_by o i (W k))) [ inl t ↦ absurd (h k (owned_true o i (W k) t)) | inr f ↦ f ])

  module _ (few : (s : ℕ) → F ≤ s → W s ≡ None) where
    pub held_below : (s : ℕ) (w : Owner) → W s ≡ Some w → s < F
    held_below s w h = elim (cases_lt s F) [ inl l ↦ l | inr g ↦ absurd (none-some w (sym (few s g) ∙ h)) ]

    pub none_bare : (o i : ℕ) → slot_of F W o i ≡ None → Bare W o i
    none_bare o i h s e = both_ways (is_owned_by o i (W s)) (lowest_none F _ h s (held_below s (own o i) e)) (owned_is o i (W s) e)

    pub slot_is : Apart W → (o i s : ℕ) → W s ≡ Some (own o i) → slot_of F W o i ≡ Some s
    slot_is apart o i s h = at (slot_of F W o i) refl
      where
        at : (x : Option ℕ) → slot_of F W o i ≡ x → slot_of F W o i ≡ Some s
        at None e = absurd (none_bare o i e s h)
        at (Some t) e = e ∙ ap Some (apart t s (own o i) (slot_some o i t e) h)
