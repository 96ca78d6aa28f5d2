-- Chains and walks: each object has one, and the functions by fuel give them.
use Rattle.std.proofs.Common.{◌≡◌, ℕ, zero, suc, ◌+◌, ◌<◌, ◌≤◌, Bool, true, false, Some, None, Option, sym, refl, ap, ◌∙◌, subst, inl, inr, arith}
use Rattle.std.proofs.lemmas.Bool.{both_ways, cases_lt}
use Rattle.chains.specs.declared.Origin.{Origin}
use Rattle.chains.specs.declared.Backing.{Backing}
use Rattle.chains.specs.declared.Backing.TheVariants.{Free, Root, Shadow}
use Rattle.chains.specs.declared.Owner.{Owner}
use Rattle.chains.specs.declared.End.{End}
use Rattle.chains.specs.declared.End.TheVariants.{Frame}
use Rattle.chains.specs.Rows.{live, source}
use Rattle.chains.specs.Walks.{Chain, root, on, Walks, at_frame, at_root, below, slot_of, ends_within, end_within, length_within}
use Rattle.chains.specs.Sound.{Apart}
use Rattle.chains.proofs.Finds.{slot_some, bare_none, none_bare, slot_is}

pub root_shadow : {g : Origin} {p : ℕ} (b : Backing) → b ≡ Root g → b ≡ Shadow p → ⊥
root_shadow b h k = cc

pub free_live : (b : Backing) → b ≡ Free → live b ≡ true → ⊥
free_live b h k = both_ways (live b) (ap live h) k

-- a live row lies within the table
pub live_below : (N : ℕ) (B : ℕ → Backing) → ((o : ℕ) → N ≤ o → B o ≡ Free) → (o : ℕ) → live (B o) ≡ true → o < N
live_below N B few o h = elim (cases_lt o N) [ inl l ↦ l | inr g ↦ absurd (free_live (B o) (few o g) h) ]

pub chain_live : {B : ℕ → Backing} {o n : ℕ} → Chain B o n → live (B o) ≡ true
chain_live (root h) = ap live h
chain_live (on h c) = ap live h

pub chain_next : {B : ℕ → Backing} {o n p : ℕ} → Chain B o n → B o ≡ Shadow p → (m : ℕ) × Chain B p m × (n ≡ suc m)
chain_next (root h) e = absurd (root_shadow _ h e)
chain_next {B} {p = p} (on {p = q} {n = m} h c) e = let d : q ≡ p = cc in (m, subst (λ x. Chain B x m) d c, refl)

pub chain_same : {B : ℕ → Backing} {o n m : ℕ} → Chain B o n → Chain B o m → n ≡ m
chain_same (root h) (root k) = refl
chain_same (root h) (on k c) = absurd (root_shadow _ h k)
chain_same (on h c) d = let x = chain_next d h in ap suc (chain_same c x.1) ∙ sym x.2

-- no object shadows itself
pub not_itself : {B : ℕ → Backing} {o n : ℕ} → Chain B o n → B o ≡ Shadow o → ⊥
not_itself c h = let x = chain_next c h in omega (arith, chain_same c x.1, x.2)

pub chain_ends : {B : ℕ → Backing} {o n : ℕ} (k : ℕ) → Chain B o n → n ≤ k → ends_within k B o ≡ true
unfolding ends_within
chain_ends zero (root h) l = absurd (omega arith)
chain_ends {B} (suc k) (root h) l = ap (λ b. elim b [ Free ↦ false | Root g ↦ true | Shadow p ↦ ends_within k B p ]) h
chain_ends zero (on h c) l = absurd (omega arith)
chain_ends {B} (suc k) (on h c) l = ap (λ b. elim b [ Free ↦ false | Root g ↦ true | Shadow p ↦ ends_within k B p ]) h ∙ chain_ends k c (omega arith)

pub ends_chain : (B : ℕ → Backing) (k o : ℕ) → ends_within k B o ≡ true → (n : ℕ) × Chain B o n
unfolding ends_within
ends_chain B zero o h = absurd (both_ways false refl h)
ends_chain B (suc k) o h = at (B o) refl h (ends_chain B k)
  where
    at : (b : Backing) → B o ≡ b → ◌≡◌ {A = Bool} (elim b [ Free ↦ false | Root g ↦ true | Shadow p ↦ ends_within k B p ]) true → ((p : ℕ) → ends_within k B p ≡ true → (n : ℕ) × Chain B p n) → (n : ℕ) × Chain B o n
    at Free e t ih = absurd (both_ways false refl t)
    at (Root g) e t ih = (1, root e)
    at (Shadow p) e t ih = let x = ih p t in (suc x.0, on e x.1)

-- a walk is no longer than the chain
pub walk_le : {B : ℕ → Backing} {W : ℕ → Option Owner} {i o n m : ℕ} {e : End} → Walks B W i o e n → Chain B o m → n ≤ m
walk_le (at_frame h) (root k) = omega arith
walk_le (at_frame h) (on k c) = omega arith
walk_le (at_root h k) (root c) = omega arith
walk_le (at_root h k) (on e c) = omega arith
walk_le (below b h w) c = let x = chain_next c h in omega (arith, walk_le w x.1, x.2)

module _ (F : ℕ) (B : ℕ → Backing) (W : ℕ → Option Owner) (few : (s : ℕ) → F ≤ s → W s ≡ None) where
  -- each index has a walk
  pub walk_total : (i : ℕ) {o m : ℕ} → Chain B o m → (e : End) × (n : ℕ) × Walks B W i o e n
  walk_total i {o} (root {g = g} h) = at (slot_of F W o i) refl
    where
      at : (x : Option ℕ) → slot_of F W o i ≡ x → (e : End) × (n : ℕ) × Walks B W i o e n
      at (Some s) e = (Frame s, 1, at_frame (slot_some F W o i s e))
      at None e = (source g i, 1, at_root (none_bare F W few o i e) h)
  walk_total i {o} (on {p = p} h c) = at (slot_of F W o i) refl (walk_total i c)
    where
      at : (x : Option ℕ) → slot_of F W o i ≡ x → (e : End) × (n : ℕ) × Walks B W i p e n → (e : End) × (n : ℕ) × Walks B W i o e n
      at (Some s) e r = (Frame s, 1, at_frame (slot_some F W o i s e))
      at None e r = (r.0, suc r.1, below (none_bare F W few o i e) h r.2)

  -- the functions give it, with enough fuel
  module _ (apart : Apart W) where
    pub walk_end_is : {i o n : ℕ} {e : End} (k : ℕ) → Walks B W i o e n → n ≤ k → end_within k F B W o i ≡ Some e
    unfolding end_within
    walk_end_is zero (at_frame h) l = absurd (omega arith)
    walk_end_is {i} {o} (suc k) (at_frame {s = s} h) l =
        ap (λ x. elim x [ Some s ↦ Some (Frame s) | None ↦ elim (B o) [ Free ↦ None | Root g ↦ Some (source g i) | Shadow p ↦ end_within k F B W p i ] ]) (slot_is F W few apart o i s h)
    walk_end_is zero (at_root b h) l = absurd (omega arith)
    walk_end_is {i} {o} (suc k) (at_root b h) l =
        ap (λ x. elim x [ Some s ↦ Some (Frame s) | None ↦ elim (B o) [ Free ↦ None | Root g ↦ Some (source g i) | Shadow p ↦ end_within k F B W p i ] ]) (bare_none F W o i b)
        ∙ ap (λ x. elim x [ Free ↦ None | Root g ↦ Some (source g i) | Shadow p ↦ end_within k F B W p i ]) h
    walk_end_is zero (below b h w) l = absurd (omega arith)
    walk_end_is {i} {o} (suc k) (below b h w) l =
        ap (λ x. elim x [ Some s ↦ Some (Frame s) | None ↦ elim (B o) [ Free ↦ None | Root g ↦ Some (source g i) | Shadow p ↦ end_within k F B W p i ] ]) (bare_none F W o i b)
        ∙ ap (λ x. elim x [ Free ↦ None | Root g ↦ Some (source g i) | Shadow p ↦ end_within k F B W p i ]) h
        ∙ walk_end_is k w (omega arith)

    pub walk_length_is : {i o n : ℕ} {e : End} (k : ℕ) → Walks B W i o e n → n ≤ k → length_within k F B W o i ≡ n
    unfolding length_within
    walk_length_is zero (at_frame h) l = absurd (omega arith)
    walk_length_is {i} {o} (suc k) (at_frame {s = s} h) l =
        ap (λ x. elim x [ Some s ↦ 1 | None ↦ elim (B o) [ Free ↦ 0 | Root g ↦ 1 | Shadow p ↦ length_within k F B W p i + 1 ] ]) (slot_is F W few apart o i s h)
    walk_length_is zero (at_root b h) l = absurd (omega arith)
    walk_length_is {i} {o} (suc k) (at_root b h) l =
        ap (λ x. elim x [ Some s ↦ 1 | None ↦ elim (B o) [ Free ↦ 0 | Root g ↦ 1 | Shadow p ↦ length_within k F B W p i + 1 ] ]) (bare_none F W o i b)
        ∙ ap (λ x. elim x [ Free ↦ 0 | Root g ↦ 1 | Shadow p ↦ length_within k F B W p i + 1 ]) h
    walk_length_is zero (below b h w) l = absurd (omega arith)
    walk_length_is {i} {o} (suc k) (below {p = q} b h w) l =
        ap (λ x. elim x [ Some s ↦ 1 | None ↦ elim (B o) [ Free ↦ 0 | Root g ↦ 1 | Shadow p ↦ length_within k F B W p i + 1 ] ]) (bare_none F W o i b)
        ∙ ap (λ x. elim x [ Free ↦ 0 | Root g ↦ 1 | Shadow p ↦ length_within k F B W p i + 1 ]) h
        ∙ omega (arith, walk_length_is k w (omega arith))
