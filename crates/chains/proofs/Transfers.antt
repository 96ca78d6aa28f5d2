-- How chains and walks go on through a change of the tables.
use Rattle.std.proofs.Common.{◌≡◌, ℕ, suc, true, Some, Option, sym, ap, ◌∙◌, subst, inl, inr}
use Rattle.std.proofs.lemmas.Bool.{cases_eq}
use Rattle.chains.specs.declared.Backing.{Backing}
use Rattle.chains.specs.declared.Backing.TheVariants.{Shadow}
use Rattle.chains.specs.declared.Owner.{Owner}
use Rattle.chains.specs.declared.End.{End}
use Rattle.chains.specs.declared.End.TheVariants.{Frame}
use Rattle.chains.specs.Rows.{live, own}
use Rattle.chains.specs.Walks.{Bare, Chain, root, on, Walks, at_frame, at_root, below}
use Rattle.chains.proofs.Chains.{root_shadow}

-- objects of a kind that shadows do not leave keep their rows
module _ (B B' : ℕ → Backing) (Ok : ℕ → Type 0) (next : (a p : ℕ) → Ok a → B a ≡ Shadow p → Ok p) (same : (a : ℕ) → Ok a → live (B a) ≡ true → B' a ≡ B a) where
  pub chain_goes : {o n : ℕ} → Chain B o n → Ok o → Chain B' o n
  chain_goes {o} (root h) k = root (same o k (ap live h) ∙ h)
  chain_goes {o} (on {p = p} h c) k = on (same o k (ap live h) ∙ h) (chain_goes c (next o p k h))

  -- and their walks for index i that end at E
  pub walk_goes : (W W' : ℕ → Option Owner) (i : ℕ) (E : End) → ((a t : ℕ) → Ok a → E ≡ Frame t → W t ≡ Some (own a i) → W' t ≡ Some (own a i)) → ((a : ℕ) → Ok a → Bare W a i → Bare W' a i) → {o n : ℕ} {e : End} → Walks B W i o e n → e ≡ E → Ok o → Walks B' W' i o e n
  walk_goes W W' i E stay bare {o} (at_frame {s = s} h) q k = at_frame (stay o s k (sym q) h)
  walk_goes W W' i E stay bare {o} (at_root b h) q k = at_root (bare o k b) (same o k (ap live h) ∙ h)
  walk_goes W W' i E stay bare {o} (below {p = p} b h w) q k =
      below (bare o k b) (same o k (ap live h) ∙ h) (walk_goes W W' i E stay bare w q (next o p k h))

onto : {o : ℕ} (p : ℕ) → Shadow p ≡ Shadow o → p ≡ o
onto p e = cc

-- object o, which only q shadows, collapses into q
module _ (B B' : ℕ → Backing) (o q : ℕ) (shadow : B q ≡ Shadow o) (only : (a : ℕ) → B a ≡ Shadow o → a ≡ q) (taken : B' q ≡ B o) (same : (a : ℕ) → (a ≡ o → ⊥) → (a ≡ q → ⊥) → B' a ≡ B a) (itself : B o ≡ Shadow o → ⊥) where
  past : (a p : ℕ) → (a ≡ q → ⊥) → B a ≡ Shadow p → p ≡ o → ⊥
  past a p d h e = d (only a (h ∙ ap Shadow e))

  past_below : (p : ℕ) → B o ≡ Shadow p → p ≡ o → ⊥
  past_below p h e = itself (h ∙ ap Shadow e)

  -- a chain from o on goes on from q
  pub chain_collapses : {a n : ℕ} → Chain B a n → ((a ≡ o → ⊥) → (m : ℕ) × Chain B' a m) × (a ≡ o → (m : ℕ) × Chain B' q m)
  chain_collapses {a} (root {g = g} h) = (
    λ d. elim (cases_eq a q) [ inl e ↦ absurd (root_shadow _ (ap B (sym e) ∙ h) shadow) | inr f ↦ (1, root (same a d f ∙ h)) ],
    λ e. (1, root (taken ∙ ap B (sym e) ∙ h)),
  )
  chain_collapses {a} (on {p = p} h c) =
      let ih = chain_collapses c in (
        λ d. elim (cases_eq a q) [
          | inl e ↦ let x = ih.1 (onto p (sym h ∙ ap B e ∙ shadow)) in (x.0, subst (λ y. Chain B' y x.0) (sym e) x.1)
          | inr f ↦ let x = ih.0 (past a p f h) in (suc x.0, on (same a d f ∙ h) x.1)
        ],
        λ e. let k = ap B (sym e) ∙ h in let x = ih.0 (past_below p k) in (suc x.0, on (taken ∙ k) x.1),
      )

  module _ (W W' : ℕ → Option Owner) (i : ℕ)
      (stay : (a s : ℕ) → (a ≡ o → ⊥) → W s ≡ Some (own a i) → W' s ≡ Some (own a i))
      (moves : (s : ℕ) → W s ≡ Some (own o i) → Bare W q i → W' s ≡ Some (own q i))
      (bare : (a : ℕ) → (a ≡ o → ⊥) → (a ≡ q → ⊥) → Bare W a i → Bare W' a i)
      (bare_both : Bare W q i → Bare W o i → Bare W' q i) where
    -- and so does a walk that finds no frame at q
    pub walk_collapses : {a n : ℕ} {e : End} → Walks B W i a e n → ((a ≡ o → ⊥) → (m : ℕ) × Walks B' W' i a e m) × (a ≡ o → Bare W q i → (m : ℕ) × Walks B' W' i q e m)
    walk_collapses {a} (at_frame {s = s} h) = (
      λ d. (1, at_frame (stay a s d h)),
      λ e b. (1, at_frame (moves s (h ∙ ap (λ x. Some (own x i)) e) b)),
    )
    walk_collapses {a} (at_root {g = g} b h) = (
      λ d. elim (cases_eq a q) [ inl e ↦ absurd (root_shadow _ (ap B (sym e) ∙ h) shadow) | inr f ↦ (1, at_root (bare a d f b) (same a d f ∙ h)) ],
      λ e c. (1, at_root (bare_both c (subst (λ x. Bare W x i) e b)) (taken ∙ ap B (sym e) ∙ h)),
    )
    walk_collapses {a} {e = z} (below {p = p} b h w) =
        let ih = walk_collapses w in (
          λ d. elim (cases_eq a q) [
            | inl e ↦
                let x = ih.1 (onto p (sym h ∙ ap B e ∙ shadow)) (subst (λ y. Bare W y i) e b) in
                (x.0, subst (λ y. Walks B' W' i y z x.0) (sym e) x.1)
            | inr f ↦ let x = ih.0 (past a p f h) in (suc x.0, below (bare a d f b) (same a d f ∙ h) x.1)
          ],
          λ e c.
              let k = ap B (sym e) ∙ h in
              let x = ih.0 (past_below p k) in
              (suc x.0, below (bare_both c (subst (λ y. Bare W y i) e b)) (taken ∙ k) x.1),
        )
