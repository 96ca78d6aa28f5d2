-- Where a frame can be put, in terms of walks.
use Rattle.std.proofs.Common.{◌≡◌, ℕ, ◌<◌, ◌≤◌, Bool, true, false, not, eqb, ltb, ◌⊎◌, Some, None, Option, sym, refl, ap, ◌∙◌, inl, inr, arith}
use Rattle.std.proofs.lemmas.Bool.{eq-eqb, and_from, or_left, or_right, lt-ltb, not_from_true, not_from_false}
use Rattle.chains.specs.declared.Backing.TheVariants.{Shadow}
use Rattle.chains.specs.declared.End.{End}
use Rattle.chains.specs.declared.End.TheVariants.{Frame}
use Rattle.chains.specs.Rows.{own}
use Rattle.chains.specs.Walks.{at_frame, at_root, below, slot_of}
use Rattle.chains.proofs.Finds.{slot_some}
use Rattle.chains.proofs.Changes.{same_object, named, named_twice, shadowed}
use Rattle.objects.specs.declared.tables.Tables.{Tables}
use Rattle.objects.specs.View.{backing, owner_of, top_of, in_use, walk_end, weight_of, SoundTables}
use Rattle.objects.specs.Says.{other_frame, placeable_on, placeable, TakesOwn, TakesShared}
use Rattle.objects.proofs.Ends.{WalksIn, source_frame, used_top, end_is, end_walk}

-- a walk that ends at a frame of object o starts there, or comes by a shadow of o
through : (t : Tables) {i a n : ℕ} {e : End} → WalksIn t i a e n → (k o : ℕ) → e ≡ Frame k → owner_of t k ≡ Some (own o i) → (a ≡ o) ⊎ ((b : ℕ) × (backing t b ≡ Shadow o))
through t {i} {a} (at_frame {s = u} h) k o q g =
    let p : u ≡ k = cc in
    let z : Some (own a i) ≡ Some (own o i) = sym h ∙ ap (owner_of t) p ∙ g in
    inl (same_object z)
through t {i} (at_root {g = g} b h) k o q f = absurd (source_frame i k g q)
through t {a = a} (below b h w) k o q g = elim (through t w k o q g) [ inl e ↦ inr (a, h ∙ ap Shadow e) | inr x ↦ inr x ]

module _ (t : Tables) (S : SoundTables t) where
  placeable_top : (r o i s : ℕ) → top_of t r ≡ Some o → s < 128 → (3 ≤ weight_of t o) ⊎ (other_frame (slot_of 128 (owner_of t) o i) s ≡ false) → placeable t r i s ≡ true
  placeable_top r o i s top l c =
      ap (λ x. placeable_on t x i s) top
      ∙ and_from (ltb s 128) _ (lt-ltb s 128 l)
      (elim c [
        | inl w ↦ or_left (ltb 2 (weight_of t o)) (not (other_frame (slot_of 128 (owner_of t) o i) s)) (lt-ltb 2 (weight_of t o) w)
        | inr f ↦ or_right (ltb 2 (weight_of t o)) (not (other_frame (slot_of 128 (owner_of t) o i) s)) (not_from_false _ f)
      ])

  -- a frame of the top at the index is the walk's end
  top_end : (r o i k : ℕ) → top_of t r ≡ Some o → slot_of 128 (owner_of t) o i ≡ Some k → walk_end t r i ≡ Some (Frame k)
  top_end r o i k top h = end_is t S r o top i 1 (Frame k) (at_frame (slot_some 128 (owner_of t) o i k h))

  frame_same : {a b : ℕ} → Some (Frame a) ≡ Some (Frame b) → a ≡ b
  frame_same e = cc

  -- the frame at which the walk ends
  pub placeable_end : (r i s : ℕ) → in_use t r ≡ true → s < 128 → ((k : ℕ) → walk_end t r i ≡ Some (Frame k) → k ≡ s) → placeable t r i s ≡ true
  placeable_end r i s u l only = let x = used_top t r u in placeable_top r x.0 i s x.1 l (inr (at x.0 x.1 (slot_of 128 (owner_of t) x.0 i) refl))
    where
      at : (o : ℕ) → top_of t r ≡ Some o → (y : Option ℕ) → slot_of 128 (owner_of t) o i ≡ y → other_frame (slot_of 128 (owner_of t) o i) s ≡ false
      at o top None e = ap (λ z. other_frame z s) e
      at o top (Some k) e = ap (λ z. other_frame z s) e ∙ not_from_true (eqb k s) (eq-eqb k s (only k (top_end r o i k top e)))

  -- any frame, where another record's walk ends at the same frame
  pub placeable_both : (r k i s f : ℕ) → (k ≡ r → ⊥) → in_use t r ≡ true → in_use t k ≡ true → s < 128 → walk_end t r i ≡ Some (Frame f) → walk_end t k i ≡ Some (Frame f) → placeable t r i s ≡ true
  placeable_both r k i s f d u v l h g =
      let x = used_top t r u in
      let y = used_top t k v in
      let w = end_walk t S k y.0 y.1 i (Frame f) g in
      placeable_top r x.0 i s x.1 l (at x.0 x.1 y.0 y.1 w.0 w.1 (slot_of 128 (owner_of t) x.0 i) refl)
    where
      heavy : (o a : ℕ) → top_of t r ≡ Some o → top_of t k ≡ Some a → (a ≡ o) ⊎ ((b : ℕ) × (backing t b ≡ Shadow o)) → 3 ≤ weight_of t o
      heavy o a top other c =
          elim c [
            | inl e ↦ omega (arith, named_twice 511 256 128 (backing t) (top_of t) S.formed.objects S.formed.records k r o (other ∙ ap Some e) top d)
            | inr z ↦ omega (arith, named 511 256 128 (backing t) (top_of t) S.formed.objects S.formed.records r o top, shadowed 511 256 128 (backing t) (top_of t) S.formed.objects S.formed.records z.0 o z.1)
          ]

      at : (o : ℕ) → top_of t r ≡ Some o → (a : ℕ) → top_of t k ≡ Some a → (n : ℕ) → WalksIn t i a (Frame f) n → (z : Option ℕ) → slot_of 128 (owner_of t) o i ≡ z → (3 ≤ weight_of t o) ⊎ (other_frame (slot_of 128 (owner_of t) o i) s ≡ false)
      at o top a other n w None e = inr (ap (λ z. other_frame z s) e)
      at o top a other n w (Some j) e =
          let q : j ≡ f = frame_same (sym (top_end r o i j top e) ∙ h) in
          inl (heavy o a top other (through t w f o refl (ap (owner_of t) (sym q) ∙ slot_some 128 (owner_of t) o i j e)))

  -- what an answer that says whether it can be put there promises
  pub takes : (r i s : ℕ) (b : Bool) → b ≡ placeable t r i s → TakesOwn t r i s b × TakesShared t r i s b
  takes r i s b h = (λ u l only. h ∙ placeable_end r i s u l only, λ k f d u v l e g. h ∙ placeable_both r k i s f d u v l e g)
