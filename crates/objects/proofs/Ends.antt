-- The walks of sound tables: the functions give what the relation says.
use Rattle.std.proofs.Common.{◌≡◌, ℕ, suc, ◌+◌, ◌-◌, ◌≤◌, Bool, true, false, is_some, Some, None, Option, sym, refl, ap, ◌∙◌, subst, arith}
use Rattle.std.proofs.lemmas.Bool.{both_ways}
use Rattle.std.specs.declared.ops.ControlFlow.{ControlFlow}
use Rattle.std.specs.declared.ops.ControlFlow.TheVariants.{Continue, Break}
use Rattle.std.proofs.lemmas.Option.{none-some, same_Some}
use Rattle.chains.specs.declared.Origin.{Origin}
use Rattle.chains.specs.declared.Origin.TheVariants.{Zeros, Page}
use Rattle.chains.specs.declared.Backing.{Backing}
use Rattle.chains.specs.declared.Backing.TheVariants.{Free, Root, Shadow}
use Rattle.chains.specs.declared.Owner.{Owner}
use Rattle.chains.specs.declared.End.{End}
use Rattle.chains.specs.declared.End.TheVariants.{Frame}
use Rattle.chains.specs.Rows.{live, source}
use Rattle.chains.specs.Walks.{Bare, Chain, Walks, at_frame, at_root, below, slot_of, end_within, length_within}
use Rattle.chains.proofs.Sums.{count_le}
use Rattle.chains.proofs.Finds.{slot_some, none_bare}
use Rattle.chains.proofs.Chains.{walk_total, walk_end_is, walk_length_is, walk_le, chain_live, chain_next}
use Rattle.chains.proofs.Counting.{chain_short}
use Rattle.objects.specs.declared.tables.Tables.{Tables}
use Rattle.objects.specs.View.{backing, owner_of, top_of, in_use, walk_end, walk_length, records_used, SoundTables}
use Rattle.objects.specs.Says.{step_at, step_on, index_of}

-- walks for index i in the tables
abbrev pub WalksIn : Tables → ℕ → ℕ → End → ℕ → Type 0
WalksIn t i o e n = Walks (backing t) (owner_of t) i o e n

pub used_top : (t : Tables) (r : ℕ) → in_use t r ≡ true → (o : ℕ) × (top_of t r ≡ Some o)
used_top t r h = at (top_of t r) refl h
  where
    at : (x : Option ℕ) → top_of t r ≡ x → is_some x ≡ true → (o : ℕ) × (top_of t r ≡ Some o)
    at None e k = absurd (both_ways false refl k)
    at (Some o) e k = (o, e)

-- a source is no frame
pub source_frame : (i s : ℕ) (g : Origin) → source g i ≡ Frame s → ⊥
source_frame i s Zeros p = cc
source_frame i s (Page m q) p = cc

module _ (t : Tables) (S : SoundTables t) where
  pub top_chain : (r o : ℕ) → top_of t r ≡ Some o → (n : ℕ) × Chain (backing t) o n
  top_chain r o h = S.formed.chained o (S.formed.tops r o h)

  pub chain_few : (o n : ℕ) → Chain (backing t) o n → n ≤ records_used t
  chain_few o n c = chain_short 511 256 (backing t) (top_of t) S.formed.objects S.settled o n c

  -- a record's walk is what the functions give
  module _ (r o : ℕ) (top : top_of t r ≡ Some o) where
    pub walk_few : (i n : ℕ) (e : End) → WalksIn t i o e n → n ≤ records_used t
    walk_few i n e w = let c = top_chain r o top in omega (arith, walk_le w c.1, chain_few o c.0 c.1)

    pub end_is : (i n : ℕ) (e : End) → WalksIn t i o e n → walk_end t r i ≡ Some e
    unfolding walk_end
    end_is i n e w =
        ap (λ x. elim x [ None ↦ None | Some a ↦ end_within 256 128 (backing t) (owner_of t) a i ]) top
        ∙ walk_end_is 128 (backing t) (owner_of t) S.formed.frames S.formed.apart 256 w (omega (arith, walk_few i n e w, count_le (in_use t) 256))

    pub length_is : (i n : ℕ) (e : End) → WalksIn t i o e n → walk_length t r i ≡ n
    unfolding walk_length
    length_is i n e w =
        ap (λ x. elim x [ None ↦ 0 | Some a ↦ length_within 256 128 (backing t) (owner_of t) a i ]) top
        ∙ walk_length_is 128 (backing t) (owner_of t) S.formed.frames S.formed.apart 256 w (omega (arith, walk_few i n e w, count_le (in_use t) 256))

    pub walk_of : (i : ℕ) → (e : End) × (n : ℕ) × WalksIn t i o e n
    walk_of i = walk_total 128 (backing t) (owner_of t) S.formed.frames i (top_chain r o top).1

    -- what the function gives is a walk
    pub end_walk : (i : ℕ) (e : End) → walk_end t r i ≡ Some e → (n : ℕ) × WalksIn t i o e n
    end_walk i e h =
        let x = walk_of i in
        let q : x.0 ≡ e = same_Some _ _ (sym (end_is i x.1 x.0 x.2) ∙ h) in
        (x.1, subst (λ z. WalksIn t i o z x.1) q x.2)

  -- a record that is not in use has no walk
  pub end_none : (r i : ℕ) → in_use t r ≡ false → walk_end t r i ≡ None
  unfolding walk_end
  end_none r i h = at (top_of t r) h
    where
      at : (x : Option ℕ) → is_some x ≡ false → ◌≡◌ {A = Option End} (elim x [ None ↦ None | Some a ↦ end_within 256 128 (backing t) (owner_of t) a i ]) None
      at None k = refl
      at (Some o) k = absurd (both_ways true k refl)

  -- a walk that ends at a frame is for the frame's index
  walk_frame : {i o n : ℕ} {e : End} → WalksIn t i o e n → (s : ℕ) → e ≡ Frame s → index_of (owner_of t s) ≡ Some i
  walk_frame {i} (at_frame {s = u} h) s q =
      let p : u ≡ s = cc in
      ap (λ z. index_of (owner_of t z)) (sym p) ∙ ap index_of h
  walk_frame {i} (at_root {g = g} b h) s q = absurd (source_frame i s g q)
  walk_frame (below b h w) s q = walk_frame w s q

  pub frame_fixes : (r i s : ℕ) → walk_end t r i ≡ Some (Frame s) → index_of (owner_of t s) ≡ Some i
  frame_fixes r i s h = at (in_use t r) refl
    where
      at : (b : Bool) → in_use t r ≡ b → index_of (owner_of t s) ≡ Some i
      at false e = absurd (none-some _ (sym (end_none r i e) ∙ h))
      at true e = let x = used_top t r e in let w = end_walk r x.0 x.1 i (Frame s) h in walk_frame w.1 s refl

-- a record's walks end where another's did, if the walks from its top go on there
pub same_end : (t t' : Tables) → SoundTables t → SoundTables t' → (r r' o o' i : ℕ) → top_of t r ≡ Some o → top_of t' r' ≡ Some o' → ((e : End) (n : ℕ) → walk_end t r i ≡ Some e → WalksIn t i o e n → (m : ℕ) × WalksIn t' i o' e m) → walk_end t' r' i ≡ walk_end t r i
same_end t t' S S' r r' o o' i top top' goes =
    let x = walk_of t S r o top i in
    let q = end_is t S r o top i x.1 x.0 x.2 in
    let y = goes x.0 x.1 q x.2 in
    end_is t' S' r' o' top' i y.0 x.0 y.1 ∙ sym q

-- the steps of a walk
module _ (t : Tables) (S : SoundTables t) (o i : ℕ) where
  pub step_ends : (e : End) → Some (Break e) ≡ step_at t o i → WalksIn t i o e 1
  step_ends e h = at (slot_of 128 (owner_of t) o i) (backing t o) refl refl h
    where
      at : (x : Option ℕ) (b : Backing) → slot_of 128 (owner_of t) o i ≡ x → backing t o ≡ b → Some (Break e) ≡ step_on x b i → WalksIn t i o e 1
      at (Some s) b p q k = let z : Frame s ≡ e = cc in subst (λ y. WalksIn t i o y 1) z (at_frame (slot_some 128 (owner_of t) o i s p))
      at None Free p q k = absurd (none-some _ (sym k))
      at None (Root g) p q k = let z : source g i ≡ e = cc in subst (λ y. WalksIn t i o y 1) z (at_root (none_bare 128 (owner_of t) S.formed.frames o i p) q)
      at None (Shadow u) p q k = cc

  pub step_below : (p : ℕ) → Some (Continue p) ≡ step_at t o i → Bare (owner_of t) o i × (backing t o ≡ Shadow p)
  step_below p h = at (slot_of 128 (owner_of t) o i) (backing t o) refl refl h
    where
      at : (x : Option ℕ) (b : Backing) → slot_of 128 (owner_of t) o i ≡ x → backing t o ≡ b → Some (Continue p) ≡ step_on x b i → Bare (owner_of t) o i × (backing t o ≡ Shadow p)
      at (Some s) b u q k = cc
      at None Free u q k = absurd (none-some _ (sym k))
      at None (Root g) u q k = cc
      at None (Shadow v) u q k = let z : Shadow v ≡ Shadow p = cc in (none_bare 128 (owner_of t) S.formed.frames o i u, q ∙ z)

-- the walk so far: n objects were visited, and a walk from object o on is one from the top on
abbrev pub Comes : Tables → ℕ → ℕ → ℕ → ℕ → Type 0
Comes t i top o n = (live (backing t o) ≡ true) × ((e : End) (m k : ℕ) → suc k ≡ n + m → WalksIn t i o e m → WalksIn t i top e k)

walk_some : {B : ℕ → Backing} {W : ℕ → Option Owner} {i o n : ℕ} {e : End} → Walks B W i o e n → 1 ≤ n
walk_some (at_frame h) = omega arith
walk_some (at_root b h) = omega arith
walk_some (below b h w) = omega (arith, walk_some w)

module _ (t : Tables) (S : SoundTables t) (i top : ℕ) where
  pub comes_more : (o n p : ℕ) → Comes t i top o n → Some (Continue p) ≡ step_at t o i → Comes t i top p (n + 1)
  comes_more o n p c h =
      let b = step_below t S o i p h in
      (chain_live (chain_next (S.formed.chained o c.0).1 b.1).1, λ e m k q w. c.1 e (suc m) k (omega arith) (below b.0 b.1 w))

  pub comes_end : (o n : ℕ) (e : End) → Comes t i top o n → Some (Break e) ≡ step_at t o i → WalksIn t i top e n
  comes_end o n e c h = c.1 e 1 n (omega arith) (step_ends t S o i e h)

  -- no walk visits more than 256 objects
  pub comes_over : (r o n : ℕ) → top_of t r ≡ Some top → 257 ≤ n → Comes t i top o n → ⊥
  comes_over r o n h l c =
      let w = walk_total 128 (backing t) (owner_of t) S.formed.frames i (S.formed.chained o c.0).1 in
      let one = walk_some w.2 in
      let k = n + w.1 - 1 in
      let u = c.1 w.0 w.1 k (omega (arith, one)) w.2 in
      omega (arith, one, walk_few t S r top h i k w.0 u, count_le (in_use t) 256)

  -- a walk that has come to its end
  pub comes_says : (r o n : ℕ) (e : End) (step : ControlFlow End ℕ) → top_of t r ≡ Some top → Comes t i top o n → Some step ≡ step_at t o i → step ≡ Break e → (true ≡ in_use t r) × (walk_end t r i ≡ Some e) × (walk_length t r i ≡ n) × (n ≤ records_used t)
  comes_says r o n e step h c at is =
      let w = comes_end o n e c (ap Some (sym is) ∙ at) in
      (sym (ap is_some h), end_is t S r top h i n e w, length_is t S r top h i n e w, walk_few t S r top h i n e w)
