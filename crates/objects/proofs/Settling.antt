-- Freeing and collapsing, on the tables.
use Rattle.std.proofs.Common.{◌≡◌, ℕ, ◌<◌, ◌≤◌, true, length, get_or, set, is_some, Some, None, Option, sym, refl, ap, ◌∙◌, subst, arith}
use Rattle.std.proofs.lemmas.List.{length-set}
use Rattle.std.proofs.lemmas.Bool.{both_ways, eq-eqb}
use Rattle.chains.specs.declared.Origin.{Origin}
use Rattle.chains.specs.declared.Backing.{Backing}
use Rattle.chains.specs.declared.Backing.TheVariants.{Free, Root, Shadow}
use Rattle.chains.specs.Rows.{live, is_shadowing, weight}
use Rattle.chains.specs.Walks.{lowest, dropped, lifted}
use Rattle.chains.specs.Sound.{Formed, Settles, Put}
use Rattle.chains.proofs.Finds.{lowest_some, lowest_none}
use Rattle.chains.proofs.Chains.{live_below, chain_live, chain_next, free_live}
use Rattle.chains.proofs.Weights.{shadows_true}
use Rattle.chains.proofs.Changes.{some_shadow, collapse_settles, then_settles, root_settles, shadow_nearly, freed, freed_keeps, freed_thins}
use Rattle.objects.specs.declared.tables.Tables.{Tables}
use Rattle.objects.specs.View.{backing, owner_of, top_of, weight_of, FormedTables, OthersSettled, SettledFrom}
use Rattle.objects.proofs.Edits.{set_put}

module _ (t : Tables) (formed : FormedTables t) where
  pub object_below : (o : ℕ) → live (backing t o) ≡ true → o < 511
  object_below o h = live_below 511 (backing t) formed.objects o h

  pub shadowed_live : (q o : ℕ) → backing t q ≡ Shadow o → live (backing t o) ≡ true
  shadowed_live q o h = chain_live (chain_next (formed.chained q (ap live h)).1 h).1

  -- what the search for the upper object finds
  pub upper_is : (o q : ℕ) → lowest 511 (λ k. is_shadowing o (backing t k)) ≡ Some q → (q < 511) × (backing t q ≡ Shadow o) × (o < 511)
  upper_is o q h =
      let x = lowest_some 511 (λ k. is_shadowing o (backing t k)) q h in
      let s = shadows_true o (backing t q) x.1 in
      (x.0, s, object_below o (shadowed_live q o s))

  pub upper_there : (o : ℕ) → weight_of t o ≡ 1 → (r : Option ℕ) → r ≡ lowest 511 (λ k. is_shadowing o (backing t k)) → is_some r ≡ true
  upper_there o w (Some q) h = refl
  upper_there o w None h =
      let x = some_shadow 511 256 128 (backing t) (top_of t) formed.objects formed.records o w in
      absurd (both_ways (is_shadowing o (backing t x.0)) (lowest_none 511 (λ k. is_shadowing o (backing t k)) (sym h) x.0 x.1) (ap (is_shadowing o) x.2 ∙ eq-eqb o o refl))

  module _ (o : ℕ) (others : OthersSettled t o) where
    module _ (t' : Tables) (long : length t.objects ≡ 511) (records : t'.records ≡ t.records) where
      pub settle_collapse : (q : ℕ) → weight_of t o ≡ 1 → lowest 511 (λ k. is_shadowing o (backing t k)) ≡ Some q → t'.objects ≡ set (set t.objects o Free) q (backing t o) → ((s : ℕ) → owner_of t' s ≡ lifted 128 (owner_of t) o q (owner_of t s)) → SettledFrom t t'
      settle_collapse q one h objects frames =
          let x = upper_is o q h in
          let lo : o < length t.objects = omega (arith, x.2) in
          let lq : q < length (set t.objects o Free) = omega (arith, x.0, length-set t.objects o Free) in (
            records,
            collapse_settles 511 256 128 (backing t) (λ j. get_or (set t.objects o Free) j Free) (backing t') (owner_of t) (owner_of t') (top_of t) o q one x.1
                (set_put Free t.objects _ o Free lo refl) (set_put Free (set t.objects o Free) t'.objects q (backing t o) lq objects) frames formed others,
          )

      module _ (none : weight_of t o ≡ 0) (inside : o < 511) (objects : t'.objects ≡ set t.objects o Free) (frames : (s : ℕ) → owner_of t' s ≡ dropped o (owner_of t s)) where
        free_put : Put (backing t) (backing t') o Free
        free_put = let lo : o < length t.objects = omega arith in set_put Free t.objects t'.objects o Free lo objects

        pub forget_root : (g : Origin) → backing t o ≡ Root g → SettledFrom t t'
        forget_root g h =
            (records, root_settles 511 256 128 (backing t) (backing t') (owner_of t) (owner_of t') (top_of t) o inside none free_put frames formed others g h)

        pub forget_rest : live (backing t o) ≡ true → ((p : ℕ) → backing t o ≡ Shadow p → ⊥) → SettledFrom t t'
        forget_rest l d = at (backing t o) refl
          where
            at : (b : Backing) → backing t o ≡ b → SettledFrom t t'
            at Free e = absurd (free_live (backing t o) e l)
            at (Root g) e = forget_root g e
            at (Shadow p) e = absurd (d p e)

        -- the tables after it, with the records of before
        forget_formed : FormedTables t'
        forget_formed =
            subst (λ rs. Formed 511 256 128 (backing t') (owner_of t') (λ r. get_or rs r None)) (sym records)
            (freed 511 256 128 (backing t) (backing t') (owner_of t) (owner_of t') (top_of t) o inside none free_put frames formed)

        pub forget_nearly : (p : ℕ) → Shadow p ≡ backing t o → record { formed : FormedTables t'; others : OthersSettled t' p; referred : 1 ≤ weight_of t' p }
        forget_nearly p h =
            let n = shadow_nearly 511 256 128 (backing t) (backing t') (owner_of t) (owner_of t') (top_of t) o inside none free_put frames formed others p (sym h) in
            record {
              formed = forget_formed;
              others = subst (λ rs. (a : ℕ) → live (backing t' a) ≡ true → (a ≡ p → ⊥) → 2 ≤ weight 511 256 (backing t') (λ r. get_or rs r None) a) (sym records) n.0;
              referred = subst (λ rs. 1 ≤ weight 511 256 (backing t') (λ r. get_or rs r None) p) (sym records) n.1;
            }

        pub forget_shadow : (u : Tables) → SettledFrom t' u → SettledFrom t u
        forget_shadow u S = (
          S.0 ∙ records,
          then_settles 511 256 128 (backing t) (backing t') (backing u) (owner_of t) (owner_of t') (owner_of u) (top_of t)
              (freed_keeps 511 256 128 (backing t) (backing t') (owner_of t) (owner_of t') (top_of t) o inside none free_put frames formed)
              (freed_thins 511 256 128 (backing t) (backing t') (owner_of t) (owner_of t') (top_of t) o inside none free_put frames formed)
              (subst (λ rs. Settles 511 256 128 (backing t') (backing u) (owner_of t') (owner_of u) (λ r. get_or rs r None)) records S.1),
        )
