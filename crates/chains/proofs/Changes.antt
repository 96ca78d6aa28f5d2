-- Each change of the tables keeps them sound, and keeps the walks.
use Rattle.std.proofs.Common.{◌≡◌, ℕ, suc, ◌+◌, ◌<◌, ◌≤◌, Bool, true, false, cond, eqb, ◌⊎◌, is_some, Some, None, Option, sym, refl, ap, ◌∙◌, subst, inl, inr, arith}
use Rattle.std.proofs.lemmas.Bool.{cases_eq, cases_lt, cases_Bool, eqb-true, eqb-false, eq-eqb, ne_eqb}
use Rattle.std.proofs.lemmas.Option.{same_Some}
use Rattle.std.proofs.lemmas.Option.{none-some}
use Rattle.chains.specs.declared.Origin.{Origin}
use Rattle.chains.specs.declared.Backing.{Backing}
use Rattle.chains.specs.declared.Backing.TheVariants.{Free, Root, Shadow}
use Rattle.chains.specs.declared.Owner.{Owner}
use Rattle.chains.specs.declared.End.{End}
use Rattle.chains.specs.declared.End.TheVariants.{Frame}
use Rattle.chains.specs.Rows.{live, is_shadowing, is_naming, own, bit, count, weight}
use Rattle.chains.specs.Walks.{Bare, Chain, root, on, Walks, at_frame, below, slot_of, dropped, lifted}
use Rattle.chains.specs.Sound.{Formed, Settled, Sound, Nearly, Put, Keeps, Thins, Settles}
use Rattle.chains.proofs.Sums.{sum_zero, term_le, two_terms, some_term}
use Rattle.chains.proofs.Finds.{none_bare, bare_none}
use Rattle.chains.proofs.Chains.{free_live, live_below, chain_live, chain_next, not_itself}
use Rattle.chains.proofs.Weights.{bit_false, true_bit, bit_same, bit_other, names_put, shadows_put, shadows_true, names_true}
use Rattle.chains.proofs.Transfers.{chain_goes, walk_goes, chain_collapses, walk_collapses}

pub same_object : {v w : Owner} → Some v ≡ Some w → v.object ≡ w.object
same_object e = cc

same_index : {v w : Owner} → Some v ≡ Some w → v.index ≡ w.index
same_index e = cc

module _ (N M F : ℕ) where
  -- what a name and a shadow weigh
  module _ (B : ℕ → Backing) (T : ℕ → Option ℕ) (objects : (o : ℕ) → N ≤ o → B o ≡ Free) (records : (r : ℕ) → M ≤ r → T r ≡ None) where
    pub used_below : (r o : ℕ) → T r ≡ Some o → r < M
    used_below r o h = elim (cases_lt r M) [ inl l ↦ l | inr g ↦ absurd (none-some o (sym (records r g) ∙ h)) ]

    pub named : (r o : ℕ) → T r ≡ Some o → 1 ≤ count M (λ k. is_naming o (T k))
    named r o h =
        omega (arith, term_le M (λ k. bit (is_naming o (T k))) r (used_below r o h), ap (λ x. bit (is_naming o x)) h, bit_same o o refl)

    pub shadowed : (a o : ℕ) → B a ≡ Shadow o → 1 ≤ count N (λ k. is_shadowing o (B k))
    shadowed a o h =
        omega (arith, term_le N (λ k. bit (is_shadowing o (B k))) a (live_below N B objects a (ap live h)), ap (λ x. bit (is_shadowing o x)) h, bit_same o o refl)

    -- two of a kind weigh two
    pub named_twice : (r k o : ℕ) → T r ≡ Some o → T k ≡ Some o → (r ≡ k → ⊥) → 2 ≤ count M (λ k. is_naming o (T k))
    named_twice r k o h g d =
        omega (arith, two_terms M (λ k. bit (is_naming o (T k))) r k (used_below r o h) (used_below k o g) d, ap (λ x. bit (is_naming o x)) h, ap (λ x. bit (is_naming o x)) g, bit_same o o refl)

    pub shadowed_twice : (a b o : ℕ) → B a ≡ Shadow o → B b ≡ Shadow o → (a ≡ b → ⊥) → 2 ≤ count N (λ k. is_shadowing o (B k))
    shadowed_twice a b o h g d =
        omega (arith, two_terms N (λ k. bit (is_shadowing o (B k))) a b (live_below N B objects a (ap live h)) (live_below N B objects b (ap live g)) d, ap (λ x. bit (is_shadowing o x)) h, ap (λ x. bit (is_shadowing o x)) g, bit_same o o refl)

    -- an object of weight 2 that a record names has no other reference
    pub alone_name : (r k o : ℕ) → T r ≡ Some o → weight N M B T o ≤ 2 → T k ≡ Some o → r ≡ k
    alone_name r k o h w g = elim (cases_eq r k) [ inl e ↦ e | inr d ↦ absurd (omega (arith, named_twice r k o h g d, w)) ]

    pub alone_shadow : (r a o : ℕ) → T r ≡ Some o → weight N M B T o ≤ 2 → B a ≡ Shadow o → ⊥
    alone_shadow r a o h w g = omega (arith, named r o h, shadowed a o g, w)

    -- an object of weight 1 has just one shadow
    pub single_name : (r o : ℕ) → weight N M B T o ≤ 1 → T r ≡ Some o → ⊥
    single_name r o w h = omega (arith, named r o h, w)

    pub single_shadow : (a b o : ℕ) → weight N M B T o ≤ 1 → B a ≡ Shadow o → B b ≡ Shadow o → a ≡ b
    single_shadow a b o w h g = elim (cases_eq a b) [ inl e ↦ e | inr d ↦ absurd (omega (arith, shadowed_twice a b o h g d, w)) ]

    pub none_shadow : (a o : ℕ) → weight N M B T o ≡ 0 → B a ≡ Shadow o → ⊥
    none_shadow a o w h = omega (arith, shadowed a o h, w)

    pub some_shadow : (o : ℕ) → weight N M B T o ≡ 1 → (a : ℕ) × (a < N) × (B a ≡ Shadow o)
    some_shadow o w =
        let x = some_term N (λ k. bit (is_shadowing o (B k))) (omega (arith, w)) in
        (x.0, x.1, shadows_true o (B x.0) (true_bit _ x.2))

  -- nothing refers to a free row
  pub free_weight : (B : ℕ → Backing) (W : ℕ → Option Owner) (T : ℕ → Option ℕ) → Formed N M F B W T → (o : ℕ) → B o ≡ Free → weight N M B T o ≡ 0
  free_weight B W T F₀ o free =
      let n : count M (λ r. is_naming o (T r)) ≡ 0 =
      sum_zero M _ (λ k l. elim (cases_Bool (is_naming o (T k))) [
        | inl t ↦ absurd (free_live (B o) free (F₀.tops k o (names_true o (T k) t)))
        | inr f ↦ bit_false _ f
      ])
      in
      let b : count N (λ a. is_shadowing o (B a)) ≡ 0 =
      sum_zero N _ (λ k l. elim (cases_Bool (is_shadowing o (B k))) [
        | inl t ↦
            let h = shadows_true o (B k) t in
            let c = F₀.chained k (ap live h) in
            absurd (free_live (B o) free (chain_live (chain_next c.1 h).1))
        | inr f ↦ bit_false _ f
      ])
      in
      omega (arith, n, b)

  -- a row that was free leaves the others
  grown : (B B' : ℕ → Backing) (o : ℕ) (x : Backing) → B o ≡ Free → Put B B' o x → (a : ℕ) → live (B a) ≡ true → B' a ≡ B a
  grown B B' o x free put a l = put.elsewhere a (λ e. free_live (B a) (ap B e ∙ free) l)

  -- a new row over a free one, and a record that names it
  module _ (B B' : ℕ → Backing) (W : ℕ → Option Owner) (T T' : ℕ → Option ℕ) (o r : ℕ) (x : Backing) (free : B o ≡ Free) (inside : o < N) (within : r < M) (put : Put B B' o x) (puts : Put T T' r (Some o)) (F₀ : Formed N M F B W T) where
    pub grown_chain : {a n : ℕ} → Chain B a n → Chain B' a n
    grown_chain c = chain_goes B B' (λ _. Unit {0}) (λ _ _ _ _. tt) (λ a _ l. grown B B' o x free put a l) c tt

    pub grown_walk : {a i n : ℕ} {e : End} → Walks B W i a e n → Walks B' W i a e n
    grown_walk {i = i} {e = e} w =
        walk_goes B B' (λ _. Unit {0}) (λ _ _ _ _. tt) (λ a _ l. grown B B' o x free put a l) W W i e (λ _ _ _ _ h. h) (λ _ _ h. h) w refl tt

    pub fresh_bare : (i : ℕ) → Bare W o i
    fresh_bare i s h = free_live (B o) free (F₀.owners s (own o i) h)

    grown_live : (a : ℕ) → live (B a) ≡ true → live (B' a) ≡ true
    grown_live a l = ap live (grown B B' o x free put a l) ∙ l

    pub grown_formed : (n : ℕ) → Chain B' o n → Formed N M F B' W T'
    grown_formed n c = record {
      objects = λ a l. put.elsewhere a (λ e. omega arith) ∙ F₀.objects a l;
      records = λ k l. puts.elsewhere k (λ e. omega arith) ∙ F₀.records k l;
      frames = F₀.frames;
      tops = λ k a h. elim (cases_eq k r) [
        | inl e ↦ subst (λ y. live (B' y) ≡ true) (same_Some _ _ (sym puts.here ∙ ap T' (sym e) ∙ h)) (chain_live c)
        | inr d ↦ grown_live a (F₀.tops k a (sym (puts.elsewhere k d) ∙ h))
      ];
      chained = λ a l. elim (cases_eq a o) [
        | inl e ↦ (n, subst (λ y. Chain B' y n) (sym e) c)
        | inr d ↦ let z = F₀.chained a (ap live (sym (put.elsewhere a d)) ∙ l) in (z.0, grown_chain z.1)
      ];
      owners = λ s w h. grown_live w.object (F₀.owners s w h);
      apart = F₀.apart;
    }

  -- opening a record over a new root
  pub opened : (B B' : ℕ → Backing) (W : ℕ → Option Owner) (T T' : ℕ → Option ℕ) (o r : ℕ) (g : Origin) → B o ≡ Free → o < N → r < M → T r ≡ None → Put B B' o (Root g) → Put T T' r (Some o) → Sound N M F B W T → Sound N M F B' W T'
  opened B B' W T T' o r g free inside within unused put puts S = record {
    formed = grown_formed B B' W T T' o r (Root g) free inside within put puts S.formed 1 (root put.here);
    settled = λ a l.
        let n = names_put M T T' r (Some o) puts within a in
        let b = shadows_put N B B' o (Root g) put inside a in
        let u : bit (is_naming a (T r)) ≡ 0 = ap (λ y. bit (is_naming a y)) unused in
        let v : bit (is_shadowing a (B o)) ≡ 0 = ap (λ y. bit (is_shadowing a y)) free in
        elim (cases_eq o a) [
          | inl e ↦ omega (arith, n, b, u, v, bit_same o a e)
          | inr d ↦ omega (arith, n, b, u, v, S.settled a (ap live (sym (put.elsewhere a (λ e. d (sym e)))) ∙ l))
        ];
  }

  -- a second record on a top
  pub copied : (B : ℕ → Backing) (W : ℕ → Option Owner) (T T' : ℕ → Option ℕ) (o r k : ℕ) → T r ≡ Some o → k < M → T k ≡ None → Put T T' k (Some o) → Sound N M F B W T → Sound N M F B W T'
  copied B W T T' o r k top within unused puts S = record {
    formed = record {
      objects = S.formed.objects;
      records = λ j l. puts.elsewhere j (λ e. omega arith) ∙ S.formed.records j l;
      frames = S.formed.frames;
      tops = λ j a h. elim (cases_eq j k) [
        | inl e ↦ subst (λ y. live (B y) ≡ true) (same_Some _ _ (sym puts.here ∙ ap T' (sym e) ∙ h)) (S.formed.tops r o top)
        | inr d ↦ S.formed.tops j a (sym (puts.elsewhere j d) ∙ h)
      ];
      chained = S.formed.chained;
      owners = S.formed.owners;
      apart = S.formed.apart;
    };
    settled = λ a l.
        let u : bit (is_naming a (T k)) ≡ 0 = ap (λ y. bit (is_naming a y)) unused in
        omega (arith, names_put M T T' k (Some o) puts within a, u, S.settled a l);
  }

  -- a new shadow between a record and its top, which has another reference
  module _ (B B' : ℕ → Backing) (W : ℕ → Option Owner) (T T' : ℕ → Option ℕ) (o p r : ℕ) (top : T r ≡ Some o) (free : B p ≡ Free) (inside : p < N) (put : Put B B' p (Shadow o)) (puts : Put T T' r (Some p)) (shared : 3 ≤ weight N M B T o) (S : Sound N M F B W T) where
    shaded_within : r < M
    shaded_within = used_below B T S.formed.objects S.formed.records r o top

    shaded_apart : o ≡ p → ⊥
    shaded_apart e = free_live (B o) (ap B e ∙ free) (S.formed.tops r o top)

    pub shaded_walk : {i n : ℕ} {e : End} → Walks B W i o e n → Walks B' W i p e (suc n)
    shaded_walk {i} w =
        below (fresh_bare B B' W T T' p r (Shadow o) free inside shaded_within put puts S.formed i) put.here
        (grown_walk B B' W T T' p r (Shadow o) free inside shaded_within put puts S.formed w)

    pub shaded : Sound N M F B' W T'
    shaded =
        let c = S.formed.chained o (S.formed.tops r o top) in
        let c' = grown_chain B B' W T T' p r (Shadow o) free inside shaded_within put puts S.formed c.1 in
        record {
          formed = grown_formed B B' W T T' p r (Shadow o) free inside shaded_within put puts S.formed (suc c.0) (on put.here c');
          settled = λ a l.
              let n = names_put M T T' r (Some p) puts shaded_within a in
              let b = shadows_put N B B' p (Shadow o) put inside a in
              let u : bit (is_naming a (T r)) ≡ bit (eqb o a) = ap (λ y. bit (is_naming a y)) top in
              let v : bit (is_shadowing a (B p)) ≡ 0 = ap (λ y. bit (is_shadowing a y)) free in
              elim (cases_eq p a) [
                | inl e ↦ omega (arith, n, b, u, v, bit_same p a e, bit_other o a (λ q. shaded_apart (q ∙ sym e)))
                | inr d ↦ elim (cases_eq o a) [
                  | inl e ↦ omega (arith, n, b, u, v, bit_same o a e, bit_other p a d, shared, ap (weight N M B T) e)
                  | inr f ↦ omega (arith, n, b, u, v, bit_other o a f, bit_other p a d, S.settled a (ap live (sym (put.elsewhere a (λ e. d (sym e)))) ∙ l))
                ]
              ];
        }

    -- the record alone refers to its new top
    pub shaded_alone : weight N M B' T' p ≡ 2
    shaded_alone =
        let n = names_put M T T' r (Some p) puts shaded_within p in
        let b = shadows_put N B B' p (Shadow o) put inside p in
        let u : bit (is_naming p (T r)) ≡ bit (eqb o p) = ap (λ y. bit (is_naming p y)) top in
        let v : bit (is_shadowing p (B p)) ≡ 0 = ap (λ y. bit (is_shadowing p y)) free in
        omega (arith, n, b, u, v, bit_same p p refl, bit_other o p shaded_apart, free_weight B W T S.formed p free)

  -- a frame gets an owner
  module _ (B : ℕ → Backing) (W W' : ℕ → Option Owner) (T : ℕ → Option ℕ) (o i s : ℕ) (inside : s < F) (others : (t : ℕ) → (t ≡ s → ⊥) → W t ≡ Some (own o i) → ⊥) (put : Put W W' s (Some (own o i))) where
    pub placed : live (B o) ≡ true → Sound N M F B W T → Sound N M F B W' T
    placed l S = record {
      formed = record {
        objects = S.formed.objects;
        records = S.formed.records;
        frames = λ t g. put.elsewhere t (λ e. omega arith) ∙ S.formed.frames t g;
        tops = S.formed.tops;
        chained = S.formed.chained;
        owners = λ t w h. elim (cases_eq t s) [
          | inl e ↦ subst (λ y. live (B y) ≡ true) (same_object (sym put.here ∙ ap W' (sym e) ∙ h)) l
          | inr d ↦ S.formed.owners t w (sym (put.elsewhere t d) ∙ h)
        ];
        apart = λ t u w h g. elim (cases_eq t s) [
          | inl e ↦ elim (cases_eq u s) [
            | inl f ↦ e ∙ sym f
            | inr f ↦ absurd (others u f (sym (put.elsewhere u f) ∙ g ∙ sym h ∙ ap W' e ∙ put.here))
          ]
          | inr d ↦ elim (cases_eq u s) [
            | inl f ↦ absurd (others t d (sym (put.elsewhere t d) ∙ h ∙ sym g ∙ ap W' f ∙ put.here))
            | inr f ↦ S.formed.apart t u w (sym (put.elsewhere t d) ∙ h) (sym (put.elsewhere u f) ∙ g)
          ]
        ];
      };
      settled = S.settled;
    }

    pub placed_here : Walks B W' i o (Frame s) 1
    placed_here = at_frame put.here

    -- a walk that does not come by the place, and does not end at the frame, goes on as it did
    pub placed_walk : {a j n : ℕ} {e : End} → Walks B W j a e n → (e ≡ Frame s → ⊥) → (j ≡ i → a ≡ o → ⊥) → (j ≡ i → (p : ℕ) → B p ≡ Shadow o → ⊥) → Walks B W' j a e n
    placed_walk {j = j} {e = z} w d off alone =
        walk_goes B B (λ a. j ≡ i → a ≡ o → ⊥) (λ a p k h f e. alone f a (h ∙ ap Shadow e)) (λ a k l. refl) W W' j z
        (λ a t k e h. put.elsewhere t (λ f. d (e ∙ ap Frame f)) ∙ h)
        (λ a k b t h. elim (cases_eq t s) [
          | inl e ↦ let q = sym put.here ∙ ap W' (sym e) ∙ h in k (sym (same_index q)) (sym (same_object q))
          | inr f ↦ b t (sym (put.elsewhere t f) ∙ h)
        ])
        w refl off

  -- a frame is freed
  module _ (B : ℕ → Backing) (W W' : ℕ → Option Owner) (T : ℕ → Option ℕ) (s : ℕ) (put : Put W W' s None) where
    released_back : (t : ℕ) (w : Owner) → W' t ≡ Some w → W t ≡ Some w
    released_back t w h =
        elim (cases_eq t s) [ inl e ↦ absurd (none-some _ (sym (ap W' e ∙ put.here) ∙ h)) | inr d ↦ sym (put.elsewhere t d) ∙ h ]

    pub released : Sound N M F B W T → Sound N M F B W' T
    released S = record {
      formed = record {
        objects = S.formed.objects;
        records = S.formed.records;
        frames = λ t g. elim (cases_eq t s) [ inl e ↦ ap W' e ∙ put.here | inr d ↦ put.elsewhere t d ∙ S.formed.frames t g ];
        tops = S.formed.tops;
        chained = S.formed.chained;
        owners = λ t w h. S.formed.owners t w (released_back t w h);
        apart = λ t u w h g. S.formed.apart t u w (released_back t w h) (released_back u w g);
      };
      settled = S.settled;
    }

    pub released_walk : {a j n : ℕ} {e : End} → Walks B W j a e n → (e ≡ Frame s → ⊥) → Walks B W' j a e n
    released_walk {j = j} {e = z} w d =
        walk_goes B B (λ _. Unit {0}) (λ _ _ _ _. tt) (λ _ _ _. refl) W W' j z
        (λ a t k e h. put.elsewhere t (λ f. d (e ∙ ap Frame f)) ∙ h)
        (λ a k b t h. b t (released_back t (own a j) h))
        w refl tt

  -- a record is closed: its top loses two
  module _ (B : ℕ → Backing) (W : ℕ → Option Owner) (T T' : ℕ → Option ℕ) (o r : ℕ) (top : T r ≡ Some o) (put : Put T T' r None) where
    unnamed_back : (k a : ℕ) → T' k ≡ Some a → T k ≡ Some a
    unnamed_back k a h =
        elim (cases_eq k r) [ inl e ↦ absurd (none-some _ (sym (ap T' e ∙ put.here) ∙ h)) | inr d ↦ sym (put.elsewhere k d) ∙ h ]

    pub unnamed : Formed N M F B W T → Formed N M F B W T'
    unnamed F₀ = record {
      objects = F₀.objects;
      records = λ k l. elim (cases_eq k r) [ inl e ↦ ap T' e ∙ put.here | inr d ↦ put.elsewhere k d ∙ F₀.records k l ];
      frames = F₀.frames;
      tops = λ k a h. F₀.tops k a (unnamed_back k a h);
      chained = F₀.chained;
      owners = F₀.owners;
      apart = F₀.apart;
    }

    pub unnamed_weight : Formed N M F B W T → (a : ℕ) → (a ≡ o → ⊥) → weight N M B T' a ≡ weight N M B T a
    unnamed_weight F₀ a d =
        let u : bit (is_naming a (T r)) ≡ bit (eqb o a) = ap (λ y. bit (is_naming a y)) top in
        omega (arith, names_put M T T' r None put (used_below B T F₀.objects F₀.records r o top) a, u, bit_other o a (λ e. d (sym e)))

    pub unnamed_settled : Formed N M F B W T → Settled N M B T → (a : ℕ) → live (B a) ≡ true → (a ≡ o → ⊥) → 2 ≤ weight N M B T' a
    unnamed_settled F₀ S a l d = omega (arith, S a l, unnamed_weight F₀ a d)

  -- an object to which nothing refers is freed, with its frames
  dropped_other : (o : ℕ) (x : Option Owner) (w : Owner) → x ≡ Some w → (w.object ≡ o → ⊥) → dropped o x ≡ Some w
  dropped_other o x w h d = ap (dropped o) h ∙ ap (λ b. cond b None (Some w)) (ne_eqb w.object o d)

  dropped_back : (o : ℕ) (x : Option Owner) (w : Owner) → dropped o x ≡ Some w → (x ≡ Some w) × (w.object ≡ o → ⊥)
  dropped_back o None w h = absurd (none-some _ h)
  dropped_back o (Some v) w h = at (eqb v.object o) refl h
    where
      at : (b : Bool) → eqb v.object o ≡ b → cond b None (Some v) ≡ Some w → (Some v ≡ Some w) × (w.object ≡ o → ⊥)
      at true e k = absurd (none-some _ k)
      at false e k = (k, λ q. eqb-false v.object o e (same_object k ∙ q))

  module _ (B B' : ℕ → Backing) (W W' : ℕ → Option Owner) (T : ℕ → Option ℕ) (o : ℕ) (inside : o < N) (zero_weight : weight N M B T o ≡ 0) (put : Put B B' o Free) (drops : (s : ℕ) → W' s ≡ dropped o (W s)) (F₀ : Formed N M F B W T) where
    freed_next : (a p : ℕ) → (a ≡ o → ⊥) → B a ≡ Shadow p → p ≡ o → ⊥
    freed_next a p d h e = none_shadow B T F₀.objects F₀.records a o zero_weight (h ∙ ap Shadow e)

    freed_top : (r a : ℕ) → T r ≡ Some a → a ≡ o → ⊥
    freed_top r a h e = single_name B T F₀.objects F₀.records r o (omega (arith, zero_weight)) (h ∙ ap Some e)

    freed_live : (a : ℕ) → live (B a) ≡ true → (a ≡ o → ⊥) → live (B' a) ≡ true
    freed_live a l d = ap live (put.elsewhere a d) ∙ l

    pub live_freed : (a : ℕ) → live (B' a) ≡ true → (live (B a) ≡ true) × (a ≡ o → ⊥)
    live_freed a l =
        let d : a ≡ o → ⊥ = λ e. free_live (B' a) (ap B' e ∙ put.here) l in
        (ap live (sym (put.elsewhere a d)) ∙ l, d)

    pub freed_thins : Thins W W'
    freed_thins s w h = let x = dropped_back o (W s) w (sym (drops s) ∙ h) in (w, x.0, refl)

    pub freed_keeps : Keeps B W B' W' T
    freed_keeps r a i n e h w = (
      n,
      walk_goes B B' (λ a. a ≡ o → ⊥) freed_next (λ a d l. put.elsewhere a d) W W' i e
          (λ a t d q g. drops t ∙ dropped_other o (W t) (own a i) g d)
          (λ a d b t g. b t (dropped_back o (W t) (own a i) (sym (drops t) ∙ g)).0)
          w refl (freed_top r a h),
    )

    pub freed : Formed N M F B' W' T
    freed = record {
      objects = λ a l. put.elsewhere a (λ e. omega arith) ∙ F₀.objects a l;
      records = F₀.records;
      frames = λ s l. drops s ∙ ap (dropped o) (F₀.frames s l);
      tops = λ r a h. freed_live a (F₀.tops r a h) (freed_top r a h);
      chained = λ a l.
          let x = live_freed a l in
          let c = F₀.chained a x.0 in
          (c.0, chain_goes B B' (λ a. a ≡ o → ⊥) freed_next (λ a d l. put.elsewhere a d) c.1 x.1);
      owners = λ s w h. let x = dropped_back o (W s) w (sym (drops s) ∙ h) in freed_live w.object (F₀.owners s w x.0) x.1;
      apart = λ s t w h g. F₀.apart s t w (dropped_back o (W s) w (sym (drops s) ∙ h)).0 (dropped_back o (W t) w (sym (drops t) ∙ g)).0;
    }

    pub freed_weight : (a : ℕ) → weight N M B' T a + bit (is_shadowing a (B o)) ≡ weight N M B T a
    freed_weight a = omega (arith, shadows_put N B B' o Free put inside a)

  -- an object with one shadow and no name collapses into it
  lifted_other : (W : ℕ → Option Owner) (o q : ℕ) (x : Option Owner) (w : Owner) → x ≡ Some w → (w.object ≡ o → ⊥) → lifted F W o q x ≡ Some w
  lifted_other W o q x w h d =
      ap (lifted F W o q) h ∙ ap (λ b. cond b (cond (is_some (slot_of F W q w.index)) None (Some (own q w.index))) (Some w)) (ne_eqb w.object o d)

  lifted_moves : (W : ℕ → Option Owner) (o q i : ℕ) (x : Option Owner) → x ≡ Some (own o i) → slot_of F W q i ≡ None → lifted F W o q x ≡ Some (own q i)
  lifted_moves W o q i x h d =
      ap (lifted F W o q) h
      ∙ ap (λ b. cond b (cond (is_some (slot_of F W q i)) None (Some (own q i))) (Some (own o i))) (eq-eqb o o refl)
      ∙ ap (λ y. cond (is_some y) None (Some (own q i))) d

  lifted_back : (W : ℕ → Option Owner) (o q : ℕ) (x : Option Owner) (w : Owner) → lifted F W o q x ≡ Some w → ((x ≡ Some w) × (w.object ≡ o → ⊥)) ⊎ ((x ≡ Some (own o w.index)) × (w.object ≡ q) × (slot_of F W q w.index ≡ None))
  lifted_back W o q None w h = absurd (none-some _ h)
  lifted_back W o q (Some v) w h = at (eqb v.object o) (slot_of F W q v.index) refl refl h
    where
      at : (b : Bool) (y : Option ℕ) → eqb v.object o ≡ b → slot_of F W q v.index ≡ y → cond b (cond (is_some y) None (Some (own q v.index))) (Some v) ≡ Some w → ((Some v ≡ Some w) × (w.object ≡ o → ⊥)) ⊎ ((Some v ≡ Some (own o w.index)) × (w.object ≡ q) × (slot_of F W q w.index ≡ None))
      at false y e f k = inl (k, λ p. eqb-false v.object o e (same_object k ∙ p))
      at true (Some t) e f k = absurd (none-some _ k)
      at true None e f k =
          let i : v.index ≡ w.index = same_index k in
          inr (ap (λ y. Some (own y v.index)) (eqb-true v.object o e) ∙ ap (λ y. Some (own o y)) i, sym (same_object k), ap (slot_of F W q) (sym i) ∙ f)

  module _ (B B₁ B' : ℕ → Backing) (W W' : ℕ → Option Owner) (T : ℕ → Option ℕ) (o q : ℕ) (one : weight N M B T o ≡ 1) (shadow : B q ≡ Shadow o) (put : Put B B₁ o Free) (puts : Put B₁ B' q (B o)) (lifts : (s : ℕ) → W' s ≡ lifted F W o q (W s)) (F₀ : Formed N M F B W T) where
    upper_live : live (B q) ≡ true
    upper_live = ap live shadow

    lower_chain : (n : ℕ) × Chain B o n
    lower_chain = let c = F₀.chained q upper_live in let x = chain_next c.1 shadow in (x.0, x.1)

    lower_live : live (B o) ≡ true
    lower_live = chain_live lower_chain.1

    itself : B o ≡ Shadow o → ⊥
    itself h = not_itself lower_chain.1 h

    two : q ≡ o → ⊥
    two e = itself (ap B (sym e) ∙ shadow)

    only : (a : ℕ) → B a ≡ Shadow o → a ≡ q
    only a h = single_shadow B T F₀.objects F₀.records a q o (omega (arith, one)) h shadow

    taken : B' q ≡ B o
    taken = puts.here

    gone : B' o ≡ Free
    gone = puts.elsewhere o (λ e. two (sym e)) ∙ put.here

    same : (a : ℕ) → (a ≡ o → ⊥) → (a ≡ q → ⊥) → B' a ≡ B a
    same a d f = puts.elsewhere a f ∙ put.elsewhere a d

    top_apart : (r a : ℕ) → T r ≡ Some a → a ≡ o → ⊥
    top_apart r a h e = single_name B T F₀.objects F₀.records r o (omega (arith, one)) (h ∙ ap Some e)

    kept_live : (a : ℕ) → live (B a) ≡ true → (a ≡ o → ⊥) → live (B' a) ≡ true
    kept_live a l d =
        elim (cases_eq a q) [ inl e ↦ ap live (ap B' e ∙ taken) ∙ lower_live | inr f ↦ ap live (same a d f) ∙ l ]

    pub live_kept : (a : ℕ) → live (B' a) ≡ true → (live (B a) ≡ true) × (a ≡ o → ⊥)
    live_kept a l =
        let d : a ≡ o → ⊥ = λ e. free_live (B' a) (ap B' e ∙ gone) l in
        (elim (cases_eq a q) [ inl e ↦ ap (λ x. live (B x)) e ∙ upper_live | inr f ↦ ap live (sym (same a d f)) ∙ l ], d)

    back : (s : ℕ) (w : Owner) → W' s ≡ Some w → ((W s ≡ Some w) × (w.object ≡ o → ⊥)) ⊎ ((W s ≡ Some (own o w.index)) × (w.object ≡ q) × (slot_of F W q w.index ≡ None))
    back s w h = lifted_back W o q (W s) w (sym (lifts s) ∙ h)

    unheld : (i : ℕ) → slot_of F W q i ≡ None → Bare W q i
    unheld i h = none_bare F W F₀.frames q i h

    pub collapsed_thins : Thins W W'
    collapsed_thins s w h = elim (back s w h) [ inl x ↦ (w, x.0, refl) | inr x ↦ (own o w.index, x.0, refl) ]

    pub collapsed_keeps : Keeps B W B' W' T
    collapsed_keeps r a i n e h w =
        (walk_collapses B B' o q shadow only taken same itself W W' i
        (λ b s d g. lifts s ∙ lifted_other W o q (W s) (own b i) g d)
        (λ s g b. lifts s ∙ lifted_moves W o q i (W s) g (bare_none F W q i b))
        (λ b d f z t g. elim (back t (own b i) g) [ inl x ↦ z t x.0 | inr x ↦ f x.1 ])
        (λ y z t g. elim (back t (own q i) g) [ inl x ↦ y t x.0 | inr x ↦ z t x.0 ])
        w).0 (top_apart r a h)

    pub collapsed : Formed N M F B' W' T
    collapsed = record {
      objects = λ a l.
          let b : o < N = live_below N B F₀.objects o lower_live in
          let c : q < N = live_below N B F₀.objects q upper_live in
          same a (λ e. omega arith) (λ e. omega arith) ∙ F₀.objects a l;
      records = F₀.records;
      frames = λ s l. lifts s ∙ ap (lifted F W o q) (F₀.frames s l);
      tops = λ r a h. kept_live a (F₀.tops r a h) (top_apart r a h);
      chained = λ a l.
          let x = live_kept a l in
          let c = F₀.chained a x.0 in
          (chain_collapses B B' o q shadow only taken same itself c.1).0 x.1;
      owners = λ s w h. elim (back s w h) [
        | inl x ↦ kept_live w.object (F₀.owners s w x.0) x.1
        | inr x ↦ ap (λ y. live (B' y)) x.1 ∙ kept_live q upper_live two
      ];
      apart = λ s t w h g. elim (back s w h) [
        | inl x ↦ elim (back t w g) [
          | inl y ↦ F₀.apart s t w x.0 y.0
          | inr y ↦ absurd (unheld w.index y.2 s (x.0 ∙ ap (λ z. Some (own z w.index)) y.1))
        ]
        | inr x ↦ elim (back t w g) [
          | inl y ↦ absurd (unheld w.index x.2 t (y.0 ∙ ap (λ z. Some (own z w.index)) x.1))
          | inr y ↦ F₀.apart s t (own o w.index) x.0 y.0
        ]
      ];
    }

    -- no other weight changes
    pub collapsed_weight : (a : ℕ) → (a ≡ o → ⊥) → weight N M B' T a ≡ weight N M B T a
    collapsed_weight a d =
        let b : o < N = live_below N B F₀.objects o lower_live in
        let c : q < N = live_below N B F₀.objects q upper_live in
        let u : bit (is_shadowing a (B₁ q)) ≡ bit (eqb o a) = ap (λ y. bit (is_shadowing a y)) (put.elsewhere q two ∙ shadow) in
        omega (arith, u, bit_other o a (λ e. d (sym e)), shadows_put N B B₁ o Free put b a, shadows_put N B₁ B' q (B o) puts c a)

    pub collapse_settles : ((a : ℕ) → live (B a) ≡ true → (a ≡ o → ⊥) → 2 ≤ weight N M B T a) → Settles N M F B B' W W' T
    collapse_settles others = record {
      sound = record {
        formed = collapsed;
        settled = λ a l. let x = live_kept a l in omega (arith, others a x.0 x.1, collapsed_weight a x.1);
      };
      keeps = collapsed_keeps;
      thins = collapsed_thins;
    }

  -- one change after another
  pub then_settles : (B B₁ B' : ℕ → Backing) (W W₁ W' : ℕ → Option Owner) (T : ℕ → Option ℕ) → Keeps B W B₁ W₁ T → Thins W W₁ → Settles N M F B₁ B' W₁ W' T → Settles N M F B B' W W' T
  then_settles B B₁ B' W W₁ W' T keeps thins S = record {
    sound = S.sound;
    keeps = λ r o i n e t w. let x = keeps r o i n e t w in S.keeps r o i x.0 e t x.1;
    thins = λ s w g. let x = S.thins s w g in let y = thins s x.0 x.1 in (y.0, y.1, y.2 ∙ x.2);
  }

  -- a freed root leaves all settled, a freed shadow all but what it shadowed
  module _ (B B' : ℕ → Backing) (W W' : ℕ → Option Owner) (T : ℕ → Option ℕ) (o : ℕ) (inside : o < N) (none : weight N M B T o ≡ 0) (put : Put B B' o Free) (drops : (s : ℕ) → W' s ≡ dropped o (W s)) (F₀ : Formed N M F B W T) (others : (a : ℕ) → live (B a) ≡ true → (a ≡ o → ⊥) → 2 ≤ weight N M B T a) where
    pub root_settles : (g : Origin) → B o ≡ Root g → Settles N M F B B' W W' T
    root_settles g h = record {
      sound = record {
        formed = freed B B' W W' T o inside none put drops F₀;
        settled = λ a l.
            let x = live_freed B B' W W' T o inside none put drops F₀ a l in
            let u : bit (is_shadowing a (B o)) ≡ 0 = ap (λ y. bit (is_shadowing a y)) h in
            omega (arith, others a x.0 x.1, u, freed_weight B B' W W' T o inside none put drops F₀ a);
      };
      keeps = freed_keeps B B' W W' T o inside none put drops F₀;
      thins = freed_thins B B' W W' T o inside none put drops F₀;
    }

    pub shadow_nearly : (p : ℕ) → B o ≡ Shadow p → Nearly N M B' T p
    shadow_nearly p h = (
      λ a l d.
          let x = live_freed B B' W W' T o inside none put drops F₀ a l in
          let u : bit (is_shadowing a (B o)) ≡ bit (eqb p a) = ap (λ y. bit (is_shadowing a y)) h in
          omega (arith, others a x.0 x.1, u, bit_other p a (λ e. d (sym e)), freed_weight B B' W W' T o inside none put drops F₀ a),
      let c = F₀.chained o (ap live h) in
          let n = chain_next c.1 h in
          let d : p ≡ o → ⊥ = λ e. not_itself c.1 (h ∙ ap Shadow e) in
          let u : bit (is_shadowing p (B o)) ≡ bit (eqb p p) = ap (λ y. bit (is_shadowing p y)) h in
          omega (arith, others p (chain_live n.1) d, u, bit_same p p refl, freed_weight B B' W W' T o inside none put drops F₀ p),
    )
