-- How many objects there are, and how long a chain is.
use Rattle.std.proofs.Common.{◌≡◌, ℕ, zero, suc, ◌+◌, ◌*◌, ◌<◌, ◌≤◌, Bool, true, false, cond, ◌||◌, eqb, ◌⊎◌, is_some, Option, sym, refl, ap, ◌∙◌, subst, inl, inr, arith}
use Rattle.std.proofs.lemmas.Bool.{cases_eq, cases_Bool, eqb-true, eq-eqb, ne_eqb, or_cases, both_ways}
use Rattle.chains.specs.declared.Origin.{Origin}
use Rattle.chains.specs.declared.Backing.{Backing}
use Rattle.chains.specs.declared.Backing.TheVariants.{Free, Root, Shadow}
use Rattle.chains.specs.Rows.{live, is_shadowing, is_naming, sum_to, bit, count, weight}
use Rattle.chains.specs.Walks.{Chain, root, on}
use Rattle.chains.specs.Sound.{Settled}
use Rattle.chains.proofs.Sums.{bit_le, sum_le, sum_same, sum_add, sum_zero, sum_one, sum_swap, sum_change, term_le}
use Rattle.chains.proofs.Chains.{live_below, chain_live, chain_next, chain_same}
use Rattle.chains.proofs.Weights.{bit_true, bit_false, true_bit, bit_same, bit_other, names_sum, shadows_sum, is_shadow_row, shadow_live, one_shadow, shadows_true}

-- sums of the weights, once by object and once by reference
pub weight_sum : (N M : ℕ) (B : ℕ → Backing) (T : ℕ → Option ℕ) → sum_to N (weight N M B T) ≤ 2 * count M (λ r. is_some (T r)) + count N (λ p. is_shadow_row (B p))
weight_sum N M B T =
    let a = λ (o : ℕ). count M (λ r. is_naming o (T r)) in
    let b = λ (o : ℕ). count N (λ p. is_shadowing o (B p)) in
    let e : sum_to N (weight N M B T) ≡ sum_to N (λ o. (a o + a o) + b o) = sum_same N _ _ (λ k l. omega arith) in
    omega (arith, e, sum_add N (λ o. a o + a o) b, sum_add N a a, names_sum N M T, shadows_sum N B)

pub shadows_live : (N : ℕ) (B : ℕ → Backing) → count N (λ p. is_shadow_row (B p)) ≤ count N (λ p. live (B p))
shadows_live N B = sum_le N _ _ (λ k l. shadow_live (B k))

-- a chain ends at a root
pub chain_root : {B : ℕ → Backing} {o n : ℕ} → Chain B o n → (z : ℕ) × (g : Origin) × (B z ≡ Root g)
chain_root (root {o = o} {g = g} h) = (o, g, h)
chain_root (on h c) = chain_root c

module _ (N M : ℕ) (B : ℕ → Backing) (T : ℕ → Option ℕ) (few : (o : ℕ) → N ≤ o → B o ≡ Free) (settled : Settled N M B T) where
  live_weight : (o : ℕ) → 2 * bit (live (B o)) ≤ weight N M B T o
  live_weight o = elim (cases_Bool (live (B o))) [ inl t ↦ omega (arith, settled o t, bit_true _ t) | inr f ↦ omega (arith, bit_false _ f) ]

  doubled : sum_to N (λ o. bit (live (B o)) + bit (live (B o))) ≡ 2 * count N (λ o. live (B o))
  doubled = let q = sum_add N (λ o. bit (live (B o))) (λ o. bit (live (B o))) in omega (arith, q)

  -- live objects are at most twice the records
  pub objects_few : count N (λ o. live (B o)) ≤ 2 * count M (λ r. is_some (T r))
  objects_few =
      let q : sum_to N (λ o. bit (live (B o)) + bit (live (B o))) ≤ sum_to N (weight N M B T) = sum_le N _ _ (λ k l. omega (arith, live_weight k)) in
      omega (arith, q, doubled, weight_sum N M B T, shadows_live N B)

  -- and less by two where one has more references than it needs
  pub objects_fewer : (x n : ℕ) → Chain B x n → 3 ≤ weight N M B T x → count N (λ o. live (B o)) + 2 ≤ 2 * count M (λ r. is_some (T r))
  objects_fewer x n c h =
      let f = λ (o : ℕ). bit (live (B o)) + bit (live (B o)) in
      let q : sum_to N (λ o. f o + bit (eqb o x)) ≤ sum_to N (weight N M B T) =
      sum_le N _ _ (λ k l. elim (cases_eq k x) [ inl e ↦ omega (arith, bit_le (live (B k)), bit_le (eqb k x), ap (weight N M B T) e, h) | inr d ↦ omega (arith, live_weight k, bit_other k x d) ])
      in
      let one : 1 ≤ sum_to N (λ o. bit (eqb o x)) = omega (arith, term_le N (λ o. bit (eqb o x)) x (live_below N B few x (chain_live c)), bit_same x x refl) in
      let z = chain_root c in
      let zl : live (B z.0) ≡ true = ap live z.2 in
      let zs : is_shadow_row (B z.0) ≡ false = ap is_shadow_row z.2 in
      let r : sum_to N (λ o. bit (is_shadow_row (B o)) + bit (eqb o z.0)) ≤ count N (λ o. live (B o)) =
      sum_le N _ _ (λ k l. elim (cases_eq k z.0) [ inl e ↦ omega (arith, bit_same k z.0 e, ap (λ y. bit (live (B y))) e, bit_true _ zl, ap (λ y. bit (is_shadow_row (B y))) e, bit_false _ zs) | inr d ↦ omega (arith, bit_other k z.0 d, shadow_live (B k)) ])
      in
      let two : 1 ≤ sum_to N (λ o. bit (eqb o z.0)) = omega (arith, term_le N (λ o. bit (eqb o z.0)) z.0 (live_below N B few z.0 zl), bit_same z.0 z.0 refl) in
      omega (arith, q, doubled, one, two, r, weight_sum N M B T, sum_add N f (λ o. bit (eqb o x)), sum_add N (λ o. bit (is_shadow_row (B o))) (λ o. bit (eqb o z.0)))

-- which objects a chain of n objects from s on has
unfoldable pub passes : ℕ → (ℕ → Backing) → ℕ → ℕ → Bool
passes zero B s o = false
passes (suc n) B s o = eqb s o || elim (B s) [ Free ↦ false | Root g ↦ false | Shadow p ↦ passes n B p o ]

one_more : (N s : ℕ) (q : ℕ → Bool) → s < N → q s ≡ false → count N (λ o. eqb s o || q o) ≡ suc (count N q)
one_more N s q l f =
    let here : bit (eqb s s || q s) ≡ 1 = ap (λ b. bit (b || q s)) (eq-eqb s s refl) in
    omega (arith, here, bit_false _ f, sum_change N (λ o. bit (q o)) (λ o. bit (eqb s o || q o)) s l (λ j d. ap (λ b. bit (b || q j)) (ne_eqb s j (λ e. d (sym e)))))

module _ (B : ℕ → Backing) where
  passes_end : (s o : ℕ) {g : Origin} → B s ≡ Root g → passes 1 B s o ≡ (eqb s o || false)
  unfolding passes
  passes_end s o h = ap (λ b. eqb s o || elim b [ Free ↦ false | Root g ↦ false | Shadow p ↦ passes 0 B p o ]) h

  passes_root : (s o : ℕ) {g : Origin} → B s ≡ Root g → passes 1 B s o ≡ true → s ≡ o
  passes_root s o h t =
      elim (or_cases (eqb s o) false (sym (passes_end s o h) ∙ t)) [ inl e ↦ eqb-true s o e | inr f ↦ absurd (both_ways false refl f) ]

  passes_on : (n s o p : ℕ) → B s ≡ Shadow p → passes (suc n) B s o ≡ (eqb s o || passes n B p o)
  unfolding passes
  passes_on n s o p h = ap (λ b. eqb s o || elim b [ Free ↦ false | Root g ↦ false | Shadow p ↦ passes n B p o ]) h

  passes_cases : (n s o p : ℕ) → B s ≡ Shadow p → passes (suc n) B s o ≡ true → (s ≡ o) ⊎ (passes n B p o ≡ true)
  passes_cases n s o p h t =
      elim (or_cases (eqb s o) (passes n B p o) (sym (passes_on n s o p h) ∙ t)) [ inl e ↦ inl (eqb-true s o e) | inr f ↦ inr f ]

  pub passes_chain : {s n : ℕ} → Chain B s n → (o : ℕ) → passes n B s o ≡ true → (k : ℕ) × Chain B o k × (k ≤ n)
  passes_chain {s} (root h) o t = (1, subst (λ x. Chain B x 1) (passes_root s o h t) (root h), omega arith)
  passes_chain {s} (on {p = p} {n = n} h c) o t =
      elim (passes_cases n s o p h t) [
        | inl e ↦ (suc n, subst (λ x. Chain B x (suc n)) e (on h c), omega arith)
        | inr f ↦ let x = passes_chain c o f in (x.0, x.1, omega (arith, x.2))
      ]

  -- two objects of a chain that are as far from its end are one
  pub passes_one : {s n : ℕ} → Chain B s n → (a b k : ℕ) → passes n B s a ≡ true → passes n B s b ≡ true → Chain B a k → Chain B b k → a ≡ b
  passes_one {s} (root h) a b k t u ca cb = sym (passes_root s a h t) ∙ passes_root s b h u
  passes_one {s} (on {p = p} {n = n} h c) a b k t u ca cb =
      elim (passes_cases n s a p h t) [
        | inl e ↦ elim (passes_cases n s b p h u) [
          | inl f ↦ sym e ∙ f
          | inr f ↦ let x = passes_chain c b f in absurd (omega (arith, x.2, chain_same x.1 cb, chain_same ca (subst (λ y. Chain B y (suc n)) e (on h c))))
        ]
        | inr e ↦ elim (passes_cases n s b p h u) [
          | inl f ↦ let x = passes_chain c a e in absurd (omega (arith, x.2, chain_same x.1 ca, chain_same cb (subst (λ y. Chain B y (suc n)) f (on h c))))
          | inr f ↦ passes_one c a b k e f ca cb
        ]
      ]

  passes_not : {p n : ℕ} → Chain B p n → (s : ℕ) → B s ≡ Shadow p → passes n B p s ≡ false
  passes_not {p} {n} c s h =
      elim (cases_Bool (passes n B p s)) [
        | inl t ↦ let x = passes_chain c s t in absurd (omega (arith, x.2, chain_same x.1 (on h c)))
        | inr f ↦ f
      ]

  -- a chain of n objects has n objects
  pub passes_count : {s n : ℕ} → Chain B s n → (N : ℕ) → ((o : ℕ) → live (B o) ≡ true → o < N) → count N (passes n B s) ≡ n
  passes_count {s} (root h) N below =
      sum_same N _ _ (λ o l. ap bit (passes_end s o h))
      ∙ one_more N s (λ o. false) (below s (ap live h)) refl
      ∙ ap suc (sum_zero N (λ o. 0) (λ k l. refl))
  passes_count {s} (on {p = p} {n = n} h c) N below =
      sum_same N _ _ (λ o l. ap bit (passes_on n s o p h))
      ∙ one_more N s (passes n B p) (below s (ap live h)) (passes_not c s h)
      ∙ ap suc (passes_count c N below)

-- no chain is longer than the number of records in use
module _ (N M : ℕ) (B : ℕ → Backing) (T : ℕ → Option ℕ) (few : (o : ℕ) → N ≤ o → B o ≡ Free) (settled : Settled N M B T) where
  module _ (s n : ℕ) (c : Chain B s n) where
    abbrev off_at : ℕ → ℕ → ℕ
    off_at o p = cond (passes n B s p) 0 (bit (is_shadowing o (B p)))

    abbrev on_at : ℕ → ℕ → ℕ
    on_at o p = cond (passes n B s p) (bit (is_shadowing o (B p))) 0

    abbrev off_live : ℕ → ℕ
    off_live p = cond (passes n B s p) 0 (bit (live (B p)))

    split_at : (o p : ℕ) → bit (is_shadowing o (B p)) ≡ on_at o p + off_at o p
    split_at o p = go (passes n B s p)
      where
        go : (b : Bool) → bit (is_shadowing o (B p)) ≡ cond b (bit (is_shadowing o (B p))) 0 + cond b 0 (bit (is_shadowing o (B p)))
        go true = omega arith
        go false = omega arith

    on_cases : (o p : ℕ) → on_at o p ≡ 1 → (passes n B s p ≡ true) × (B p ≡ Shadow o)
    on_cases o p h = go (passes n B s p) refl h
      where
        go : (b : Bool) → passes n B s p ≡ b → cond b (bit (is_shadowing o (B p))) 0 ≡ 1 → (passes n B s p ≡ true) × (B p ≡ Shadow o)
        go true e k = (e, shadows_true o (B p) (true_bit _ (omega (arith, k))))
        go false e k = absurd (omega (arith, k))

    on_le : (o p : ℕ) → on_at o p ≤ 1
    on_le o p = go (passes n B s p)
      where
        go : (b : Bool) → cond b (bit (is_shadowing o (B p))) 0 ≤ 1
        go true = bit_le _
        go false = omega arith

    -- one object of the chain at most shadows o
    on_one : (o : ℕ) → sum_to N (on_at o) ≤ 1
    on_one o =
        sum_one N (on_at o) (λ k l. on_le o k)
        (λ j k l m a b.
        let x = on_cases o j a in
        let y = on_cases o k b in
        let cj = passes_chain B c j x.0 in
        let ck = passes_chain B c k y.0 in
        let dj = chain_next cj.1 x.1 in
        let dk = chain_next ck.1 y.1 in
        let e : ck.0 ≡ cj.0 = omega (arith, chain_same dj.1 dk.1, dj.2, dk.2) in
        passes_one B c j k cj.0 x.0 y.0 cj.1 (subst (λ z. Chain B k z) e ck.1))

    -- each live object has a reference from off the chain
    off_some : (o : ℕ) → bit (live (B o)) ≤ count M (λ r. is_naming o (T r)) + sum_to N (off_at o)
    off_some o =
        elim (cases_Bool (live (B o))) [
          | inl t ↦ omega (arith, settled o t, bit_true _ t, on_one o, sum_same N (λ p. bit (is_shadowing o (B p))) (λ p. on_at o p + off_at o p) (λ k l. split_at o k), sum_add N (on_at o) (off_at o))
          | inr f ↦ omega (arith, bit_false _ f)
        ]

    off_column : (p : ℕ) → sum_to N (λ o. off_at o p) ≤ off_live p
    off_column p = go (passes n B s p)
      where
        go : (b : Bool) → sum_to N (λ o. cond b 0 (bit (is_shadowing o (B p)))) ≤ cond b 0 (bit (live (B p)))
        go true = omega (arith, sum_zero N (λ o. 0) (λ k l. refl))
        go false = omega (arith, one_shadow N (B p), shadow_live (B p))

    on_live : (p : ℕ) → off_live p + bit (passes n B s p) ≤ bit (live (B p))
    on_live p = go (passes n B s p) refl
      where
        go : (b : Bool) → passes n B s p ≡ b → cond b 0 (bit (live (B p))) + bit b ≤ bit (live (B p))
        go true e = omega (arith, bit_true _ (chain_live (passes_chain B c p e).1))
        go false e = omega arith

    pub chain_short : n ≤ count M (λ r. is_some (T r))
    chain_short =
        let live_all : count N (λ o. live (B o)) ≤ sum_to N (λ o. count M (λ r. is_naming o (T r)) + sum_to N (off_at o)) = sum_le N _ _ (λ o l. off_some o) in
        let offs : sum_to N (λ p. sum_to N (λ o. off_at o p)) ≤ sum_to N off_live = sum_le N _ _ (λ p l. off_column p) in
        let parts : sum_to N (λ p. off_live p + bit (passes n B s p)) ≤ count N (λ o. live (B o)) = sum_le N _ _ (λ p l. on_live p) in
        omega (arith, live_all, offs, parts, sum_add N (λ o. count M (λ r. is_naming o (T r))) (λ o. sum_to N (off_at o)), sum_swap N N off_at, sum_add N off_live (λ p. bit (passes n B s p)), names_sum N M T, passes_count B c N (live_below N B few))
