-- How weights change with one row, and their sums.
use Rattle.std.proofs.Common.{◌≡◌, ℕ, ◌+◌, ◌<◌, ◌≤◌, Bool, true, false, eqb, is_some, Some, None, Option, sym, refl, ap, ◌∙◌, subst, arith}
use Rattle.std.proofs.lemmas.Bool.{eqb-true, eq-eqb, ne_eqb}
use Rattle.chains.specs.declared.Backing.{Backing}
use Rattle.chains.specs.declared.Backing.TheVariants.{Free, Root, Shadow}
use Rattle.chains.specs.Rows.{live, is_shadowing, is_naming, sum_to, bit, count}
use Rattle.chains.specs.Sound.{Put}
use Rattle.chains.proofs.Sums.{bit_le, sum_le, sum_zero, sum_one, sum_swap, sum_change}

pub bit_true : (b : Bool) → b ≡ true → bit b ≡ 1
bit_true b h = ap bit h

pub bit_false : (b : Bool) → b ≡ false → bit b ≡ 0
bit_false b h = ap bit h

pub true_bit : (b : Bool) → 1 ≤ bit b → b ≡ true
true_bit true h = refl
true_bit false h = absurd (omega arith)

pub bit_same : (a b : ℕ) → a ≡ b → bit (eqb a b) ≡ 1
bit_same a b h = ap bit (eq-eqb a b h)

pub bit_other : (a b : ℕ) → (a ≡ b → ⊥) → bit (eqb a b) ≡ 0
bit_other a b h = ap bit (ne_eqb a b h)

-- one row is changed
pub names_put : (M : ℕ) (T T' : ℕ → Option ℕ) (r : ℕ) (x : Option ℕ) → Put T T' r x → r < M → (o : ℕ) → count M (λ k. is_naming o (T' k)) + bit (is_naming o (T r)) ≡ count M (λ k. is_naming o (T k)) + bit (is_naming o x)
names_put M T T' r x put l o =
    sum_change M (λ k. bit (is_naming o (T k))) (λ k. bit (is_naming o (T' k))) r l (λ j d. ap (λ y. bit (is_naming o y)) (put.elsewhere j d))
    ∙ ap (λ y. count M (λ k. is_naming o (T k)) + bit (is_naming o y)) put.here

pub shadows_put : (N : ℕ) (B B' : ℕ → Backing) (p : ℕ) (x : Backing) → Put B B' p x → p < N → (o : ℕ) → count N (λ k. is_shadowing o (B' k)) + bit (is_shadowing o (B p)) ≡ count N (λ k. is_shadowing o (B k)) + bit (is_shadowing o x)
shadows_put N B B' p x put l o =
    sum_change N (λ k. bit (is_shadowing o (B k))) (λ k. bit (is_shadowing o (B' k))) p l (λ j d. ap (λ y. bit (is_shadowing o y)) (put.elsewhere j d))
    ∙ ap (λ y. count N (λ k. is_shadowing o (B k)) + bit (is_shadowing o y)) put.here

-- a row counts at most once among all objects
pub one_name : (N : ℕ) (x : Option ℕ) → sum_to N (λ o. bit (is_naming o x)) ≤ bit (is_some x)
one_name N None = omega (arith, sum_zero N (λ o. 0) (λ k l. refl))
one_name N (Some p) =
    sum_one N (λ o. bit (eqb p o)) (λ k l. bit_le (eqb p k))
    (λ j k l m a b. sym (eqb-true p j (true_bit _ (omega (arith, a)))) ∙ eqb-true p k (true_bit _ (omega (arith, b))))

-- the row is a shadow
abbrev pub is_shadow_row : Backing → Bool
is_shadow_row Free = false
is_shadow_row (Root g) = false
is_shadow_row (Shadow p) = true

pub one_shadow : (N : ℕ) (b : Backing) → sum_to N (λ o. bit (is_shadowing o b)) ≤ bit (is_shadow_row b)
one_shadow N Free = omega (arith, sum_zero N (λ o. 0) (λ k l. refl))
one_shadow N (Root g) = omega (arith, sum_zero N (λ o. 0) (λ k l. refl))
one_shadow N (Shadow p) =
    sum_one N (λ o. bit (eqb p o)) (λ k l. bit_le (eqb p k))
    (λ j k l m a b. sym (eqb-true p j (true_bit _ (omega (arith, a)))) ∙ eqb-true p k (true_bit _ (omega (arith, b))))

pub names_sum : (N M : ℕ) (T : ℕ → Option ℕ) → sum_to N (λ o. count M (λ r. is_naming o (T r))) ≤ count M (λ r. is_some (T r))
names_sum N M T =
    subst (λ x. x ≤ count M (λ r. is_some (T r))) (sym (sum_swap N M (λ o r. bit (is_naming o (T r)))))
    (sum_le M (λ r. sum_to N (λ o. bit (is_naming o (T r)))) (λ r. bit (is_some (T r))) (λ r l. one_name N (T r)))

pub shadows_sum : (N : ℕ) (B : ℕ → Backing) → sum_to N (λ o. count N (λ p. is_shadowing o (B p))) ≤ count N (λ p. is_shadow_row (B p))
shadows_sum N B =
    subst (λ x. x ≤ count N (λ p. is_shadow_row (B p))) (sym (sum_swap N N (λ o p. bit (is_shadowing o (B p)))))
    (sum_le N (λ p. sum_to N (λ o. bit (is_shadowing o (B p)))) (λ p. bit (is_shadow_row (B p))) (λ p l. one_shadow N (B p)))

pub shadow_live : (b : Backing) → bit (is_shadow_row b) ≤ bit (live b)
shadow_live Free = omega arith
shadow_live (Root g) = omega arith
shadow_live (Shadow p) = omega arith

-- what shadows o is a shadow of o
pub shadows_true : (o : ℕ) (b : Backing) → is_shadowing o b ≡ true → b ≡ Shadow o
shadows_true o Free h = cc
shadows_true o (Root g) h = cc
shadows_true o (Shadow p) h = ap Shadow (eqb-true p o h)

pub names_true : (o : ℕ) (x : Option ℕ) → is_naming o x ≡ true → x ≡ Some o
names_true o None h = cc
names_true o (Some p) h = ap Some (eqb-true p o h)
