-- Closing records and freeing frames, one by one.
use Rattle.std.proofs.Common.{◌≡◌, ℕ, ◌+◌, ◌<◌, ◌≤◌, Bool, true, false, not, ◌&&◌, ◌||◌, leb, ◌⊎◌, List, length, get_or, is_some, Some, None, Option, sym, refl, ap, ◌∙◌, subst, inl, inr, arith}
use Rattle.std.proofs.Math.Bool.{or-false}
use Rattle.std.proofs.lemmas.Bool.{both_ways, cases_eq, cases_lt, eq-eqb, ne_eqb, le-leb, lt-leb, or_left}
use Rattle.chains.specs.declared.Owner.{Owner}
use Rattle.objects.specs.declared.tables.Tables.{Tables}
use Rattle.objects.specs.View.{in_use, is_held, walk_end, owner_of}
use Rattle.objects.specs.Says.{UsesLess, KeepsOthers, KeepsWithout, KeepsOwners, FreesOnly, index_of}
use Rattle.tasks.specs.Tables.{Place}
use Rattle.relation.specs.Living.{Living}
use Rattle.relation.specs.Stands.{tables_of, is_record_named}
use Rattle.relation.specs.Sweeps.{Swept, Reached, Cleared}
use Rattle.relation.proofs.Named.{living_named}

-- Records

-- what is kept while the records from r on have not been looked at
abbrev pub kept_from : (ℕ → Bool) → ℕ → ℕ → Bool
kept_from keep r k = keep k || leb r k

and_true : (b : Bool) → b ≡ (b && true)
and_true true = refl
and_true false = refl

or_true : (b : Bool) → (b || true) ≡ true
or_true true = refl
or_true false = refl

pub swept_none : (keep : ℕ → Bool) (t : Tables) → Swept (kept_from keep 0) t t
swept_none keep t = record {
  uses = λ k. and_true (in_use t k) ∙ ap (λ b. in_use t k && b) (sym (ap (λ b. keep k || b) (le-leb 0 k (omega arith)) ∙ or_true (keep k)));
  walks = λ k i a b. refl;
  frees = λ k h. h;
}

-- beside record r, what is kept is the same
kept_other : (keep : ℕ → Bool) (r k : ℕ) → (k ≡ r → ⊥) → kept_from keep r k ≡ kept_from keep (r + 1) k
kept_other keep r k ne = elim (cases_lt k r) [ inl l ↦ ap (λ b. keep k || b) (lt-leb r k l ∙ sym (lt-leb (r + 1) k (omega arith))) | inr l ↦ ap (λ b. keep k || b) (le-leb r k l ∙ sym (le-leb (r + 1) k (omega arith))) ]

kept_here : (keep : ℕ → Bool) (r : ℕ) → keep r ≡ true → kept_from keep r r ≡ kept_from keep (r + 1) r
kept_here keep r h = or_left (keep r) (leb r r) h ∙ sym (or_left (keep r) (leb (r + 1) r) h)

kept_same : (keep : ℕ → Bool) (r k : ℕ) → keep r ≡ true → kept_from keep r k ≡ kept_from keep (r + 1) k
kept_same keep r k h = elim (cases_eq k r) [ inl e ↦ subst (λ x. kept_from keep r x ≡ kept_from keep (r + 1) x) (sym e) (kept_here keep r h) | inr ne ↦ kept_other keep r k ne ]

-- a record that is kept
pub swept_kept : (keep : ℕ → Bool) (t a : Tables) (r : ℕ) → keep r ≡ true → Swept (kept_from keep r) t a → Swept (kept_from keep (r + 1)) t a
swept_kept keep t a r h s = record {
  uses = λ k. s.uses k ∙ ap (λ b. in_use t k && b) (kept_same keep r k h);
  walks = λ k i u q. s.walks k i u (kept_same keep r k h ∙ q);
  frees = s.frees;
}

frees_held : (t t' : Tables) (k : ℕ) → FreesOnly t t' → is_held t' k ≡ true → is_held t k ≡ true
frees_held t t' k f h = go (owner_of t' k) (owner_of t k) (f k) h
  where
    go : (x y : Option Owner) → (x ≡ None) ⊎ (index_of x ≡ index_of y) → is_some x ≡ true → is_some y ≡ true
    go x y (inl e) h = absurd (both_ways true (sym h ∙ ap is_some e) refl)
    go None y (inr e) h = absurd (both_ways false refl h)
    go (Some x) None (inr e) h = absurd (let z : ◌≡◌ {A = ℕ} 0 1 = cc in omega arith)
    go (Some x) (Some y) (inr e) h = refl

-- a record that is closed
pub swept_closed : (keep : ℕ → Bool) (t a b : Tables) (r : ℕ) → keep r ≡ false → Swept (kept_from keep r) t a → UsesLess a b r → KeepsOthers a b r → FreesOnly a b → Swept (kept_from keep (r + 1)) t b
swept_closed keep t a b r h s less others frees = record {
  uses = λ k. elim (cases_eq k r) [ inl e ↦ at_r k e | inr ne ↦ off_r k ne ];
  walks = λ k i u q. elim (cases_eq k r) [ inl e ↦ absurd (both_ways (kept_from keep (r + 1) k) (gone k e) q) | inr ne ↦ others k i (s.uses k ∙ ap (λ x. x && kept_from keep r k) u ∙ kept_other keep r k ne ∙ q) ne ∙ s.walks k i u (kept_other keep r k ne ∙ q) ];
  frees = λ k held. s.frees k (frees_held a b k frees held);
}
  where
    gone : (k : ℕ) → k ≡ r → kept_from keep (r + 1) k ≡ false
    gone k e = ap (λ x. x || leb (r + 1) k) (ap keep e ∙ h) ∙ lt-leb (r + 1) k (omega arith)

    and_false : (x : Bool) → (x && false) ≡ false
    and_false true = refl
    and_false false = refl

    at_r : (k : ℕ) → k ≡ r → in_use b k ≡ (in_use t k && kept_from keep (r + 1) k)
    at_r k e = less k ∙ ap (λ x. in_use a k && not x) (eq-eqb k r e) ∙ and_false (in_use a k) ∙ sym (ap (λ x. in_use t k && x) (gone k e) ∙ and_false (in_use t k))

    off_r : (k : ℕ) → (k ≡ r → ⊥) → in_use b k ≡ (in_use t k && kept_from keep (r + 1) k)
    off_r k ne = less k ∙ ap (λ x. in_use a k && not x) (ne_eqb k r ne) ∙ sym (and_true (in_use a k)) ∙ s.uses k ∙ ap (λ x. in_use t k && x) (kept_other keep r k ne)

-- all records have been looked at
pub swept_all : (keep : ℕ → Bool) (t a : Tables) → ((k : ℕ) → 256 ≤ k → in_use t k ≡ false) → Swept (kept_from keep 256) t a → Swept keep t a
swept_all keep t a few s = record {
  uses = λ k. elim (cases_lt k 256) [ inl l ↦ s.uses k ∙ ap (λ b. in_use t k && b) (low k l) | inr l ↦ s.uses k ∙ ap (λ b. b && kept_from keep 256 k) (few k l) ∙ sym (ap (λ b. b && keep k) (few k l)) ];
  walks = λ k i u q. s.walks k i u (or_left (keep k) (leb 256 k) q);
  frees = s.frees;
}
  where
    low : (k : ℕ) → k < 256 → kept_from keep 256 k ≡ keep k
    low k l = ap (λ b. keep k || b) (lt-leb 256 k l) ∙ or-false (keep k)

-- Frames

-- the frames below j have been looked at
pub record Clearing (tasks : List Place) (t a : Tables) (j : ℕ) : Type 0 where
  pub uses : (r : ℕ) → in_use a r ≡ in_use t r
  pub walks : (r i : ℕ) → Living (tables_of tasks) r i → walk_end a r i ≡ walk_end t r i
  pub frees : (k : ℕ) → is_held a k ≡ true → is_held t k ≡ true
  pub reached : (k : ℕ) → k < j → is_held a k ≡ true → Reached tasks a k

pub clearing_none : (tasks : List Place) (t : Tables) → Clearing tasks t t 0
clearing_none tasks t = record { uses = λ r. refl; walks = λ r i l. refl; frees = λ k h. h; reached = λ k l h. absurd (omega arith) }

pub clearing_reached : (tasks : List Place) (t a : Tables) (j : ℕ) → Reached tasks a j → Clearing tasks t a j → Clearing tasks t a (j + 1)
clearing_reached tasks t a j r c = record {
  uses = c.uses;
  walks = c.walks;
  frees = c.frees;
  reached = λ k l h. elim (cases_eq k j) [ inl e ↦ subst (Reached tasks a) (sym e) r | inr ne ↦ c.reached k (omega arith) h ];
}

pub clearing_freed : (tasks : List Place) (t a b : Tables) (j : ℕ) → length tasks ≡ 16 → ((r : ℕ) → is_record_named r tasks ≡ true → in_use t r ≡ true) → (Reached tasks a j → ⊥) → Clearing tasks t a j →
    b.records ≡ a.records → owner_of b j ≡ None → KeepsOwners a b j → KeepsWithout a b j → Clearing tasks t b (j + 1)
clearing_freed tasks t a b j len used none c records free owners without = record {
  uses = λ r. ap (λ (rs : List (Option ℕ)). is_some (get_or rs r None)) records ∙ c.uses r;
  walks = λ r i l. same r i l ∙ c.walks r i l;
  frees = λ k h. elim (cases_eq k j) [ inl e ↦ absurd (gone k e h) | inr ne ↦ c.frees k (ap is_some (sym (owners k ne)) ∙ h) ];
  reached = λ k l h. elim (cases_eq k j) [ inl e ↦ absurd (gone k e h) | inr ne ↦ on k (c.reached k (omega arith) (ap is_some (sym (owners k ne)) ∙ h)) ];
}
  where
    same : (r i : ℕ) → Living (tables_of tasks) r i → walk_end b r i ≡ walk_end a r i
    same r i l = without r i (c.uses r ∙ used r (living_named tasks len r i l)) (λ e. none (record { sharing = r; index = i; lives = l; ends = e }))

    gone : (k : ℕ) → k ≡ j → is_held b k ≡ true → ⊥
    gone k e h = both_ways true (sym h ∙ ap (is_held b) e ∙ ap is_some free) refl

    on : (k : ℕ) → Reached tasks a k → Reached tasks b k
    on k r = record { sharing = r.sharing; index = r.index; lives = r.lives; ends = same r.sharing r.index r.lives ∙ r.ends }

pub cleared_all : (tasks : List Place) (t a : Tables) → ((k : ℕ) → 128 ≤ k → is_held a k ≡ false) → Clearing tasks t a 128 → Cleared tasks t a
cleared_all tasks t a few c = record {
  uses = c.uses;
  walks = c.walks;
  frees = c.frees;
  reached = λ k h. elim (cases_lt k 128) [ inl l ↦ c.reached k l h | inr l ↦ absurd (both_ways (is_held a k) (few k l) h) ];
}
