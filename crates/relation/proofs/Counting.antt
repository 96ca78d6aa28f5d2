-- How many different numbers a list has, as a count over places.
use Rattle.std.proofs.Common.{◌≡◌, ℕ, zero, suc, ◌+◌, ◌<◌, ◌≤◌, Bool, true, false, cond, ◌⊎◌, List, [], ◌∷◌, length, sym, refl, ap, ◌∙◌, subst, inl, inr, arith}
use Rattle.std.proofs.lemmas.Bool.{cases_eq}
use Rattle.machine.specs.State.{distinct}
use Rattle.chains.specs.Rows.{sum_to, bit, count}
use Rattle.relation.proofs.Lists.{Among, Once, distinct_among, among_distinct, distinct_once, once_le}

-- the marks of the places below n that pass the test
abbrev marks_at : ℕ → (ℕ → Bool) → (ℕ → ℕ) → List ℕ
marks_at zero p mark = []
marks_at (suc n) p mark = cond (p n) (mark n ∷ marks_at n p mark) (marks_at n p mark)

length_marks : (n : ℕ) (p : ℕ → Bool) (mark : ℕ → ℕ) → length (marks_at n p mark) ≡ count n p
unfolding sum_to
length_marks zero p mark = refl
length_marks (suc n) p mark = go (length_marks n p mark) (p n)
  where
    go : length (marks_at n p mark) ≡ count n p → (b : Bool) → length (cond b (mark n ∷ marks_at n p mark) (marks_at n p mark)) ≡ sum_to n (λ k. bit (p k)) + bit b
    go h true = omega arith
    go h false = omega arith

marks_among : (n : ℕ) (p : ℕ → Bool) (mark : ℕ → ℕ) (k : ℕ) → k < n → p k ≡ true → Among (mark k) (marks_at n p mark)
marks_among zero p mark k l h = absurd (omega arith)
marks_among (suc n) p mark k l h = go (λ m. marks_among n p mark k m h) (p n) refl (cases_eq k n)
  where
    go : (k < n → Among (mark k) (marks_at n p mark)) → (b : Bool) → p n ≡ b → (k ≡ n) ⊎ (k ≡ n → ⊥) → Among (mark k) (cond b (mark n ∷ marks_at n p mark) (marks_at n p mark))
    go on true e (inl q) = inl (ap mark q)
    go on true e (inr ne) = inr (on (omega arith))
    go on false e (inl q) = absurd (let z : ◌≡◌ {A = Bool} true false = sym h ∙ ap p q ∙ e in let w : ◌≡◌ {A = ℕ} 0 1 = cc in omega arith)
    go on false e (inr ne) = on (omega arith)

among_marks : (n : ℕ) (p : ℕ → Bool) (mark : ℕ → ℕ) (x : ℕ) → Among x (marks_at n p mark) → (k : ℕ) × (k < n) × (p k ≡ true) × (x ≡ mark k)
among_marks zero p mark x h = absurd h
among_marks (suc n) p mark x h = go (among_marks n p mark x) (p n) refl h
  where
    on : (k : ℕ) × (k < n) × (p k ≡ true) × (x ≡ mark k) → (k : ℕ) × (k < suc n) × (p k ≡ true) × (x ≡ mark k)
    on r = (r.0, (let l : r.0 < n = r.1 in omega arith), r.2, r.3)

    go : (Among x (marks_at n p mark) → (k : ℕ) × (k < n) × (p k ≡ true) × (x ≡ mark k)) → (b : Bool) → p n ≡ b → Among x (cond b (mark n ∷ marks_at n p mark) (marks_at n p mark)) → (k : ℕ) × (k < suc n) × (p k ≡ true) × (x ≡ mark k)
    go rest true e (inl q) = (n, omega arith, e, q)
    go rest true e (inr k) = on (rest k)
    go rest false e k = on (rest k)

marks_once : (n : ℕ) (p : ℕ → Bool) (mark : ℕ → ℕ) → ((j k : ℕ) → p j ≡ true → p k ≡ true → mark j ≡ mark k → j ≡ k) → Once (marks_at n p mark)
marks_once zero p mark single = tt
marks_once (suc n) p mark single = go (marks_once n p mark single) (p n) refl
  where
    go : Once (marks_at n p mark) → (b : Bool) → p n ≡ b → Once (cond b (mark n ∷ marks_at n p mark) (marks_at n p mark))
    go rest true e = (λ h. let r = among_marks n p mark (mark n) h in let same : n ≡ r.0 = single n r.0 e r.2 r.3 in let l : r.0 < n = r.1 in omega arith, rest)
    go rest false e = rest

-- the different numbers of a list whose numbers are the marks of the places that pass, each place its own
pub count_distinct : (xs : List ℕ) (n : ℕ) (p : ℕ → Bool) (mark : ℕ → ℕ) →
    ((j k : ℕ) → p j ≡ true → p k ≡ true → mark j ≡ mark k → j ≡ k) →
    ((x : ℕ) → Among x xs → (k : ℕ) × (k < n) × (p k ≡ true) × (x ≡ mark k)) →
    ((k : ℕ) → k < n → p k ≡ true → Among (mark k) xs) →
    length (distinct xs) ≡ count n p
count_distinct xs n p mark single into onto =
    let up : length (distinct xs) ≤ length (marks_at n p mark) =
    once_le (distinct xs) (marks_at n p mark) (distinct_once xs)
    (λ x h. let r = into x (among_distinct x xs h) in subst (λ y. Among y (marks_at n p mark)) (sym r.3) (marks_among n p mark r.0 r.1 r.2)) in
    let down : length (marks_at n p mark) ≤ length (distinct xs) =
    once_le (marks_at n p mark) (distinct xs) (marks_once n p mark single)
    (λ x h. let r = among_marks n p mark x h in distinct_among x xs (subst (λ y. Among y xs) (sym r.3) (onto r.0 r.1 r.2))) in
    let long : length (marks_at n p mark) ≡ count n p = length_marks n p mark in
    omega (arith, up, down, long)
