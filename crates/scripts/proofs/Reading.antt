-- The records of a script, one after another.
use Rattle.std.proofs.Common.{◌≡◌, ℕ, zero, suc, ◌+◌, ◌-◌, ◌<◌, ◌≤◌, false, cond, ltb, List, [], ◌∷◌, length, get_or, take, drop, refl, ap, ◌∙◌, arith, length-drop, Result}
use Rattle.std.specs.List.{IsSplitAt}
use Rattle.std.proofs.lemmas.List.{take_rest}
use Rattle.std.proofs.lemmas.Bool.{lt-ltb, le-ltb}
use Rattle.scripts.specs.Records.{cut_short, two, meant, reading, items, item_of, Reads}
use Rattle.scripts.specs.declared.reader.Command.{Command}
use Rattle.scripts.specs.declared.reader.BadRecord.{BadRecord}

-- steps enough are steps enough
fuel : (m n : ℕ) (s : List ℕ) → length s ≤ m → length s ≤ n → reading m s ≡ reading n s
unfolding reading
fuel zero zero s h k = refl
fuel zero (suc n) [] h k = refl
fuel zero (suc n) (a ∷ s) h k = absurd (omega arith)
fuel (suc m) zero [] h k = refl
fuel (suc m) zero (a ∷ s) h k = absurd (omega arith)
fuel (suc m) (suc n) [] h k = refl
fuel (suc m) (suc n) (a ∷ []) h k = refl
fuel (suc m) (suc n) (a ∷ b ∷ s) h k =
    ap (λ rest. cond (ltb (length s) (two a b)) (cut_short ∷ []) (meant (take (two a b) s) ∷ rest))
    (fuel m n (drop (two a b) s) (simp length-drop (omega arith)) (simp length-drop (omega arith)))

-- the number in a script's first two bytes
abbrev pub size : List ℕ → ℕ
size s = two (get_or s 0 0) (get_or s 1 0)

-- a script at its end
pub items_none : (s : List ℕ) → length s < 1 → items s ≡ []
unfolding items reading
items_none [] h = refl
items_none (a ∷ s) h = absurd (omega arith)

-- a lone byte of a length
pub items_lone : (s : List ℕ) → length s ≡ 1 → items s ≡ cut_short ∷ []
unfolding items reading
items_lone [] h = absurd (omega arith)
items_lone (a ∷ []) h = refl
items_lone (a ∷ b ∷ s) h = absurd (omega arith)

-- fewer bytes than the length says
pub items_short : (s : List ℕ) → 2 ≤ length s → length s < size s + 2 → items s ≡ cut_short ∷ []
unfolding items reading
items_short [] h k = absurd (omega arith)
items_short (a ∷ []) h k = absurd (omega arith)
items_short (a ∷ b ∷ s) h k =
    ap (λ t. cond t (cut_short ∷ []) (meant (take (two a b) s) ∷ reading (suc (length s)) (drop (two a b) s))) (lt-ltb (length s) (two a b) (omega arith))

-- a whole record
items_more : (a b : ℕ) (s : List ℕ) → two a b ≤ length s → items (a ∷ b ∷ s) ≡ meant (take (two a b) s) ∷ items (drop (two a b) s)
unfolding items reading
items_more a b s h =
    let f : reading (suc (length s)) (drop (two a b) s) ≡ reading (length (drop (two a b) s)) (drop (two a b) s) = fuel (suc (length s)) (length (drop (two a b) s)) (drop (two a b) s) (simp length-drop (omega arith)) (omega arith) in
    let g : ltb (length s) (two a b) ≡ false = le-ltb (length s) (two a b) h in
    ap (λ t. cond t (cut_short ∷ []) (meant (take (two a b) s) ∷ reading (suc (length s)) (drop (two a b) s))) g ∙ ap (λ rest. meant (take (two a b) s) ∷ rest) f

pub reads_more : (s : List ℕ) (n : ℕ) (body after : List ℕ) (r : Result Command BadRecord) → 2 ≤ length s → n ≡ size s → IsSplitAt (take (length s - 2) (drop 2 s)) n body after → item_of r ≡ meant body → Reads s r after
reads_more [] n body after r h e k t = absurd (omega arith)
reads_more (a ∷ []) n body after r h e k t = absurd (omega arith)
reads_more (a ∷ b ∷ s) n body after r h e k t =
    let q : IsSplitAt s n body after = rw (take_rest (a ∷ b ∷ s) 2) at k in
    let more : items (a ∷ b ∷ s) ≡ meant (take n s) ∷ items (drop n s) = rw e (items_more a b s (omega arith)) in
    record { begins = more ∙ rw (← q.1, ← q.2, t) refl; shorter = omega arith }
