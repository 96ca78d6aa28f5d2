-- The living cells as a list, and page by page.
use Rattle.std.proofs.Common.{◌≡◌, ℕ, zero, suc, ◌+◌, ◌-◌, ◌<◌, ◌≤◌, Bool, true, false, cond, ◌&&◌, ltb, leb, List, [], ◌∷◌, Some, None, Option, sym, refl, ap, ◌∙◌, subst, inl, inr, arith}
use Rattle.std.specs.List.{flat_map}
use Rattle.std.specs.Option.{option_to_list}
use Rattle.std.proofs.lemmas.Bool.{cases_Bool, and_parts, and_from, and_right, leb-true, le-leb, ltb-true, lt-ltb, le-ltb, cond-true, cond-false, not-false}
use Rattle.ranges.specs.Shape.{Shape, end, holds, proper}
use Rattle.ranges.specs.Tables.{rising, said}
use Rattle.machine.specs.declared.words.Entry.{Entry}
use Rattle.machine.specs.Entries.{entry_shape, part}
use Rattle.machine.specs.State.{Cell, State, numbers, table, all_entries, row, named_cells, living_cells}
use Rattle.machine.specs.Step.{misnumbered}
use Rattle.relation.specs.Living.{Living}
use Rattle.relation.specs.Orderly.{Orderly}
use Rattle.relation.proofs.Lists.{Among, among_joined, among_part}

-- Elements of a table and what it says

-- what a table says of a page, one of its elements says
pub said_among : {E : Type 0} (S : Shape E) (p : ℕ) (es : List E) (x : E) → said S p es ≡ Some x → (e : E) × Among e es × (holds S p e ≡ true) × (x ≡ S.one p e)
said_among S p [] x h = absurd (let z : ◌≡◌ {A = ℕ} 0 1 = cc in omega arith)
said_among S p (e ∷ es) x h = go (said_among S p es x) (holds S p e) refl h
  where
    go : (said S p es ≡ Some x → (e : _) × Among e es × (holds S p e ≡ true) × (x ≡ S.one p e)) → (b : Bool) → holds S p e ≡ b → cond b (Some (S.one p e)) (said S p es) ≡ Some x → (y : _) × Among y (e ∷ es) × (holds S p y ≡ true) × (x ≡ S.one p y)
    go on true q h = (e, inl refl, q, cc)
    go on false q h = let r = on h in (r.0, inr r.1, r.2, r.3)

-- no element of a rising table begins below its bound
rising_from : {E : Type 0} (S : Shape E) (n : ℕ) (es : List E) (e : E) → rising S n es ≡ true → Among e es → n ≤ S.first e
rising_from S n [] e h a = absurd a
rising_from S n (y ∷ ys) e h (inl q) =
    let parts = and_parts (proper S y && leb n (S.first y)) (rising S (end S y) ys) h in
    rw q (leb-true n (S.first y) (and_parts (proper S y) (leb n (S.first y)) parts.0).1)
rising_from S n (y ∷ ys) e h (inr a) =
    let parts = and_parts (proper S y && leb n (S.first y)) (rising S (end S y) ys) h in
    let low = leb-true n (S.first y) (and_parts (proper S y) (leb n (S.first y)) parts.0).1 in
    let next = rising_from S (end S y) ys e parts.1 a in
    omega (arith, low, next)

-- an element's page is said by it
pub among_said : {E : Type 0} (S : Shape E) (n p : ℕ) (es : List E) (e : E) → rising S n es ≡ true → Among e es → holds S p e ≡ true → said S p es ≡ Some (S.one p e)
among_said S n p [] e h a q = absurd a
among_said S n p (y ∷ ys) e h (inl same) q =
    subst (λ z. said S p (y ∷ ys) ≡ Some (S.one p z)) (sym same) (cond-true (holds S p y) _ _ (subst (λ z. holds S p z ≡ true) same q))
among_said S n p (y ∷ ys) e h (inr a) q =
    let parts = and_parts (proper S y && leb n (S.first y)) (rising S (end S y) ys) h in
    let from = rising_from S (end S y) ys e parts.1 a in
    let at = leb-true (S.first e) p (and_parts (leb (S.first e) p) (ltb p (end S e)) q).0 in
    let past : holds S p y ≡ false = and_right (leb (S.first y) p) (ltb p (end S y)) (le-ltb p (end S y) (omega (arith, from, at))) in
    cond-false (holds S p y) _ _ past ∙ among_said S (end S y) p ys e parts.1 a q

-- Cells of a row

pub among_row : (f : ℕ → Cell) (i n : ℕ) (c : Cell) → Among c (row f i n) → (j : ℕ) × (j < n) × (c ≡ f (i + j))
unfolding row
among_row f i zero c h = absurd h
among_row f i (suc n) c (inl e) = (0, omega arith, e ∙ ap f (omega arith))
among_row f i (suc n) c (inr h) =
    let r = among_row f (suc i) n c h in
    let l : r.0 < n = r.1 in
    (suc r.0, omega arith, r.2 ∙ ap f (omega arith))

pub row_among : (f : ℕ → Cell) (i n j : ℕ) → j < n → Among (f (i + j)) (row f i n)
unfolding row
row_among f i zero j l = absurd (omega arith)
row_among f i (suc n) zero l = inl (ap f (omega arith))
row_among f i (suc n) (suc j) l = inr (subst (λ k. Among (f k) (row f (suc i) n)) (omega arith) (row_among f (suc i) n j (omega arith)))

-- The numbers that a task may have

among_numbers : (t : ℕ) → 1 ≤ t → t ≤ 16 → Among t numbers
unfolding numbers
among_numbers zero a b = absurd (omega arith)
among_numbers (suc zero) a b = inl refl
among_numbers (suc (suc zero)) a b = inr (inl refl)
among_numbers (suc (suc (suc zero))) a b = inr (inr (inl refl))
among_numbers (suc (suc (suc (suc zero)))) a b = inr (inr (inr (inl refl)))
among_numbers (suc (suc (suc (suc (suc zero))))) a b = inr (inr (inr (inr (inl refl))))
among_numbers (suc (suc (suc (suc (suc (suc zero)))))) a b = inr (inr (inr (inr (inr (inl refl)))))
among_numbers (suc (suc (suc (suc (suc (suc (suc zero))))))) a b = inr (inr (inr (inr (inr (inr (inl refl))))))
among_numbers (suc (suc (suc (suc (suc (suc (suc (suc zero)))))))) a b = inr (inr (inr (inr (inr (inr (inr (inl refl)))))))
among_numbers (suc (suc (suc (suc (suc (suc (suc (suc (suc zero))))))))) a b = inr (inr (inr (inr (inr (inr (inr (inr (inl refl))))))))
among_numbers (suc (suc (suc (suc (suc (suc (suc (suc (suc (suc zero)))))))))) a b = inr (inr (inr (inr (inr (inr (inr (inr (inr (inl refl)))))))))
among_numbers (suc (suc (suc (suc (suc (suc (suc (suc (suc (suc (suc zero))))))))))) a b = inr (inr (inr (inr (inr (inr (inr (inr (inr (inr (inl refl))))))))))
among_numbers (suc (suc (suc (suc (suc (suc (suc (suc (suc (suc (suc (suc zero)))))))))))) a b = inr (inr (inr (inr (inr (inr (inr (inr (inr (inr (inr (inl refl)))))))))))
among_numbers (suc (suc (suc (suc (suc (suc (suc (suc (suc (suc (suc (suc (suc zero))))))))))))) a b = inr (inr (inr (inr (inr (inr (inr (inr (inr (inr (inr (inr (inl refl))))))))))))
among_numbers (suc (suc (suc (suc (suc (suc (suc (suc (suc (suc (suc (suc (suc (suc zero)))))))))))))) a b = inr (inr (inr (inr (inr (inr (inr (inr (inr (inr (inr (inr (inr (inl refl)))))))))))))
among_numbers (suc (suc (suc (suc (suc (suc (suc (suc (suc (suc (suc (suc (suc (suc (suc zero))))))))))))))) a b = inr (inr (inr (inr (inr (inr (inr (inr (inr (inr (inr (inr (inr (inr (inl refl))))))))))))))
among_numbers (suc (suc (suc (suc (suc (suc (suc (suc (suc (suc (suc (suc (suc (suc (suc (suc zero)))))))))))))))) a b = inr (inr (inr (inr (inr (inr (inr (inr (inr (inr (inr (inr (inr (inr (inr (inl refl)))))))))))))))
among_numbers (suc (suc (suc (suc (suc (suc (suc (suc (suc (suc (suc (suc (suc (suc (suc (suc (suc t))))))))))))))))) a b = absurd (omega arith)

pub numbered : (t : ℕ) → misnumbered t ≡ false → Among t numbers
unfolding misnumbered
numbered t e =
    let parts = and_parts (leb 1 t) (leb t 16) (not-false (leb 1 t && leb t 16) e) in
    among_numbers t (leb-true 1 t parts.0) (leb-true t 16 parts.1)

-- a task with an entry has a number
pub has_number : (s : State) → Orderly s → (t : ℕ) (e : Entry) → Among e (table s t) → Among t numbers
has_number s o t e a =
    elim (cases_Bool (misnumbered t)) [
      | inl q ↦ absurd (subst (Among e) (o.numbered t q) a)
      | inr q ↦ numbered t q
    ]

-- Living cells

-- the marks of the living cells, with repetition
abbrev pub marks_of : State → List ℕ
marks_of s = flat_map (λ c. option_to_list c.mark) (living_cells s)

-- an entry names the cells of its pages
pub entry_lives : (s : State) → Orderly s → (t : ℕ) (e : Entry) (j : ℕ) → Among e (table s t) → j < e.pages → Living (table s) e.sharing (e.index + j)
entry_lives s o t e j a l = record {
  task = t;
  page = e.first + j;
  names = record {
    entry = part (e.first + j) 1 e;
    says = among_said entry_shape 0 (e.first + j) (table s t) e (o.rises t) a (and_from _ _ (le-leb e.first (e.first + j) (omega arith)) (lt-ltb (e.first + j) (e.first + e.pages) (omega arith)));
    sharing = refl;
    index = ap (λ k. e.index + k) (omega arith);
  };
}

-- a living cell is an entry's, at one of its pages
pub lives_entry : (s : State) (r i : ℕ) → Living (table s) r i → (t : ℕ) × (e : Entry) × Among e (table s t) × (j : ℕ) × (j < e.pages) × (e.sharing ≡ r) × (e.index + j ≡ i)
lives_entry s r i l =
    let x = said_among entry_shape l.page (table s l.task) l.names.entry l.names.says in
    let e = x.0 in
    let q = and_parts (leb e.first l.page) (ltb l.page (e.first + e.pages)) x.2 in
    let low = leb-true e.first l.page q.0 in
    let high = ltb-true l.page (e.first + e.pages) q.1 in
    (l.task, e, x.1, l.page - e.first, omega (arith, low, high), ap (λ (y : Entry). y.sharing) (sym x.3) ∙ l.names.sharing, ap (λ (y : Entry). y.index) (sym x.3) ∙ l.names.index)

-- a cell of the list is living
cell_living : (s : State) → Orderly s → (c : Cell) → Among c (living_cells s) → (r : ℕ) × (i : ℕ) × Living (table s) r i × (c ≡ s.cells r i)
unfolding living_cells all_entries named_cells
cell_living s o c h =
    let a = among_part (named_cells s) c (all_entries s) h in
    let b = among_part (table s) a.0 numbers a.1 in
    let d = among_row (s.cells a.0.sharing) a.0.index a.0.pages c a.2 in
    (a.0.sharing, a.0.index + d.0, entry_lives s o b.0 a.0 d.0 b.2 d.1, d.2)

-- a living cell is in the list
living_cell : (s : State) → Orderly s → (r i : ℕ) → Living (table s) r i → Among (s.cells r i) (living_cells s)
unfolding living_cells all_entries named_cells
living_cell s o r i l =
    let x = lives_entry s r i l in
    let e = x.1 in
    let here = row_among (s.cells e.sharing) e.index e.pages x.3 x.4 in
    let within = among_joined (table s) x.0 e numbers (has_number s o x.0 e x.2) x.2 in
    let found = among_joined (named_cells s) e (s.cells e.sharing (e.index + x.3)) (flat_map (table s) numbers) within here in
    subst (λ a. Among (s.cells a i) (living_cells s)) x.5 (subst (λ b. Among (s.cells e.sharing b) (living_cells s)) x.6 found)

listed : (o : Option ℕ) (m : ℕ) → Among m (option_to_list o) → o ≡ Some m
listed None m h = absurd h
listed (Some k) m (inl e) = ap Some (sym e)
listed (Some k) m (inr h) = absurd h

listing : (o : Option ℕ) (m : ℕ) → o ≡ Some m → Among m (option_to_list o)
listing None m e = absurd (let z : ◌≡◌ {A = ℕ} 0 1 = cc in omega arith)
listing (Some k) m e = inl (cc)

-- a living mark is a living cell's
pub mark_living : (s : State) → Orderly s → (m : ℕ) → Among m (marks_of s) → (r : ℕ) × (i : ℕ) × Living (table s) r i × ((s.cells r i).mark ≡ Some m)
mark_living s o m h =
    let a = among_part (λ (c : Cell). option_to_list c.mark) m (living_cells s) h in
    let b = cell_living s o a.0 a.1 in
    (b.0, b.1, b.2, ap (λ (c : Cell). c.mark) (sym b.3) ∙ listed a.0.mark m a.2)

pub living_mark : (s : State) → Orderly s → (r i m : ℕ) → Living (table s) r i → (s.cells r i).mark ≡ Some m → Among m (marks_of s)
living_mark s o r i m l e =
    among_joined (λ (c : Cell). option_to_list c.mark) (s.cells r i) m (living_cells s) (living_cell s o r i l) (listing (s.cells r i).mark m e)
