-- What keeps the mirror: calls that write nothing, and writes.
use Rattle.std.proofs.Common.{◌≡◌, ℕ, suc, ◌<◌, Bool, true, cond, eqb, ◌⊎◌, List, Some, Option, sym, refl, ap, ◌∙◌, subst, inl, inr, arith}
use Rattle.std.proofs.lemmas.Bool.{cases_eq, eq-eqb, ne_eqb}
use Rattle.pagers.specs.Meaning.{Meaning, bytes}
use Rattle.machine.specs.State.{Cell}
use Rattle.chains.specs.declared.End.{End}
use Rattle.chains.specs.declared.End.TheVariants.{Frame, Zeros, Page}
use Rattle.relation.specs.Mirror.{Shows, Mirror}

-- a cell is an old living cell's copy, and its walk ends where that one's did
pub record Copied (living : ℕ → ℕ → Type 0) (end : ℕ → ℕ → Option End) (cells : ℕ → ℕ → Cell) (e : Option End) (c : Cell) : Type 0 where
  pub from : ℕ
  pub at : ℕ
  pub lived : living from at
  pub same_end : e ≡ end from at
  pub same_cell : c ≡ cells from at

-- or its walk ends at a source, which the cell shows
pub record Begun (M : Meaning) (frame : ℕ → List ℕ) (mark : ℕ → ℕ) (o : Option End) (c : Cell) : Type 0 where
  pub end : End
  pub ends : o ≡ Some end
  pub frameless : (k : ℕ) → end ≡ Frame k → ⊥
  pub shows : Shows M frame mark end c

-- a call that writes nothing: each living cell is a copy or begun, each held frame was held and is reached
pub keeps : (M : Meaning) (frame : ℕ → List ℕ) (mark : ℕ → ℕ) (writes : ℕ) (living living' : ℕ → ℕ → Type 0) (end end' : ℕ → ℕ → Option End) (cells cells' : ℕ → ℕ → Cell) (held held' : ℕ → Bool) →
    Mirror M frame mark writes living end cells held →
    ((r i : ℕ) → living' r i → Copied living end cells (end' r i) (cells' r i) ⊎ Begun M frame mark (end' r i) (cells' r i)) →
    ((k : ℕ) → held' k ≡ true → held k ≡ true) →
    ((k : ℕ) → held' k ≡ true → (r : ℕ) × (i : ℕ) × living' r i × (end' r i ≡ Some (Frame k))) →
    ((r i k : ℕ) → living' r i → end' r i ≡ Some (Frame k) → held' k ≡ true) →
    Mirror M frame mark writes living' end' cells' held'
keeps M frame mark writes living living' end end' cells cells' held held' m back were reached holds = record {
  shows = λ r i l. shown (end' r i) (cells' r i) (back r i l);
  holds = holds;
  reached = reached;
  single = λ j k a b. m.single j k (were j a) (were k b);
  earlier = λ k a. m.earlier k (were k a);
}
  where
    shown : (o : Option End) (c : Cell) → Copied living end cells o c ⊎ Begun M frame mark o c → (e : End) × (o ≡ Some e) × Shows M frame mark e c
    shown o c (inl x) =
        let old = m.shows x.from x.at x.lived in
        (old.0, x.same_end ∙ old.1, subst (Shows M frame mark old.0) (sym x.same_cell) old.2)
    shown o c (inr x) = (x.end, x.ends, x.shows)

-- a function with another value at one number
abbrev pub at_number : {A : Type 0} → (ℕ → A) → ℕ → A → ℕ → A
at_number f k x j = cond (eqb j k) x (f j)

at_same : {A : Type 0} (f : ℕ → A) (k : ℕ) (x : A) → at_number f k x k ≡ x
at_same f k x = rw (eq-eqb k k refl) refl

at_other : {A : Type 0} (f : ℕ → A) (k : ℕ) (x : A) (j : ℕ) → (j ≡ k → ⊥) → at_number f k x j ≡ f j
at_other f k x j ne = rw (ne_eqb j k ne) refl

-- what a frame's cell shows is the same with another frame's mark and bytes
shows_other : (M : Meaning) (frame frame' : ℕ → List ℕ) (mark : ℕ → ℕ) (k n : ℕ) (e : End) (c : Cell) → (e ≡ Frame k → ⊥) → ((j : ℕ) → (j ≡ k → ⊥) → frame' j ≡ frame j) → Shows M frame mark e c → Shows M frame' (at_number mark k n) e c
shows_other M frame frame' mark k n (Frame j) c ne same h =
    let away : j ≡ k → ⊥ = λ q. ne (ap Frame q) in
    (h.0 ∙ ap Some (sym (at_other mark k n j away)), h.1 ∙ ap bytes (sym (same j away)))
shows_other M frame frame' mark k n Zeros c ne same h = h
shows_other M frame frame' mark k n (Page m q) c ne same h = h

-- two cells are one
abbrev pub SameCell : ℕ → ℕ → ℕ → ℕ → Type 0
SameCell r i u j = (u ≡ r) × (j ≡ i)

same_cell_cases : (r i u j : ℕ) → SameCell r i u j ⊎ (SameCell r i u j → ⊥)
same_cell_cases r i u j =
    elim (cases_eq u r) [
      | inl a ↦ elim (cases_eq j i) [ inl b ↦ inl (a, b) | inr b ↦ inr (λ h. b h.1) ]
      | inr a ↦ inr (λ h. a h.0)
    ]

-- what a write of cell i of record r into slot k does: the cell's walk ends there, no other living cell's does or did,
-- every other living cell's walk and every other frame is as it was, and each other held frame is still reached
pub record Wrote (frame frame' : ℕ → List ℕ) (writes : ℕ) (living : ℕ → ℕ → Type 0) (end end' : ℕ → ℕ → Option End) (cells cells' : ℕ → ℕ → Cell) (held held' : ℕ → Bool) (r i k : ℕ) : Type 0 where
  pub lives : living r i
  pub here : end' r i ≡ Some (Frame k)
  pub alone : (u j : ℕ) → living u j → (SameCell r i u j → ⊥) → end u j ≡ Some (Frame k) → ⊥
  pub others : (u j : ℕ) → living u j → (SameCell r i u j → ⊥) → end' u j ≡ end u j
  pub frames : (j : ℕ) → (j ≡ k → ⊥) → frame' j ≡ frame j
  pub slots : (j : ℕ) → (j ≡ k → ⊥) → held' j ≡ held j
  pub taken : held' k ≡ true
  pub reached : (j : ℕ) → held j ≡ true → (j ≡ k → ⊥) → (u : ℕ) × (v : ℕ) × living u v × (SameCell r i u v → ⊥) × (end u v ≡ Some (Frame j))
  pub marked : (cells' r i).mark ≡ Some writes
  pub content : (cells' r i).content ≡ bytes (frame' k)
  pub kept : (u j : ℕ) → (SameCell r i u j → ⊥) → cells' u j ≡ cells u j

frame_same : (j k : ℕ) → Some (Frame j) ≡ Some (Frame k) → j ≡ k
frame_same j k e = cc

module _ {M : Meaning} {frame frame' : ℕ → List ℕ} {mark : ℕ → ℕ} {writes : ℕ} {living : ℕ → ℕ → Type 0} {end end' : ℕ → ℕ → Option End} {cells cells' : ℕ → ℕ → Cell} {held held' : ℕ → Bool} {r i k : ℕ} (m : Mirror M frame mark writes living end cells held) (w : Wrote frame frame' writes living end end' cells cells' held held' r i k) where
  write_shows : (u j : ℕ) → living u j → SameCell r i u j ⊎ (SameCell r i u j → ⊥) → (e : End) × (end' u j ≡ Some e) × Shows M frame' (at_number mark k writes) e (cells' u j)
  write_shows u j l (inl same) =
      let q : end' u j ≡ end' r i = ap (λ a. end' a j) same.0 ∙ ap (λ b. end' r b) same.1 in
      let c : cells' u j ≡ cells' r i = ap (λ a. cells' a j) same.0 ∙ ap (λ b. cells' r b) same.1 in
      (Frame k, q ∙ w.here, (ap (λ (x : Cell). x.mark) c ∙ w.marked ∙ ap Some (sym (at_same mark k writes)), ap (λ (x : Cell). x.content) c ∙ w.content))
  write_shows u j l (inr other) =
      let old = m.shows u j l in (
        old.0,
        w.others u j l other ∙ old.1,
        subst (Shows M frame' (at_number mark k writes) old.0) (sym (w.kept u j other))
            (shows_other M frame frame' mark k writes old.0 (cells u j) (λ e. w.alone u j l other (old.1 ∙ ap Some e)) w.frames old.2),
      )

  write_holds : (u j s : ℕ) → living u j → end' u j ≡ Some (Frame s) → (s ≡ k) ⊎ (s ≡ k → ⊥) → SameCell r i u j ⊎ (SameCell r i u j → ⊥) → held' s ≡ true
  write_holds u j s l e (inl q) c = ap held' q ∙ w.taken
  write_holds u j s l e (inr ne) (inl same) =
      absurd (ne (frame_same s k (sym e ∙ ap (λ a. end' a j) same.0 ∙ ap (λ b. end' r b) same.1 ∙ w.here)))
  write_holds u j s l e (inr ne) (inr other) = w.slots s ne ∙ m.holds u j s l (sym (w.others u j l other) ∙ e)

  write_reached : (s : ℕ) → held' s ≡ true → (s ≡ k) ⊎ (s ≡ k → ⊥) → (u : ℕ) × (j : ℕ) × living u j × (end' u j ≡ Some (Frame s))
  write_reached s h (inl q) = (r, i, w.lives, w.here ∙ ap (λ a. Some (Frame a)) (sym q))
  write_reached s h (inr ne) =
      let x = w.reached s (sym (w.slots s ne) ∙ h) ne in
      (x.0, x.1, x.2, w.others x.0 x.1 x.2 x.3 ∙ x.4)

  write_earlier : (s : ℕ) → held' s ≡ true → (s ≡ k) ⊎ (s ≡ k → ⊥) → at_number mark k writes s < suc writes
  write_earlier s h (inl q) = rw (ap (at_number mark k writes) q ∙ at_same mark k writes) (omega arith)
  write_earlier s h (inr ne) = rw (at_other mark k writes s ne) (omega (arith, m.earlier s (sym (w.slots s ne) ∙ h)))

  write_single : (s t : ℕ) → held' s ≡ true → held' t ≡ true → at_number mark k writes s ≡ at_number mark k writes t → (s ≡ k) ⊎ (s ≡ k → ⊥) → (t ≡ k) ⊎ (t ≡ k → ⊥) → s ≡ t
  write_single s t a b e (inl p) (inl q) = p ∙ sym q
  write_single s t a b e (inl p) (inr q) =
      let x : writes ≡ mark t = sym (ap (at_number mark k writes) p ∙ at_same mark k writes) ∙ e ∙ at_other mark k writes t q in
      absurd (omega (arith, m.earlier t (sym (w.slots t q) ∙ b)))
  write_single s t a b e (inr p) (inl q) =
      let x : writes ≡ mark s = sym (ap (at_number mark k writes) q ∙ at_same mark k writes) ∙ sym e ∙ at_other mark k writes s p in
      absurd (omega (arith, m.earlier s (sym (w.slots s p) ∙ a)))
  write_single s t a b e (inr p) (inr q) =
      m.single s t (sym (w.slots s p) ∙ a) (sym (w.slots t q) ∙ b) (sym (at_other mark k writes s p) ∙ e ∙ at_other mark k writes t q)

  -- a write keeps the mirror: the slot has the write's number as its mark
  pub writes_keep : Mirror M frame' (at_number mark k writes) (suc writes) living end' cells' held'
  writes_keep = record {
    shows = λ u j l. write_shows u j l (same_cell_cases r i u j);
    holds = λ u j s l e. write_holds u j s l e (cases_eq s k) (same_cell_cases r i u j);
    reached = λ s h. write_reached s h (cases_eq s k);
    single = λ s t a b e. write_single s t a b e (cases_eq s k) (cases_eq t k);
    earlier = λ s h. write_earlier s h (cases_eq s k);
  }
