-- What the machine answers, by the tests that fit.
use Rattle.std.proofs.Common.{◌≡◌, ℕ, ◌+◌, true, false, not, ◌&&◌, ◌||◌, eqb, ltb, leb, [], Some, None, refl, ap, ◌∙◌, inl, inr, arith}
use Rattle.std.proofs.lemmas.Bool.{cases_Bool, eqb-true, leb-true, lt-ltb, le-ltb, leb-false, eqb-false}
use Rattle.ranges.specs.Tables.{taken, removed, altered, covered}
use Rattle.pagers.specs.Meaning.{Meaning}
use Rattle.machine.specs.declared.words.Entry.{Entry}
use Rattle.machine.specs.Entries.{entry_shape}
use Rattle.machine.specs.Calls.{Source, done, refused}
use Rattle.machine.specs.State.{State, table, lives, new_record}
use Rattle.machine.specs.Step.{Outcome, judged, accepted, misnumbered, missing, bad_range, overfull, uncovered, created, ended, unmapped, set_over, mapped, map_on, fresh_entry, with_entry, with_task}
use Rattle.machine.proofs.Judged.{passes, stops}

-- a refusal, and an accepted call
abbrev pub says : ℕ → State → Outcome
says n s = record { reply = refused n; next = s }

abbrev pub does : State → Outcome
does s = record { reply = done; next = s }

-- Create

pub create_misnumbered : (s : State) (n : ℕ) → misnumbered n ≡ true → created s n ≡ says 2 s
unfolding created
create_misnumbered s n e = stops 2 (misnumbered n) _ s _ e

pub create_living : (s : State) (n : ℕ) → misnumbered n ≡ false → lives s n ≡ true → created s n ≡ says 3 s
unfolding created
create_living s n a b = passes 2 (misnumbered n) _ s _ a ∙ stops 3 (lives s n) _ s _ b

pub create_done : (s : State) (n : ℕ) → misnumbered n ≡ false → lives s n ≡ false → created s n ≡ does (with_task s n (Some []))
unfolding created judged accepted
create_done s n a b = passes 2 (misnumbered n) _ s _ a ∙ passes 3 (lives s n) [] s _ b

-- Exit

pub exit_missing : (s : State) (n : ℕ) → missing s n ≡ true → ended s n ≡ says 2 s
unfolding ended
exit_missing s n e = stops 2 (missing s n) _ s _ e

pub exit_done : (s : State) (n : ℕ) → missing s n ≡ false → ended s n ≡ does (with_task s n None)
unfolding ended judged accepted
exit_done s n a = passes 2 (missing s n) [] s _ a

-- Ranges

pub range_test : (f n : ℕ) → bad_range f n ≡ not (ltb 0 n && leb (f + n) 4096)
unfolding bad_range
range_test f n = elim (cases_Bool (eqb n 0)) [ inl e ↦ empty e | inr e ↦ elim (cases_Bool (leb (f + n) 4096)) [ inl l ↦ good e l | inr l ↦ past e l ] ]
  where
    empty : eqb n 0 ≡ true → (eqb n 0 || ltb 4096 (f + n)) ≡ not (ltb 0 n && leb (f + n) 4096)
    empty e = let z = eqb-true n 0 e in rw (e, le-ltb 0 n (omega arith)) refl

    some : eqb n 0 ≡ false → ltb 0 n ≡ true
    some e = lt-ltb 0 n (let ne = eqb-false n 0 e in omega arith)

    good : eqb n 0 ≡ false → leb (f + n) 4096 ≡ true → (eqb n 0 || ltb 4096 (f + n)) ≡ not (ltb 0 n && leb (f + n) 4096)
    good e l = rw (e, some e, l, le-ltb 4096 (f + n) (leb-true (f + n) 4096 l)) refl

    past : eqb n 0 ≡ false → leb (f + n) 4096 ≡ false → (eqb n 0 || ltb 4096 (f + n)) ≡ not (ltb 0 n && leb (f + n) 4096)
    past e l = rw (e, some e, l, lt-ltb 4096 (f + n) (leb-false (f + n) 4096 l)) refl

-- Unmap

module _ (s : State) (n f g : ℕ) where
  pub unmap_missing : missing s n ≡ true → unmapped s n f g ≡ says 2 s
  unfolding unmapped
  unmap_missing e = stops 2 (missing s n) _ s _ e

  pub unmap_range : missing s n ≡ false → bad_range f g ≡ true → unmapped s n f g ≡ says 4 s
  unfolding unmapped
  unmap_range a e = passes 2 (missing s n) _ s _ a ∙ stops 4 (bad_range f g) _ s _ e

  pub unmap_full : missing s n ≡ false → bad_range f g ≡ false → overfull (removed entry_shape f (f + g) (table s n)) ≡ true → unmapped s n f g ≡ says 9 s
  unfolding unmapped
  unmap_full a b e = passes 2 (missing s n) _ s _ a ∙ passes 4 (bad_range f g) _ s _ b ∙ stops 9 (overfull (removed entry_shape f (f + g) (table s n))) _ s _ e

  pub unmap_done : missing s n ≡ false → bad_range f g ≡ false → overfull (removed entry_shape f (f + g) (table s n)) ≡ false → unmapped s n f g ≡ does (with_task s n (Some (removed entry_shape f (f + g) (table s n))))
  unfolding unmapped judged accepted
  unmap_done a b c = passes 2 (missing s n) _ s _ a ∙ passes 4 (bad_range f g) _ s _ b ∙ passes 9 (overfull (removed entry_shape f (f + g) (table s n))) [] s _ c

-- Protect and inherit

module _ (h : Entry → Entry) (s : State) (n f g v : ℕ) where
  pub set_missing : missing s n ≡ true → set_over h s n f g v ≡ says 2 s
  unfolding set_over
  set_missing e = stops 2 (missing s n) _ s _ e

  pub set_range : missing s n ≡ false → bad_range f g ≡ true → set_over h s n f g v ≡ says 4 s
  unfolding set_over
  set_range a e = passes 2 (missing s n) _ s _ a ∙ stops 4 (bad_range f g) _ s _ e

  pub set_value : missing s n ≡ false → bad_range f g ≡ false → ltb 2 v ≡ true → set_over h s n f g v ≡ says 5 s
  unfolding set_over
  set_value a b e = passes 2 (missing s n) _ s _ a ∙ passes 4 (bad_range f g) _ s _ b ∙ stops 5 (ltb 2 v) _ s _ e

  pub set_unmapped : missing s n ≡ false → bad_range f g ≡ false → ltb 2 v ≡ false → covered entry_shape f g (table s n) ≡ false → set_over h s n f g v ≡ says 7 s
  unfolding set_over
  set_unmapped a b c e = passes 2 (missing s n) _ s _ a ∙ passes 4 (bad_range f g) _ s _ b ∙ passes 5 (ltb 2 v) _ s _ c ∙ stops 7 (not (covered entry_shape f g (table s n))) _ s _ (ap not e)

  pub set_full : missing s n ≡ false → bad_range f g ≡ false → ltb 2 v ≡ false → covered entry_shape f g (table s n) ≡ true → overfull (altered entry_shape h f (f + g) (table s n)) ≡ true → set_over h s n f g v ≡ says 9 s
  unfolding set_over
  set_full a b c d e = passes 2 (missing s n) _ s _ a ∙ passes 4 (bad_range f g) _ s _ b ∙ passes 5 (ltb 2 v) _ s _ c ∙ passes 7 (not (covered entry_shape f g (table s n))) _ s _ (ap not d) ∙ stops 9 (overfull (altered entry_shape h f (f + g) (table s n))) _ s _ e

  pub set_done : missing s n ≡ false → bad_range f g ≡ false → ltb 2 v ≡ false → covered entry_shape f g (table s n) ≡ true → overfull (altered entry_shape h f (f + g) (table s n)) ≡ false → set_over h s n f g v ≡ does (with_task s n (Some (altered entry_shape h f (f + g) (table s n))))
  unfolding set_over judged accepted
  set_done a b c d e = passes 2 (missing s n) _ s _ a ∙ passes 4 (bad_range f g) _ s _ b ∙ passes 5 (ltb 2 v) _ s _ c ∙ passes 7 (not (covered entry_shape f g (table s n))) _ s _ (ap not d) ∙ passes 9 (overfull (altered entry_shape h f (f + g) (table s n))) [] s _ e

-- Map

module _ (M : Meaning) (s : State) (n f g : ℕ) (from : Source) where
  pub map_missing : missing s n ≡ true → mapped M s n f g from ≡ says 2 s
  unfolding mapped
  map_missing e = stops 2 (missing s n) _ s _ e

  pub map_range : missing s n ≡ false → bad_range f g ≡ true → mapped M s n f g from ≡ says 4 s
  unfolding mapped
  map_range a e = passes 2 (missing s n) _ s _ a ∙ stops 4 (bad_range f g) _ s _ e

  pub map_taken : missing s n ≡ false → bad_range f g ≡ false → taken entry_shape (fresh_entry 0 f g) (table s n) ≡ true → mapped M s n f g from ≡ says 6 s
  unfolding mapped
  map_taken a b e = passes 2 (missing s n) _ s _ a ∙ passes 4 (bad_range f g) _ s _ b ∙ stops 6 (taken entry_shape (fresh_entry 0 f g) (table s n)) _ s _ e

  pub map_uncovered : missing s n ≡ false → bad_range f g ≡ false → taken entry_shape (fresh_entry 0 f g) (table s n) ≡ false → uncovered M g from ≡ true → mapped M s n f g from ≡ says 8 s
  unfolding mapped
  map_uncovered a b c e = passes 2 (missing s n) _ s _ a ∙ passes 4 (bad_range f g) _ s _ b ∙ passes 6 (taken entry_shape (fresh_entry 0 f g) (table s n)) _ s _ c ∙ stops 8 (uncovered M g from) _ s _ e

  pub map_full : missing s n ≡ false → bad_range f g ≡ false → taken entry_shape (fresh_entry 0 f g) (table s n) ≡ false → uncovered M g from ≡ false → overfull (with_entry s n (fresh_entry 0 f g)) ≡ true → mapped M s n f g from ≡ says 9 s
  unfolding mapped
  map_full a b c d e = passes 2 (missing s n) _ s _ a ∙ passes 4 (bad_range f g) _ s _ b ∙ passes 6 (taken entry_shape (fresh_entry 0 f g) (table s n)) _ s _ c ∙ passes 8 (uncovered M g from) _ s _ d ∙ stops 9 (overfull (with_entry s n (fresh_entry 0 f g))) _ s _ e

  pub map_done : missing s n ≡ false → bad_range f g ≡ false → taken entry_shape (fresh_entry 0 f g) (table s n) ≡ false → uncovered M g from ≡ false → overfull (with_entry s n (fresh_entry 0 f g)) ≡ false → mapped M s n f g from ≡ does (map_on (new_record s) M s n f g from)
  unfolding mapped judged accepted
  map_done a b c d e = passes 2 (missing s n) _ s _ a ∙ passes 4 (bad_range f g) _ s _ b ∙ passes 6 (taken entry_shape (fresh_entry 0 f g) (table s n)) _ s _ c ∙ passes 8 (uncovered M g from) _ s _ d ∙ passes 9 (overfull (with_entry s n (fresh_entry 0 f g))) [] s _ e
