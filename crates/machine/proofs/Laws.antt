-- The machine's own laws.
use Rattle.std.proofs.Common.{◌≡◌, ℕ, suc, ◌%◌, ◌<◌, ◌≤◌, Bool, true, false, cond, ◌&&◌, eqb, List, [], ◌∷◌, Some, None, Option, sym, refl, ap, ◌∙◌, arith}
use Rattle.std.proofs.lemmas.Option.{none-some}
use Rattle.std.proofs.lemmas.Bool.{both_ways, cond_both, eq-eqb}
use Rattle.pagers.specs.Meaning.{Content, Meaning, bytes, damaged}
use Rattle.machine.specs.declared.words.Entry.{Entry}
use Rattle.machine.specs.declared.words.Inheritance.{Inheritance}
use Rattle.machine.specs.declared.words.Inheritance.TheVariants.{Share, Copy, None as Left}
use Rattle.machine.specs.Calls.{Source, Call, create, map_pages, unmap, protect, inherit, fork, write, read, exit, usage, done}
use Rattle.machine.specs.State.{Cell, State, content_of, untouched, along, start}
use Rattle.machine.specs.Step.{accepted, created, mapped, map_on, unmapped, set_over, forked, handed, handed_all, given, copied_on, read_from, write_to, after_write, written, ended, counted, with_task, with_record, with_cell, refuse_damage, cell_of, entry_at, step, after}
use Rattle.machine.specs.Laws.{RefusalsKeep, Sourced, SourcesKept, MarksNew}
use Rattle.machine.proofs.Judged.{judged_keeps, judged_both, judged_done, passed, next_test, Refusing, refuse_refuses}

pub refusals_keep : RefusalsKeep
unfolding step created mapped unmapped set_over forked read_from write_to ended counted accepted
refusals_keep M s (create t) e = judged_keeps _ _ _ refl e
refusals_keep M s (map_pages t f n from) e = judged_keeps _ _ _ refl e
refusals_keep M s (unmap t f n) e = judged_keeps _ _ _ refl e
refusals_keep M s (protect t f n v) e = judged_keeps _ _ _ refl e
refusals_keep M s (inherit t f n v) e = judged_keeps _ _ _ refl e
refusals_keep M s (fork a b) e = judged_keeps _ _ _ refl e
refusals_keep M s (write m t a new) e = judged_keeps _ _ _ refl e
refusals_keep M s (read m t a n room) e = judged_keeps _ _ _ refl e
refusals_keep M s (exit t) e = judged_keeps _ _ _ refl e
refusals_keep M s usage e = refl

-- a fact about states that every change of the machine keeps
record Kept (M : Meaning) (P : State → Type 0) : Type 0 where
  tasks : (s : State) (t : ℕ) (es : Option (List Entry)) → P s → P (with_task s t es)
  mapped_cells : (s : State) (r : ℕ) (from : Source) → P s → P (with_record s r (λ i. untouched M (along i from)))
  copied_cells : (s : State) (r q : ℕ) → P s → P (with_record s r (s.cells q))
  wrote : (s : State) (e : Entry) (at : ℕ) (new : List ℕ) → P s → P (after_write s e at new)

module _ {M : Meaning} {P : State → Type 0} (K : Kept M P) where
  handed_keeps : (how : Inheritance) (s : State) (child : ℕ) (e : Entry) → P s → P (handed how s child e)
  unfolding handed given copied_on
  handed_keeps Left s child e h = h
  handed_keeps Share s child e h = K.tasks _ _ _ h
  handed_keeps Copy s child e h = K.tasks _ _ _ (K.copied_cells s _ _ h)

  handed_all_keeps : (s : State) (child : ℕ) (es : List Entry) → P s → P (handed_all s child es)
  unfolding handed_all
  handed_all_keeps s child [] h = h
  handed_all_keeps s child (e ∷ es) h = handed_all_keeps (handed e.inheritance s child e) child es (handed_keeps e.inheritance s child e h)

  step_keeps : (s : State) (call : Call) → P s → P (step M s call).next
  unfolding step created mapped map_on unmapped set_over forked read_from write_to ended counted accepted
  step_keeps s (create t) h = judged_both P _ s _ h (K.tasks _ _ _ h)
  step_keeps s (map_pages t f n from) h = judged_both P _ s _ h (K.tasks _ _ _ (K.mapped_cells _ _ _ h))
  step_keeps s (unmap t f n) h = judged_both P _ s _ h (K.tasks _ _ _ h)
  step_keeps s (protect t f n v) h = judged_both P _ s _ h (K.tasks _ _ _ h)
  step_keeps s (inherit t f n v) h = judged_both P _ s _ h (K.tasks _ _ _ h)
  step_keeps s (fork a b) h = judged_both P _ s _ h (handed_all_keeps _ _ _ (K.tasks _ _ _ h))
  step_keeps s (write m t a new) h = judged_both P _ s _ h (K.wrote _ _ _ _ h)
  step_keeps s (read m t a n room) h = judged_both P _ s _ h h
  step_keeps s (exit t) h = judged_both P _ s _ h (K.tasks _ _ _ h)
  step_keeps s usage h = h

  after_keeps : (s : State) (calls : List Call) → P s → P (after M s calls)
  unfolding after
  after_keeps s [] h = h
  after_keeps s (call ∷ calls) h = after_keeps (step M s call).next calls (step_keeps s call h)

-- what holds of the new cells and of the old ones holds of all cells of a state with a new record
record_both : (Q : Cell → Type 0) (s : State) (r : ℕ) (cells : ℕ → Cell) → ((i : ℕ) → Q (cells i)) → ((u i : ℕ) → Q (s.cells u i)) → (u i : ℕ) → Q ((with_record s r cells).cells u i)
unfolding with_record
record_both Q s r cells new old u i = cond_both (eqb u r) (cells i) (s.cells u i) Q (λ e. new i) (λ e. old u i)

-- and of a state with one new cell
cell_both : (Q : Cell → Type 0) (s : State) (r j : ℕ) (c : Cell) → Q c → ((u i : ℕ) → Q (s.cells u i)) → (u i : ℕ) → Q ((with_cell s r j c).cells u i)
unfolding with_cell
cell_both Q s r j c new old u i = cond_both (eqb u r && eqb i j) c (s.cells u i) Q (λ e. new) (λ e. old u i)

-- an unmarked cell has its source's content
abbrev TrueTo : Meaning → Cell → Type 0
TrueTo M c = c.mark ≡ None → c.content ≡ content_of M c.source

true_untouched : (M : Meaning) (from : Source) → TrueTo M (untouched M from)
unfolding untouched
true_untouched M from e = refl

true_written : (M : Meaning) (c : Cell) (at : ℕ) (new : List ℕ) (m : ℕ) → TrueTo M (written c at new m)
unfolding written
true_written M c at new m e = absurd (none-some m (sym e))

sourced_kept : (M : Meaning) → Kept M (Sourced M)
unfolding with_task after_write
sourced_kept M = record {
  tasks = λ s t es h. h;
  mapped_cells = λ s r from h. record_both (TrueTo M) s r _ (λ i. true_untouched M (along i from)) h;
  copied_cells = λ s r q h. record_both (TrueTo M) s r (s.cells q) (h q) h;
  wrote = λ s e at new h. cell_both (TrueTo M) s e.sharing e.index _ (true_written M (cell_of s e) at new s.writes) h;
}

pub sources_kept : SourcesKept
unfolding start content_of
sources_kept M n calls = after_keeps (sourced_kept M) (start n) calls (λ r i e. refl)

-- the cell's mark, if it has one, is below n
abbrev BelowNumber : ℕ → Cell → Type 0
BelowNumber n c = (m : ℕ) → c.mark ≡ Some m → m < n

-- every mark is below the next write's number
abbrev Numbered : State → Type 0
Numbered s = (r i : ℕ) → BelowNumber s.writes (s.cells r i)

below_untouched : (M : Meaning) (from : Source) (n : ℕ) → BelowNumber n (untouched M from)
unfolding untouched
below_untouched M from n m e = absurd (none-some m e)

below_written : (c : Cell) (at : ℕ) (new : List ℕ) (n : ℕ) → BelowNumber (suc n) (written c at new n)
unfolding written
below_written c at new n m e = let same : n ≡ m = cc in omega arith

numbered_kept : (M : Meaning) → Kept M Numbered
unfolding with_task with_record after_write with_cell
numbered_kept M = record {
  tasks = λ s t es h. h;
  mapped_cells = λ s r from h. record_both (BelowNumber s.writes) s r _ (λ i. below_untouched M (along i from) s.writes) h;
  copied_cells = λ s r q h. record_both (BelowNumber s.writes) s r (s.cells q) (h q) h;
  wrote = λ s e at new h.
      cell_both (BelowNumber (suc s.writes)) s e.sharing e.index _ (below_written (cell_of s e) at new s.writes)
      (λ u i m k. let low : m < s.writes = h u i m k in omega arith);
}

numbered_after : (M : Meaning) (n : ℕ) (calls : List Call) → Numbered (after M (start n) calls)
unfolding start
numbered_after M n calls = after_keeps (numbered_kept M) (start n) calls (λ r i m e. absurd (none-some m e))

-- the next write's number never falls
AtLeast : ℕ → State → Type 0
AtLeast n s = n ≤ s.writes

at_least_kept : (M : Meaning) (n : ℕ) → Kept M (AtLeast n)
unfolding with_task with_record with_cell after_write AtLeast
at_least_kept M n = record {
  tasks = λ s t es h. h;
  mapped_cells = λ s r from h. h;
  copied_cells = λ s r q h. h;
  wrote = λ s e at new h. omega arith;
}

rises : (M : Meaning) (s : State) (calls : List Call) → s.writes ≤ (after M s calls).writes
unfolding AtLeast
rises M s calls = after_keeps (at_least_kept M s.writes) s calls (omega arith)

damage_refuses : (c : Content) (from : Source) (t address : ℕ) → Refusing (refuse_damage c from t address)
unfolding refuse_damage
damage_refuses (bytes bs) from t address = tt
damage_refuses (damaged d) from t address = refl

part_refuses : (b : Bool) (c : Content) (from : Source) (t address : ℕ) → Refusing (cond b (refuse_damage c from t address) None)
part_refuses true c from t address = damage_refuses c from t address
part_refuses false c from t address = tt

-- the written cell has the write's number as its mark
mark_written : (s : State) (e : Entry) (at : ℕ) (new : List ℕ) → ((after_write s e at new).cells e.sharing e.index).mark ≡ Some s.writes
unfolding after_write with_cell written
mark_written s e at new = rw (eq-eqb e.sharing e.sharing refl, eq-eqb e.index e.index refl) refl

-- an accepted write found an entry, and marked its cell
wrote_found : (found : Option Entry) (s : State) (memory t address : ℕ) (new : List ℕ) → (write_to found s memory t address new).reply ≡ done → (e : Entry) × (found ≡ Some e) × (((write_to found s memory t address new).next.cells e.sharing e.index).mark ≡ Some s.writes)
unfolding write_to accepted
wrote_found None s memory t address new e =
    absurd (both_ways true (passed 7 true _ s _ (next_test 4 _ _ s _ (next_test 2 _ _ s _ (next_test 1 _ _ s _ e)))) refl)
wrote_found (Some x) s memory t address new e =
    let left =
    judged_done _ s _ (refuse_refuses 1 _, (refuse_refuses 2 _, (refuse_refuses 4 _, (refuse_refuses 7 _, (refuse_refuses 10 _, (refuse_refuses 11 _, (part_refuses _ _ _ _ _, tt))))))) e in
    (x, refl, ap (λ (u : State). (u.cells x.sharing x.index).mark) left ∙ mark_written s x (address % 256) new)

pub marks_new : MarksNew
unfolding step
marks_new M n earlier later memory t address new e =
    let s = after M (start n) earlier in
    let u = after M s later in
    let found = wrote_found (entry_at u t address) u memory t address new e in
    record {
      entry = found.0;
      found = found.1;
      mark = u.writes;
      marked = found.2;
      unseen = λ r i k. let low : u.writes < s.writes = numbered_after M n earlier r i u.writes k in omega (arith, rises M s later);
    }
