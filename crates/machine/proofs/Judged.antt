-- What a row of tests comes to.
use Rattle.std.proofs.Common.{◌≡◌, ℕ, Bool, true, false, List, [], ◌∷◌, Some, None, Option, refl, ap}
use Rattle.std.proofs.lemmas.Bool.{both_ways}
use Rattle.std.specs.List.{AllByRecursion}
use Rattle.machine.specs.Calls.{Reply, done, refused}
use Rattle.machine.specs.State.{State}
use Rattle.machine.specs.Step.{Outcome, refuse, judged}
use Rattle.machine.specs.Laws.{refuses}

-- a test that fails to refuse is passed over
pub passes : (n : ℕ) (b : Bool) (tests : List (Option Reply)) (s : State) (o : Outcome) → b ≡ false → judged (refuse n b ∷ tests) s o ≡ judged tests s o
unfolding judged refuse
passes n true tests s o e = absurd (both_ways true e refl)
passes n false tests s o e = refl

-- a test that refuses answers
pub stops : (n : ℕ) (b : Bool) (tests : List (Option Reply)) (s : State) (o : Outcome) → b ≡ true → judged (refuse n b ∷ tests) s o ≡ record { reply = refused n; next = s }
unfolding judged refuse
stops n true tests s o e = refl
stops n false tests s o e = absurd (both_ways false refl e)

-- an accepted call has passed its first test
pub passed : (n : ℕ) (b : Bool) (tests : List (Option Reply)) (s : State) (o : Outcome) → (judged (refuse n b ∷ tests) s o).reply ≡ done → b ≡ false
unfolding judged refuse
passed n true tests s o e = cc
passed n false tests s o e = refl

-- a refusal is a test's, and leaves the state
pub judged_keeps : (tests : List (Option Reply)) (s : State) (o : Outcome) → refuses o.reply ≡ false → refuses (judged tests s o).reply ≡ true → (judged tests s o).next ≡ s
unfolding judged
judged_keeps [] s o a e = absurd (both_ways _ a e)
judged_keeps (Some r ∷ tests) s o a e = refl
judged_keeps (None ∷ tests) s o a e = judged_keeps tests s o a e

-- what holds of the state and of the accepted one holds after the tests
pub judged_both : (P : State → Type 0) (tests : List (Option Reply)) (s : State) (o : Outcome) → P s → P o.next → P (judged tests s o).next
unfolding judged
judged_both P [] s o h k = k
judged_both P (Some r ∷ tests) s o h k = h
judged_both P (None ∷ tests) s o h k = judged_both P tests s o h k

-- an accepted call is accepted by the tests after its first
pub next_test : (n : ℕ) (b : Bool) (tests : List (Option Reply)) (s : State) (o : Outcome) → (judged (refuse n b ∷ tests) s o).reply ≡ done → (judged tests s o).reply ≡ done
next_test n b tests s o e = rw (passes n b tests s o (passed n b tests s o e)) at e

-- a test answers by a refusal, if at all
abbrev pub Refusing : Option Reply → Type 0
Refusing None = Unit {0}
Refusing (Some r) = refuses r ≡ true

pub refuse_refuses : (n : ℕ) (b : Bool) → Refusing (refuse n b)
unfolding refuse
refuse_refuses n true = refl
refuse_refuses n false = tt

-- an accepted call leaves the state that it is said to leave
pub judged_done : (tests : List (Option Reply)) (s : State) (o : Outcome) → AllByRecursion Refusing tests → (judged tests s o).reply ≡ done → (judged tests s o).next ≡ o.next
unfolding judged
judged_done [] s o all e = refl
judged_done (Some r ∷ tests) s o all e = absurd (both_ways (refuses r) (ap refuses e) all.0)
judged_done (None ∷ tests) s o all e = judged_done tests s o all.1 e
