-- What usage counts where no task has an entry.
use Rattle.std.proofs.Common.{◌≡◌, ℕ, List, [], ◌∷◌, unwrap_or, refl}
use Rattle.std.specs.List.{flat_map}
use Rattle.machine.specs.State.{State, numbers, table, all_entries}

none_joined : {A : Type 0} (f : ℕ → List A) (ts : List ℕ) → ((t : ℕ) → f t ≡ []) → flat_map f ts ≡ []
none_joined f [] h = refl
none_joined f (t ∷ ts) h = rw (h t) (none_joined f ts h)

pub no_entries : (s : State) → ((t : ℕ) → unwrap_or (s.tasks t) [] ≡ []) → all_entries s ≡ []
unfolding all_entries table
no_entries s h = none_joined (table s) numbers h
