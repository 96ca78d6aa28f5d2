-- Walks through the objects: as a relation, and as functions that compute.
use Rattle.std.specs.Prelude.{◌≡◌, ℕ, zero, suc, ◌+◌, Bool, true, false, cond, is_some, Some, None, Option, ◌==◌, ◌≢◌}
use Rattle.chains.specs.declared.Origin.{Origin}
use Rattle.chains.specs.declared.Backing.{Backing}
use Rattle.chains.specs.declared.Backing.TheVariants.{Free, Root, Shadow}
use Rattle.chains.specs.declared.Owner.{Owner}
use Rattle.chains.specs.declared.End.{End}
use Rattle.chains.specs.declared.End.TheVariants.{Frame}
use Rattle.chains.specs.Rows.{own, is_owned_by, source}

-- no frame belongs to index i of object o
abbrev pub Bare : (ℕ → Option Owner) → ℕ → ℕ → Type 0
Bare W o i = (s : ℕ) → W s ≢ Some (own o i)

-- the shadows from object o on end at a root after n objects
pub data Chain (B : ℕ → Backing) : ℕ → ℕ → Type 0 where
  root : {o : ℕ} {g : Origin} → B o ≡ Root g → Chain B o 1
  on : {o p n : ℕ} → B o ≡ Shadow p → Chain B p n → Chain B o (suc n)

-- the walk for index i from object o on ends at e after n objects
pub data Walks (B : ℕ → Backing) (W : ℕ → Option Owner) (i : ℕ) : ℕ → End → ℕ → Type 0 where
  at_frame : {o s : ℕ} → W s ≡ Some (own o i) → Walks B W i o (Frame s) 1
  at_root : {o : ℕ} {g : Origin} → Bare W o i → B o ≡ Root g → Walks B W i o (source g i) 1
  below : {o p n : ℕ} {e : End} → Bare W o i → B o ≡ Shadow p → Walks B W i p e n → Walks B W i o e (suc n)

-- the lowest number below n that passes the test
unfoldable pub lowest : ℕ → (ℕ → Bool) → Option ℕ
lowest zero p = None
lowest (suc n) p = elim (lowest n p) [ Some k ↦ Some k | None ↦ cond (p n) (Some n) None ]

-- the frame of index i of object o among the first F
abbrev pub slot_of : ℕ → (ℕ → Option Owner) → ℕ → ℕ → Option ℕ
slot_of F W o i = lowest F (λ s. is_owned_by o i (W s))

-- a frame's owner once object o is freed
abbrev pub dropped : ℕ → Option Owner → Option Owner
dropped o None = None
dropped o (Some w) = cond (w.object == o) None (Some w)

-- a frame's owner once object o has collapsed into q: it moves up where q has none for its index, and goes where q has one
abbrev pub lifted : ℕ → (ℕ → Option Owner) → ℕ → ℕ → Option Owner → Option Owner
lifted F W o q None = None
lifted F W o q (Some w) = cond (w.object == o) (cond (is_some (slot_of F W q w.index)) None (Some (own q w.index))) (Some w)

-- the chain from object o on ends within k objects
unfoldable pub ends_within : ℕ → (ℕ → Backing) → ℕ → Bool
ends_within zero B o = false
ends_within (suc k) B o = elim (B o) [ Free ↦ false | Root g ↦ true | Shadow p ↦ ends_within k B p ]

-- where the walk for index i from object o on ends, if it does so within k objects
unfoldable pub end_within : ℕ → ℕ → (ℕ → Backing) → (ℕ → Option Owner) → ℕ → ℕ → Option End
end_within zero F B W o i = None
end_within (suc k) F B W o i =
    elim (slot_of F W o i) [
      | Some s ↦ Some (Frame s)
      | None ↦ elim (B o) [ Free ↦ None | Root g ↦ Some (source g i) | Shadow p ↦ end_within k F B W p i ]
    ]

-- and how many objects it visits
unfoldable pub length_within : ℕ → ℕ → (ℕ → Backing) → (ℕ → Option Owner) → ℕ → ℕ → ℕ
length_within zero F B W o i = 0
length_within (suc k) F B W o i =
    elim (slot_of F W o i) [
      | Some s ↦ 1
      | None ↦ elim (B o) [ Free ↦ 0 | Root g ↦ 1 | Shadow p ↦ length_within k F B W p i + 1 ]
    ]
