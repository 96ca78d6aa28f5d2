-- What the calls promise, in terms of walks: t are the tables before, t' those after.
use Rattle.std.specs.Prelude.{◌≡◌, ℕ, ◌<◌, Bool, true, false, not, ◌&&◌, ◌||◌, ◌⊎◌, Some, None, Option, ◌==◌, ◌≢◌, nat_lt}
use Rattle.std.specs.declared.ops.ControlFlow.{ControlFlow}
use Rattle.std.specs.declared.ops.ControlFlow.TheVariants.{Continue, Break}
use Rattle.chains.specs.declared.Origin.{Origin}
use Rattle.chains.specs.declared.Backing.{Backing}
use Rattle.chains.specs.declared.Backing.TheVariants.{Free, Root, Shadow}
use Rattle.chains.specs.declared.Owner.{Owner}
use Rattle.chains.specs.declared.End.{End}
use Rattle.chains.specs.declared.End.TheVariants.{Frame}
use Rattle.chains.specs.Rows.{source}
use Rattle.chains.specs.Walks.{lowest, slot_of}
use Rattle.objects.specs.declared.tables.Tables.{Tables}
use Rattle.objects.specs.View.{backing, owner_of, top_of, in_use, is_held, walk_end, walk_length, weight_of}

-- the record that a call gives: the lowest that is not in use
abbrev pub unused_record : Tables → Option ℕ
unused_record t = lowest 256 (λ k. not (in_use t k))

-- one record more is in use
abbrev pub UsesMore : Tables → Tables → ℕ → Type 0
UsesMore t t' n = (k : ℕ) → in_use t' k ≡ (in_use t k || k == n)

-- one record less
abbrev pub UsesLess : Tables → Tables → ℕ → Type 0
UsesLess t t' n = (k : ℕ) → in_use t' k ≡ (in_use t k && not (k == n))

-- the same records are in use
abbrev pub UsesSame : Tables → Tables → Type 0
UsesSame t t' = (k : ℕ) → in_use t' k ≡ in_use t k

-- the walks of a new record end at its origin, after one object
abbrev pub Starts : Tables → ℕ → Origin → Type 0
Starts t n g = (i : ℕ) → (walk_end t n i ≡ Some (source g i)) × (walk_length t n i ≡ 1)

-- the walks of record n end where those of record r did
abbrev pub Copies : Tables → Tables → ℕ → ℕ → Type 0
Copies t t' n r = (i : ℕ) → walk_end t' n i ≡ walk_end t r i

-- all walks end where they did
abbrev pub KeepsWalks : Tables → Tables → Type 0
KeepsWalks t t' = (k i : ℕ) → in_use t k ≡ true → walk_end t' k i ≡ walk_end t k i

-- those of all records but r
abbrev pub KeepsOthers : Tables → Tables → ℕ → Type 0
KeepsOthers t t' r = (k i : ℕ) → in_use t k ≡ true → (k ≢ r) → walk_end t' k i ≡ walk_end t k i

-- those that did not end at frame s, but that of record r at index i
abbrev pub KeepsApart : Tables → Tables → ℕ → ℕ → ℕ → Type 0
KeepsApart t t' r i s = (k j : ℕ) → in_use t k ≡ true → (k ≡ r → j ≢ i) → (walk_end t k j ≢ Some (Frame s)) → walk_end t' k j ≡ walk_end t k j

-- those that did not end at frame s
abbrev pub KeepsWithout : Tables → Tables → ℕ → Type 0
KeepsWithout t t' s = (k j : ℕ) → in_use t k ≡ true → (walk_end t k j ≢ Some (Frame s)) → walk_end t' k j ≡ walk_end t k j

-- the index that a frame is held for
abbrev pub index_of : Option Owner → Option ℕ
index_of None = None
index_of (Some w) = Some w.index

-- each frame is free, or held for the index that it was held for
abbrev pub FreesOnly : Tables → Tables → Type 0
FreesOnly t t' = (s : ℕ) → (owner_of t' s ≡ None) ⊎ (index_of (owner_of t' s) ≡ index_of (owner_of t s))

-- each frame at which a walk of a record but r ended is held
abbrev pub HoldsReached : Tables → Tables → ℕ → Type 0
HoldsReached t t' r = (k i s : ℕ) → in_use t k ≡ true → (k ≢ r) → walk_end t k i ≡ Some (Frame s) → is_held t' s ≡ true

-- every frame but s has the owner that it had
abbrev pub KeepsOwners : Tables → Tables → ℕ → Type 0
KeepsOwners t t' s = (k : ℕ) → (k ≢ s) → owner_of t' k ≡ owner_of t k

-- another frame than s belongs to index i of object o
abbrev pub other_frame : Option ℕ → ℕ → Bool
other_frame None s = false
other_frame (Some k) s = not (k == s)

-- frame s can be put at index i of object o: a new shadow of o will have it, or o itself, where no other frame is there
abbrev pub placeable_at : Tables → ℕ → ℕ → ℕ → Bool
placeable_at t o i s = nat_lt s 128 && (nat_lt 2 (weight_of t o) || not (other_frame (slot_of 128 (owner_of t) o i) s))

-- of the top of record r
abbrev pub placeable_on : Tables → Option ℕ → ℕ → ℕ → Bool
placeable_on t None i s = false
placeable_on t (Some o) i s = placeable_at t o i s

-- frame s can be put in the place for a write of record r at index i
abbrev pub placeable : Tables → ℕ → ℕ → ℕ → Bool
placeable t r i s = placeable_on t (top_of t r) i s

-- frame s is taken if the walk of record r at index i ends at no other frame
abbrev pub TakesOwn : Tables → ℕ → ℕ → ℕ → Bool → Type 0
TakesOwn t r i s b = in_use t r ≡ true → s < 128 → ((k : ℕ) → walk_end t r i ≡ Some (Frame k) → k ≡ s) → b ≡ true

-- and if it ends at a frame at which another record's walk ends too
abbrev pub TakesShared : Tables → ℕ → ℕ → ℕ → Bool → Type 0
TakesShared t r i s b = (k f : ℕ) → (k ≢ r) → in_use t r ≡ true → in_use t k ≡ true → s < 128 → walk_end t r i ≡ Some (Frame f) → walk_end t k i ≡ Some (Frame f) → b ≡ true

-- what a walk for index i does at object o: it ends, or goes on to the object below
abbrev pub step_on : Option ℕ → Backing → ℕ → Option (ControlFlow End ℕ)
step_on (Some s) b i = Some (Break (Frame s))
step_on None Free i = None
step_on None (Root g) i = Some (Break (source g i))
step_on None (Shadow p) i = Some (Continue p)

-- by the frame and the row that it finds there
abbrev pub step_at : Tables → ℕ → ℕ → Option (ControlFlow End ℕ)
step_at t o i = step_on (slot_of 128 (owner_of t) o i) (backing t o) i
