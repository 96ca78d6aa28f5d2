-- The tables as functions from numbers: backings of objects, owners of frames, tops of records.
use Rattle.std.specs.Prelude.{ℕ, zero, suc, ◌+◌, ◌*◌, Bool, true, false, ◌&&◌, Some, None, Option, ◌==◌}
use Rattle.chains.specs.declared.Origin.{Origin}
use Rattle.chains.specs.declared.Origin.TheVariants.{Zeros, Page}
use Rattle.chains.specs.declared.Backing.{Backing}
use Rattle.chains.specs.declared.Backing.TheVariants.{Free, Root, Shadow}
use Rattle.chains.specs.declared.Owner.{Owner}
use Rattle.chains.specs.declared.End.{End}
use Rattle.chains.specs.declared.End.TheVariants.{Zeros as at_zeros, Page as at_page}

-- the row is in use
abbrev pub live : Backing → Bool
live Free = false
live (Root g) = true
live (Shadow p) = true

-- the row shadows object o
abbrev pub is_shadowing : ℕ → Backing → Bool
is_shadowing o Free = false
is_shadowing o (Root g) = false
is_shadowing o (Shadow p) = p == o

-- the record's top is object o
abbrev pub is_naming : ℕ → Option ℕ → Bool
is_naming o None = false
is_naming o (Some p) = p == o

-- the owner of index i of object o
abbrev pub own : ℕ → ℕ → Owner
own o i = record { object = o; index = i }

-- the frame belongs to index i of object o
abbrev pub is_owned_by : ℕ → ℕ → Option Owner → Bool
is_owned_by o i None = false
is_owned_by o i (Some w) = w.object == o && w.index == i

-- where a walk ends that finds no frame
abbrev pub source : Origin → ℕ → End
source Zeros i = at_zeros
source (Page m q) i = at_page m (q + i)

-- f 0 + .. + f (n - 1)
unfoldable pub sum_to : ℕ → (ℕ → ℕ) → ℕ
sum_to zero f = 0
sum_to (suc n) f = sum_to n f + f n

-- a test as a number: 1 where it holds
abbrev pub bit : Bool → ℕ
bit true = 1
bit false = 0

-- how many numbers below n pass the test
abbrev pub count : ℕ → (ℕ → Bool) → ℕ
count n p = sum_to n (λ k. bit (p k))

-- twice the records that name the object, and the objects that shadow it
abbrev pub weight : ℕ → ℕ → (ℕ → Backing) → (ℕ → Option ℕ) → ℕ → ℕ
weight N M B T o = 2 * count M (λ r. is_naming o (T r)) + count N (λ p. is_shadowing o (B p))
