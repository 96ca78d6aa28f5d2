-- What holds of the tables of every store.
use Rattle.std.specs.Prelude.{◌≡◌, ℕ, ◌≤◌, true, false, Some}
use Rattle.chains.specs.declared.Owner.{Owner}
use Rattle.chains.specs.Rows.{live}
use Rattle.chains.specs.Walks.{ends_within}
use Rattle.objects.specs.declared.tables.Tables.{Tables}
use Rattle.objects.specs.View.{backing, owner_of, top_of, in_use, is_held, weight_of}

-- past the tables nothing is in use
abbrev pub ObjectsFew : Tables → Type 0
ObjectsFew t = (o : ℕ) → 511 ≤ o → live (backing t o) ≡ false

-- there are 256 records
abbrev pub RecordsFew : Tables → Type 0
RecordsFew t = (r : ℕ) → 256 ≤ r → in_use t r ≡ false

-- there are 128 frames
abbrev pub FramesFew : Tables → Type 0
FramesFew t = (s : ℕ) → 128 ≤ s → is_held t s ≡ false

-- tops are live
abbrev pub TopsLive : Tables → Type 0
TopsLive t = (r o : ℕ) → top_of t r ≡ Some o → live (backing t o) ≡ true

-- chains end at a root, so that shadowed objects are live and there is no cycle
abbrev pub ChainsEnd : Tables → Type 0
ChainsEnd t = (o : ℕ) → live (backing t o) ≡ true → ends_within 256 (backing t) o ≡ true

-- owners of held frames are live
abbrev pub OwnersLive : Tables → Type 0
OwnersLive t = (s : ℕ) (w : Owner) → owner_of t s ≡ Some w → live (backing t w.object) ≡ true

-- no two frames have one owner
abbrev pub OwnersApart : Tables → Type 0
OwnersApart t = (s k : ℕ) → (owner_of t s ≡ owner_of t k) × (is_held t s ≡ true) → s ≡ k

-- each live object is named by a record or shadowed by two objects
abbrev pub AllSettled : Tables → Type 0
AllSettled t = (o : ℕ) → live (backing t o) ≡ true → 2 ≤ weight_of t o
