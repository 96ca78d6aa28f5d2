-- The tables as functions from numbers, and what is said of them.
use Rattle.std.specs.Prelude.{◌≡◌, ℕ, ◌≤◌, Bool, true, is_some, Some, None, Option, ◌≢◌, slice_index_or, slice_set}
use Rattle.chains.specs.declared.Origin.{Origin}
use Rattle.chains.specs.declared.Backing.{Backing}
use Rattle.chains.specs.declared.Backing.TheVariants.{Free, Root, Shadow}
use Rattle.chains.specs.declared.Owner.{Owner}
use Rattle.chains.specs.declared.End.{End}
use Rattle.chains.specs.Rows.{live, own, count, weight}
use Rattle.chains.specs.Walks.{end_within, length_within}
use Rattle.chains.specs.Sound.{Formed, Sound, Settles}
use Rattle.objects.specs.declared.tables.Tables.{Tables}

-- an object's row
abbrev pub backing : Tables → ℕ → Backing
backing t o = slice_index_or t.objects o Free

-- a frame's owner
abbrev pub owner_of : Tables → ℕ → Option Owner
owner_of t s = slice_index_or t.frames s None

-- a record's top
abbrev pub top_of : Tables → ℕ → Option ℕ
top_of t r = slice_index_or t.records r None

-- the record is in use
abbrev pub in_use : Tables → ℕ → Bool
in_use t r = is_some (top_of t r)

-- the frame is held
abbrev pub is_held : Tables → ℕ → Bool
is_held t s = is_some (owner_of t s)

-- how many records are in use
abbrev pub records_used : Tables → ℕ
records_used t = count 256 (in_use t)

-- how many frames are held
abbrev pub frames_held : Tables → ℕ
frames_held t = count 128 (is_held t)

-- where the walk for a record and an index ends
unfoldable pub walk_end : Tables → ℕ → ℕ → Option End
walk_end t r i = elim (top_of t r) [ None ↦ None | Some o ↦ end_within 256 128 (backing t) (owner_of t) o i ]

-- how many objects it visits
unfoldable pub walk_length : Tables → ℕ → ℕ → ℕ
walk_length t r i = elim (top_of t r) [ None ↦ 0 | Some o ↦ length_within 256 128 (backing t) (owner_of t) o i ]

-- twice the records that name the object, and the objects that shadow it
abbrev pub weight_of : Tables → ℕ → ℕ
weight_of t o = weight 511 256 (backing t) (top_of t) o

-- the tables hold together
abbrev pub FormedTables : Tables → Type 0
FormedTables t = Formed 511 256 128 (backing t) (owner_of t) (top_of t)

-- and every object is settled
abbrev pub SoundTables : Tables → Type 0
SoundTables t = Sound 511 256 128 (backing t) (owner_of t) (top_of t)

-- each live object but o is settled
abbrev pub OthersSettled : Tables → ℕ → Type 0
OthersSettled t o = (a : ℕ) → live (backing t a) ≡ true → (a ≢ o) → 2 ≤ weight_of t a

-- the records are as they were, all is settled, and no walk's end and no frame's index has changed
abbrev pub SettledFrom : Tables → Tables → Type 0
SettledFrom t t' = (t'.records ≡ t.records) × Settles 511 256 128 (backing t) (backing t') (owner_of t) (owner_of t') (top_of t)

-- the tables with record r on top x
abbrev pub with_top : Tables → ℕ → Option ℕ → Tables
with_top t r x = record { records = slice_set t.records r x; objects = t.objects; frames = t.frames }

-- the tables with record r on object o, a new root
abbrev pub with_root : Tables → ℕ → ℕ → Origin → Tables
with_root t r o g = record { records = slice_set t.records r (Some o); objects = slice_set t.objects o (Root g); frames = t.frames }

-- the tables with object p a new shadow between record r and object o
abbrev pub with_shadow : Tables → ℕ → ℕ → ℕ → Tables
with_shadow t r o p = record { records = slice_set t.records r (Some p); objects = slice_set t.objects p (Shadow o); frames = t.frames }

-- the tables with frame s at index i of object o
abbrev pub with_frame : Tables → ℕ → ℕ → ℕ → Tables
with_frame t o i s = record { records = t.records; objects = t.objects; frames = slice_set t.frames s (Some (own o i)) }

-- the tables without frame s
abbrev pub without_frame : Tables → ℕ → Tables
without_frame t s = record { records = t.records; objects = t.objects; frames = slice_set t.frames s None }
