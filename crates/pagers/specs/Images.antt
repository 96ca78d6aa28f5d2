-- What an image file says, read off its bytes: page count, number of extents, the extents, the data.
use Rattle.std.specs.Prelude.{ℕ, zero, suc, ◌+◌, ◌*◌, Bool, true, false, cond, not, ◌&&◌, ◌||◌, List, [], ◌∷◌, length, take, drop, replicate, Some, None, Option, ◌==◌, nat_le, nat_lt, slice_index}
use Rattle.pagers.specs.declared.PagerFault.{PagerFault}
use Rattle.pagers.specs.declared.extent.Extent.{Extent}
use Rattle.pagers.specs.Extents.{extent, position_of}
use Rattle.pagers.specs.Meaning.{Meaning, Content, bytes, damaged}

-- the number in the two bytes from k on, high byte first
abbrev pub short_at : List ℕ → ℕ → ℕ
short_at file k = 256 * slice_index file k + slice_index file (k + 1)

-- the number in the four bytes from k on
abbrev pub long_at : List ℕ → ℕ → ℕ
long_at file k = 65536 * short_at file k + short_at file (k + 2)

-- bytes 0 and 1: the page count
abbrev pub page_count : List ℕ → ℕ
page_count file = short_at file 0

-- byte 2: the number of extents
abbrev pub extent_count : List ℕ → ℕ
extent_count file = slice_index file 2

-- eight bytes an extent from byte 3 on: its first page, its pages, its position
abbrev pub extent_at : List ℕ → ℕ → Extent
extent_at file i = extent (short_at file (3 + 8 * i)) (short_at file (5 + 8 * i)) (long_at file (7 + 8 * i))

-- an extent's eight bytes by themselves
abbrev pub extent_in : List ℕ → Extent
extent_in row = extent (short_at row 0) (short_at row 2) (long_at row 4)

-- the n extents from number i on
abbrev pub extents_from : List ℕ → ℕ → ℕ → List Extent
extents_from file i zero = []
extents_from file i (suc n) = extent_at file i ∷ extents_from file (i + 1) n

-- all extents, in file order
abbrev pub extents : List ℕ → List Extent
extents file = extents_from file 0 (extent_count file)

-- the data begins behind n extents
abbrev pub body_from : ℕ → List ℕ → List ℕ
body_from n file = drop (3 + 8 * n) file

-- page p is one of the extent's
abbrev pub has : ℕ → Extent → Bool
has p e = nat_le e.first p && nat_lt p (e.first + e.pages)

-- the extent has a page and does not pass the page count
abbrev pub within : ℕ → Extent → Bool
within pages e = nat_lt 0 e.pages && nat_le (e.first + e.pages) pages

-- two extents have a page in common
abbrev pub overlap : Extent → Extent → Bool
overlap a b = nat_lt a.first (b.first + b.pages) && nat_lt b.first (a.first + a.pages)

-- the extent has a page in common with one of the others
abbrev pub crosses : Extent → List Extent → Bool
crosses e [] = false
crosses e (x ∷ xs) = overlap e x || crosses e xs

-- each extent is within the page count, and has no page in common with one before it
abbrev pub sound : ℕ → List Extent → List Extent → Bool
sound pages before [] = true
sound pages before (e ∷ es) = (within pages e && not (crosses e before)) && sound pages (e ∷ before) es

-- the head is there: at most 4096 pages, at most 32 extents, and all their bytes
abbrev pub head_good : List ℕ → Bool
head_good file = ((nat_le 3 (length file) && nat_le (page_count file) 4096) && nat_le (extent_count file) 32) && nat_le (3 + 8 * extent_count file) (length file)

-- the file is an image
abbrev pub image_good : List ℕ → Bool
image_good file = head_good file && sound (page_count file) [] (extents file)

-- where page p begins in the data: as the first extent that has it says
abbrev pub place : ℕ → List Extent → Option ℕ
place p [] = None
place p (e ∷ es) = cond (has p e) (Some (position_of p e)) (place p es)

-- a page of zeros
unfoldable pub zeros : List ℕ
zeros = replicate 256 0

-- the damage of a page whose bytes do not all lie in the data
abbrev pub past_data : ℕ → PagerFault
past_data p = record { cause = 2; object = 0; page = p }

-- page p: zeros if it is in no extent, else the 256 bytes at its place, or cause 2 if they do not all lie in the data
abbrev pub stored : List ℕ → ℕ → Option ℕ → Content
stored body p None = bytes zeros
stored body p (Some k) =
    cond (nat_le (k + 256) (length body)) (bytes (take 256 (drop k body))) (damaged (past_data p))

-- object 0 alone has pages, and its extents say where they lie in the data
abbrev pub laid : ℕ → List Extent → List ℕ → Meaning
laid pages es body = record {
  count = λ m. cond (m == 0) pages 0;
  page = λ m p. stored body p (place p es);
}

-- what the file means
abbrev pub image_meaning : List ℕ → Meaning
image_meaning file = laid (page_count file) (extents file) (body_from (extent_count file) file)
