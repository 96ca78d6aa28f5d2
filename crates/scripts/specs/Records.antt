-- What the bytes of a script mean: a list of calls, malformed records and at most one record that is cut short.
use Rattle.std.specs.Prelude.{◌≡◌, ℕ, zero, suc, ◌+◌, ◌*◌, ◌<◌, cond, ◌&&◌, List, [], ◌∷◌, length, take, drop, ◌==◌, nat_le, nat_lt, slice_index, Ok, Err, Result}
use Rattle.machine.specs.Calls.{Call, create, map_pages, unmap, protect, inherit, fork, write, read, exit, usage, zeros, page_of}
use Rattle.scripts.specs.declared.reader.Command.{Command}
use Rattle.scripts.specs.declared.reader.Command.TheVariants.{Create, MapZero, MapObject, Unmap, Protect, Inherit, Fork, Write, Read, Exit, Usage}
use Rattle.scripts.specs.declared.reader.BadRecord.{BadRecord}
use Rattle.scripts.specs.declared.reader.BadRecord.TheVariants.{Malformed, CutShort}

-- a record of a script
pub data Item : Type 0 where
  call : Call → Item
  malformed : Item
  cut_short : Item

-- two bytes as a number
abbrev pub two : ℕ → ℕ → ℕ
two a b = 256 * a + b

-- four bytes as a number
abbrev pub four : ℕ → ℕ → ℕ → ℕ → ℕ
four a b c d = 65536 * two a b + two c d

-- the byte at place i of a record
abbrev pub byte : ℕ → List ℕ → ℕ
byte i r = slice_index r i

-- the number in the two bytes from place i on
abbrev pub number : ℕ → List ℕ → ℕ
number i r = two (byte i r) (byte (suc i) r)

-- the address in the four bytes from place 2 on, where it is in a write and in a read
abbrev pub address : List ℕ → ℕ
address r = four (byte 2 r) (byte 3 r) (byte 4 r) (byte 5 r)

-- the call, where the record has n bytes, the operation's among them; another length is wrong
abbrev pub sized : ℕ → List ℕ → Call → Item
sized n r c = cond (length r == n) (call c) malformed

-- the call, where the record has 1 to 256 bytes after the address
abbrev pub writing : List ℕ → Call → Item
writing r c = cond (nat_le 7 (length r) && nat_le (length r) 262) (call c) malformed

-- create, fork, exit and usage
abbrev pub on_tasks : List ℕ → Item
on_tasks r =
    cond (byte 0 r == 1) (sized 2 r (create (byte 1 r)))
    (cond (byte 0 r == 7) (sized 3 r (fork (byte 1 r) (byte 2 r)))
    (cond (byte 0 r == 10) (sized 2 r (exit (byte 1 r)))
    (cond (byte 0 r == 11) (sized 1 r usage)
    malformed)))

-- map zero, map object, unmap, protect and inherit
abbrev pub on_ranges : List ℕ → Item
on_ranges r =
    cond (byte 0 r == 2) (sized 6 r (map_pages (byte 1 r) (number 2 r) (number 4 r) zeros))
    (cond (byte 0 r == 3) (sized 10 r (map_pages (byte 1 r) (number 2 r) (number 4 r) (page_of (number 6 r) (number 8 r))))
    (cond (byte 0 r == 4) (sized 6 r (unmap (byte 1 r) (number 2 r) (number 4 r)))
    (cond (byte 0 r == 5) (sized 7 r (protect (byte 1 r) (number 2 r) (number 4 r) (byte 6 r)))
    (cond (byte 0 r == 6) (sized 7 r (inherit (byte 1 r) (number 2 r) (number 4 r) (byte 6 r)))
    malformed))))

-- write and read; 32768 bytes are 128 frames of 256, and a read's buffer has 256
abbrev pub on_bytes : List ℕ → Item
on_bytes r =
    cond (byte 0 r == 8) (writing r (write 32768 (byte 1 r) (address r) (drop 6 r)))
    (cond (byte 0 r == 9) (sized 8 r (read 32768 (byte 1 r) (address r) (number 6 r) 256))
    malformed)

-- what the bytes of a record after its length mean; a record of no bytes is of no operation, as one of operation 0 is
abbrev pub meant : List ℕ → Item
meant r =
    cond (nat_le 2 (byte 0 r) && nat_le (byte 0 r) 6) (on_ranges r)
    (cond (nat_le 8 (byte 0 r) && nat_le (byte 0 r) 9) (on_bytes r)
    (on_tasks r))

-- the records of a script, in at most n steps
unfoldable pub reading : ℕ → List ℕ → List Item
reading zero s = []
reading (suc n) [] = []
reading (suc n) (a ∷ []) = cut_short ∷ []
reading (suc n) (a ∷ b ∷ s) = cond (nat_lt (length s) (two a b)) (cut_short ∷ []) (meant (take (two a b) s) ∷ reading n (drop (two a b) s))

-- the records of a script
unfoldable pub items : List ℕ → List Item
items s = reading (length s) s

-- a command as a call
abbrev pub machine_call : Command → Call
machine_call (Create t) = create t
machine_call (MapZero a) = map_pages a.task a.start a.pages zeros
machine_call (MapObject a m q) = map_pages a.task a.start a.pages (page_of m q)
machine_call (Unmap a) = unmap a.task a.start a.pages
machine_call (Protect a v) = protect a.task a.start a.pages v
machine_call (Inherit a v) = inherit a.task a.start a.pages v
machine_call (Fork p c) = fork p c
machine_call (Write t a bs) = write 32768 t a bs.now
machine_call (Read t a n) = read 32768 t a n 256
machine_call (Exit t) = exit t
machine_call Usage = usage

-- a record that was read as an item
abbrev pub item_of : Result Command BadRecord → Item
item_of (Ok c) = call (machine_call c)
item_of (Err Malformed) = malformed
item_of (Err CutShort) = cut_short

-- a script at its end, which has no record
pub record Ends (script : List ℕ) : Type 0 where
  pub empty : script ≡ []
  pub none : items script ≡ []

-- a script begins with the record, and the rest, which is shorter, follows
pub record Reads (script : List ℕ) (first : Result Command BadRecord) (rest : List ℕ) : Type 0 where
  pub begins : items script ≡ item_of first ∷ items rest
  pub shorter : length rest < length script
