-- What each call does: its tests in their order, and the state that an accepted call leaves.
use Rattle.std.specs.Prelude.{ℕ, suc, ◌+◌, ◌*◌, ◌/◌, ◌%◌, Bool, true, false, cond, not, ◌&&◌, ◌||◌, List, [], ◌∷◌, ◌++◌, length, take, drop, is_some, Some, None, Option, ◌==◌, nat_le, nat_lt}
use Rattle.std.specs.Option.{unwrap_or}
use Rattle.ranges.specs.Tables.{said, taken, inserted, removed, altered, covered}
use Rattle.pagers.specs.Meaning.{Content, Meaning, bytes, damaged}
use Rattle.machine.specs.declared.words.Entry.{Entry}
use Rattle.machine.specs.declared.words.Protection.TheVariants.{ReadWrite, None as Closed}
use Rattle.machine.specs.declared.words.Inheritance.{Inheritance}
use Rattle.machine.specs.declared.words.Inheritance.TheVariants.{Share, Copy, None as Left}
use Rattle.machine.specs.Words.{protection_at, inheritance_at, rank}
use Rattle.machine.specs.Entries.{entry_shape, protected, inheriting, resting}
use Rattle.machine.specs.Calls.{Source, zeros, page_of, Call, create, map_pages, unmap, protect, inherit, fork, write, read, exit, usage, Reply, done, gives, counts, refused, faulty}
use Rattle.machine.specs.State.{Cell, State, untouched, along, table, lives, all_entries, living_marks, living_records, new_record}

-- what a call answers, and the state after it
pub record Outcome : Type 0 where
  pub reply : Reply
  pub next : State

-- a test: refusal n where it holds
unfoldable pub refuse : ℕ → Bool → Option Reply
refuse n true = Some (refused n)
refuse n false = None

-- the first test that refuses answers, and leaves the state; otherwise the call is accepted
unfoldable pub judged : List (Option Reply) → State → Outcome → Outcome
judged [] s accepted = accepted
judged (Some r ∷ tests) s accepted = record { reply = r; next = s }
judged (None ∷ tests) s accepted = judged tests s accepted

-- the task's number is outside 1 to 16
unfoldable pub misnumbered : ℕ → Bool
misnumbered t = not (nat_le 1 t && nat_le t 16)

-- no living task has the number
unfoldable pub missing : State → ℕ → Bool
missing s t = misnumbered t || not (lives s t)

-- the pages are none, or pass the last page
unfoldable pub bad_range : ℕ → ℕ → Bool
bad_range start pages = pages == 0 || nat_lt 4096 (start + pages)

-- the bytes are none, over 256, cross a page end or pass the last page
unfoldable pub bad_bytes : ℕ → ℕ → Bool
bad_bytes address n = (n == 0 || nat_lt 256 n) || (nat_lt 256 (address % 256 + n) || nat_le 1048576 address)

-- a table has over 16 entries
unfoldable pub overfull : List Entry → Bool
overfull es = nat_lt 16 (length es)

-- the object's count does not cover the pages
unfoldable pub uncovered : Meaning → ℕ → Source → Bool
uncovered M pages zeros = false
uncovered M pages (page_of m q) = nat_lt (M.count m) (q + pages)

-- the frame memory is not of F × 256 bytes
unfoldable pub bad_memory : State → ℕ → Bool
bad_memory s memory = not (memory == s.frames * 256)

-- the state with a task's entries, or with the task ended
unfoldable pub with_task : State → ℕ → Option (List Entry) → State
with_task s t es = record { frames = s.frames; tasks = λ u. cond (u == t) es (s.tasks u); cells = s.cells; writes = s.writes }

-- the state with all cells of a record
unfoldable pub with_record : State → ℕ → (ℕ → Cell) → State
with_record s r cells = record { frames = s.frames; tasks = s.tasks; cells = λ u i. cond (u == r) (cells i) (s.cells u i); writes = s.writes }

-- the state after a write of a cell, which takes the next write's number
unfoldable pub with_cell : State → ℕ → ℕ → Cell → State
with_cell s r i c = record { frames = s.frames; tasks = s.tasks; cells = λ u j. cond (u == r && j == i) c (s.cells u j); writes = suc s.writes }

-- accepted, with nothing to tell
unfoldable pub accepted : State → Outcome
accepted s = record { reply = done; next = s }

-- Create

-- create: a task without entries
unfoldable pub created : State → ℕ → Outcome
created s t = judged (refuse 2 (misnumbered t) ∷ refuse 3 (lives s t) ∷ []) s (accepted (with_task s t (Some [])))

-- Map

-- the entry of a map: read and write, copied by a fork, with indices from 0
unfoldable pub fresh_entry : ℕ → ℕ → ℕ → Entry
fresh_entry r start pages = record { first = start; pages = pages; protection = ReadWrite; inheritance = Copy; sharing = r; index = 0 }

-- the task's table with the entry in it
unfoldable pub with_entry : State → ℕ → Entry → List Entry
with_entry s t e = inserted entry_shape e (table s t)

-- an entry on the record r, and unmarked cells over the source
unfoldable pub map_on : ℕ → Meaning → State → ℕ → ℕ → ℕ → Source → State
map_on r M s t start pages from = with_task (with_record s r (λ i. untouched M (along i from))) t (Some (with_entry s t (fresh_entry r start pages)))

-- map: an entry on a new record, over zeros or the pages of an object
unfoldable pub mapped : Meaning → State → ℕ → ℕ → ℕ → Source → Outcome
mapped M s t start pages from =
    judged
    (refuse 2 (missing s t)
    ∷ refuse 4 (bad_range start pages)
    ∷ refuse 6 (taken entry_shape (fresh_entry 0 start pages) (table s t))
    ∷ refuse 8 (uncovered M pages from)
    ∷ refuse 9 (overfull (with_entry s t (fresh_entry 0 start pages)))
    ∷ [])
    s (accepted (map_on (new_record s) M s t start pages from))

-- Unmap, protect and inherit

-- unmap: the pages of the range are taken out of the task's table, which then has to fit
unfoldable pub unmapped : State → ℕ → ℕ → ℕ → Outcome
unmapped s t start pages =
    let es = removed entry_shape start (start + pages) (table s t) in
    judged (refuse 2 (missing s t) ∷ refuse 4 (bad_range start pages) ∷ refuse 9 (overfull es) ∷ []) s (accepted (with_task s t (Some es)))

-- protect and inherit: each entry of the range altered by h, after a cut at its first page and after its last
unfoldable pub set_over : (Entry → Entry) → State → ℕ → ℕ → ℕ → ℕ → Outcome
set_over h s t start pages value =
    let es = altered entry_shape h start (start + pages) (table s t) in
    judged
    (refuse 2 (missing s t)
    ∷ refuse 4 (bad_range start pages)
    ∷ refuse 5 (nat_lt 2 value)
    ∷ refuse 7 (not (covered entry_shape start pages (table s t)))
    ∷ refuse 9 (overfull es)
    ∷ [])
    s (accepted (with_task s t (Some es)))

-- Fork

-- the child's table gains an entry behind its last
unfoldable pub given : State → ℕ → Entry → State
given s child e = with_task s child (Some (table s child ++ (e ∷ [])))

-- an equal entry on the record r, whose cells are copies
unfoldable pub copied_on : ℕ → State → ℕ → Entry → State
copied_on r s child e = given (with_record s r (s.cells e.sharing)) child (resting r e)

-- what the child gets of one entry
unfoldable pub handed : Inheritance → State → ℕ → Entry → State
handed Left s child e = s
handed Share s child e = given s child e
handed Copy s child e = copied_on (new_record s) s child e

-- what the child gets of the parent's entries, in order
unfoldable pub handed_all : State → ℕ → List Entry → State
handed_all s child [] = s
handed_all s child (e ∷ es) = handed_all (handed e.inheritance s child e) child es

-- fork: a child with what the parent's entries give it
unfoldable pub forked : State → ℕ → ℕ → Outcome
forked s parent child =
    judged (refuse 2 (missing s parent || misnumbered child) ∷ refuse 3 (lives s child) ∷ []) s
    (accepted (handed_all (with_task s child (Some [])) child (table s parent)))

-- Read and write

-- an entry that lets nothing be done, for a page that is not mapped
unfoldable pub no_entry : Entry
no_entry = record { first = 0; pages = 1; protection = Closed; inheritance = Left; sharing = 0; index = 0 }

-- what the task's table says of the address's page
unfoldable pub entry_at : State → ℕ → ℕ → Option Entry
entry_at s t address = said entry_shape (address / 256) (table s t)

-- the cell that an entry of one page names
unfoldable pub cell_of : State → Entry → Cell
cell_of s e = s.cells e.sharing e.index

-- the bytes of a cell; a damaged cell has none
unfoldable pub bytes_of : Content → List ℕ
bytes_of (bytes bs) = bs
bytes_of (damaged d) = []

-- the object of a source; zeros have none
unfoldable pub object_of : Source → ℕ
object_of zeros = 0
object_of (page_of m q) = m

-- the page of a source; zeros have none
unfoldable pub place_of : Source → ℕ
place_of zeros = 0
place_of (page_of m q) = q

-- the test for damage: refusal 12 at an address of a task, with the damage, and the object and page of the source
unfoldable pub refuse_damage : Content → Source → ℕ → ℕ → Option Reply
refuse_damage (bytes bs) from t address = None
refuse_damage (damaged d) from t address = Some (faulty (record { pager = d; object = object_of from; page = place_of from; task = t; address = address }))

-- read, with the entry that was found for the address: the bytes of its cell from the address's place on
unfoldable pub read_from : Option Entry → State → ℕ → ℕ → ℕ → ℕ → ℕ → Outcome
read_from found s memory t address n room =
    let e = unwrap_or found no_entry in
    let c = cell_of s e in
    judged
    (refuse 1 (bad_memory s memory)
    ∷ refuse 2 (missing s t)
    ∷ refuse 4 (bad_bytes address n || nat_lt room n)
    ∷ refuse 7 (not (is_some found))
    ∷ refuse 10 (nat_lt (rank e.protection) 1)
    ∷ refuse_damage c.content c.source t address
    ∷ [])
    s (record { reply = gives (take n (drop (address % 256) (bytes_of c.content))); next = s })

-- the old bytes with the new ones laid over them from a place on
unfoldable pub overlaid : ℕ → List ℕ → List ℕ → List ℕ
overlaid at new old = take at old ++ (new ++ drop (at + length new) old)

-- the written cell: its new bytes, its old source, and the write's number as its mark
unfoldable pub written : Cell → ℕ → List ℕ → ℕ → Cell
written c at new m = record { content = bytes (overlaid at new (bytes_of c.content)); source = c.source; mark = Some m }

-- the state after a write on the cell that an entry of one page names
unfoldable pub after_write : State → Entry → ℕ → List ℕ → State
after_write s e at new = with_cell s e.sharing e.index (written (cell_of s e) at new s.writes)

-- write, with the entry that was found for the address: new bytes and a new mark for its cell
unfoldable pub write_to : Option Entry → State → ℕ → ℕ → ℕ → List ℕ → Outcome
write_to found s memory t address new =
    let e = unwrap_or found no_entry in
    let c = cell_of s e in
    let s' = after_write s e (address % 256) new in
    judged
    (refuse 1 (bad_memory s memory)
    ∷ refuse 2 (missing s t)
    ∷ refuse 4 (bad_bytes address (length new))
    ∷ refuse 7 (not (is_some found))
    ∷ refuse 10 (nat_lt (rank e.protection) 2)
    ∷ refuse 11 (nat_lt s.frames (length (living_marks s')))
    ∷ cond (nat_lt (length new) 256) (refuse_damage c.content c.source t address) None
    ∷ [])
    s (accepted s')

-- Exit and usage

-- exit: the task and its entries end
unfoldable pub ended : State → ℕ → Outcome
ended s t = judged (refuse 2 (missing s t) ∷ []) s (accepted (with_task s t None))

-- usage: the entries of all tasks, the living records, the different living marks, and F
unfoldable pub counted : State → Outcome
counted s = record { reply = counts (length (all_entries s)) (length (living_records s)) (length (living_marks s)) s.frames; next = s }

-- The machine

-- one call
unfoldable pub step : Meaning → State → Call → Outcome
step M s (create t) = created s t
step M s (map_pages t start pages from) = mapped M s t start pages from
step M s (unmap t start pages) = unmapped s t start pages
step M s (protect t start pages value) = set_over (protected (protection_at value)) s t start pages value
step M s (inherit t start pages value) = set_over (inheriting (inheritance_at value)) s t start pages value
step M s (fork parent child) = forked s parent child
step M s (write memory t address new) = write_to (entry_at s t address) s memory t address new
step M s (read memory t address n room) = read_from (entry_at s t address) s memory t address n room
step M s (exit t) = ended s t
step M s usage = counted s

-- the state after a list of calls
unfoldable pub after : Meaning → State → List Call → State
after M s [] = s
after M s (call ∷ calls) = after M (step M s call).next calls

-- the replies to a list of calls, one by one
unfoldable pub replies : Meaning → State → List Call → List Reply
replies M s [] = []
replies M s (call ∷ calls) = (step M s call).reply ∷ replies M (step M s call).next calls
