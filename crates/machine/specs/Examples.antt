-- Eight worked examples, as one table: a number of frames, a pager, calls, and the replies that the machine gives.
use Rattle.std.specs.Prelude.{◌≡◌, ℕ, zero, suc, ◌+◌, ◌*◌, cond, List, [], ◌∷◌, ◌++◌, replicate, ◌==◌}
use Rattle.std.specs.List.{AllByRecursion}
use Rattle.pagers.specs.Meaning.{Meaning, damaged}
use Rattle.pagers.specs.Pattern.{pattern}
use Rattle.machine.specs.Calls.{Call, zeros, page_of, create, map_pages, unmap, protect, inherit, fork, write, read, exit, Reply, done, gives, refused, faulty}
use Rattle.machine.specs.State.{start}
use Rattle.machine.specs.Step.{replies}

-- a number of frames, a pager, calls, and the replies to them
pub record Example : Type 0 where
  pub frames : ℕ
  pub pager : Meaning
  pub calls : List Call
  pub expected : List Reply

-- the machine gives the expected replies, one by one
abbrev pub Holds : Example → Type 0
Holds x = replies x.pager (start x.frames) x.calls ≡ x.expected

-- n calls that are accepted
unfoldable pub accepted_calls : ℕ → List Reply
accepted_calls n = replicate n done

-- maps of one page of zeros for task 1, n of them, at pages p, p + 2 and so on
unfoldable pub single_pages : ℕ → ℕ → List Call
single_pages p zero = []
single_pages p (suc n) = map_pages 1 p 1 zeros ∷ single_pages (2 + p) n

-- task 1 with 3 pages of zeros at page 10, and n entries of one page
unfoldable pub crowded : ℕ → List Call
crowded n = create 1 ∷ (map_pages 1 10 3 zeros ∷ single_pages 20 n)

-- the frame memory of F frames
unfoldable pub memory : ℕ → ℕ
memory n = n * 256

-- a pager whose object 0 has one page, and that is damaged
unfoldable pub broken : Meaning
broken = record { count = λ m. cond (m == 0) 1 0; page = λ m p. damaged (record { cause = 2; object = 0; page = 0 }) }

-- the last page of a task
unfoldable pub at_last_page : Example
at_last_page = record {
  frames = 128;
  pager = pattern;
  calls = create 1 ∷ map_pages 1 4095 1 zeros ∷ map_pages 1 4095 2 zeros ∷ map_pages 1 4095 0 zeros ∷ [];
  expected = done ∷ done ∷ refused 4 ∷ refused 4 ∷ [];
}

-- pages of a pager's object
unfoldable pub from_pattern : Example
from_pattern = record {
  frames = 128;
  pager = pattern;
  calls = create 1 ∷ map_pages 1 4 2 (page_of 0 2) ∷ read (memory 128) 1 1024 3 256 ∷ [];
  expected = done ∷ done ∷ gives (0x3e ∷ 0x3f ∷ 0x40 ∷ []) ∷ [];
}

-- two frames: a third mark is refused, until the task that holds one of them ends
unfoldable pub two_frames : Example
two_frames = record {
  frames = 2;
  pager = pattern;
  calls =
      create 1
      ∷ map_pages 1 4 1 zeros
      ∷ write (memory 2) 1 1024 (0xaa ∷ [])
      ∷ fork 1 2
      ∷ write (memory 2) 1 1024 (0xbb ∷ [])
      ∷ fork 2 3
      ∷ write (memory 2) 2 1024 (0xcc ∷ [])
      ∷ exit 3
      ∷ write (memory 2) 2 1024 (0xcc ∷ [])
      ∷ [];
  expected = accepted_calls 6 ++ (refused 11 ∷ done ∷ done ∷ []);
}

-- two frames: a mark that is on the written cell alone makes room for the new one
unfoldable pub page_released : Example
page_released = record {
  frames = 2;
  pager = pattern;
  calls =
      create 1
      ∷ map_pages 1 4 2 zeros
      ∷ write (memory 2) 1 1024 (0xaa ∷ [])
      ∷ write (memory 2) 1 1280 (0xbb ∷ [])
      ∷ fork 1 2
      ∷ unmap 2 4 1
      ∷ write (memory 2) 1 1024 (0xcc ∷ [])
      ∷ write (memory 2) 1 1280 (0xdd ∷ [])
      ∷ [];
  expected = accepted_calls 7 ++ (refused 11 ∷ []);
}

-- a child that shares sees a later write, a child that copies does not
unfoldable pub share_then_copy : Example
share_then_copy = record {
  frames = 128;
  pager = pattern;
  calls =
      create 1
      ∷ map_pages 1 4 1 zeros
      ∷ write (memory 128) 1 1024 (0xaa ∷ [])
      ∷ inherit 1 4 1 1
      ∷ fork 1 2
      ∷ inherit 1 4 1 2
      ∷ fork 1 3
      ∷ write (memory 128) 1 1024 (0xdd ∷ [])
      ∷ read (memory 128) 2 1024 1 256
      ∷ read (memory 128) 3 1024 1 256
      ∷ [];
  expected = accepted_calls 8 ++ (gives (0xdd ∷ []) ∷ gives (0xaa ∷ []) ∷ []);
}

-- 14 entries leave room for two cuts, 15 do not
unfoldable pub fourteen_entries : Example
fourteen_entries = record {
  frames = 128;
  pager = pattern;
  calls = crowded 13 ++ (protect 1 11 1 1 ∷ (map_pages 1 60 1 zeros ∷ []));
  expected = accepted_calls 16 ++ (refused 9 ∷ []);
}

-- with 15 entries the middle of one cannot be protected
unfoldable pub fifteen_entries : Example
fifteen_entries = record {
  frames = 128;
  pager = pattern;
  calls = crowded 14 ++ (protect 1 11 1 1 ∷ []);
  expected = accepted_calls 16 ++ (refused 9 ∷ []);
}

-- 16 entries: the middle of one cannot be unmapped, all of it can
unfoldable pub sixteen_entries : Example
sixteen_entries = record {
  frames = 128;
  pager = pattern;
  calls = crowded 15 ++ (unmap 1 11 1 ∷ (unmap 1 10 3 ∷ []));
  expected = accepted_calls 17 ++ (refused 9 ∷ done ∷ []);
}

-- one frame and a damaged page: it can be neither read nor written in part, but written whole
unfoldable pub damaged_page : Example
damaged_page = record {
  frames = 1;
  pager = broken;
  calls =
      create 1
      ∷ map_pages 1 4 1 (page_of 0 0)
      ∷ read (memory 1) 1 1024 1 256
      ∷ write (memory 1) 1 1024 (0xaa ∷ [])
      ∷ write (memory 1) 1 1024 (replicate 256 0xaa)
      ∷ [];
  expected =
      let fault = faulty (record { pager = record { cause = 2; object = 0; page = 0 }; object = 0; page = 0; task = 1; address = 1024 }) in
      done ∷ done ∷ fault ∷ fault ∷ done ∷ [];
}

-- the table; the row of 14 or 15 entries is two
unfoldable pub examples : List Example
examples =
    at_last_page
    ∷ from_pattern
    ∷ two_frames
    ∷ page_released
    ∷ share_then_copy
    ∷ fourteen_entries
    ∷ fifteen_entries
    ∷ sixteen_entries
    ∷ damaged_page
    ∷ []

-- every example holds
abbrev pub ExamplesHold : Type 0
ExamplesHold = AllByRecursion Holds examples
