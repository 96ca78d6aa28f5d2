-- What a pager means: how many pages each object has, and what each page holds.
use Rattle.std.specs.Prelude.{◌≡◌, ℕ, ◌-◌, ◌<◌, ◌≤◌, cond, List, length, Ok, Err, Result, nat_lt, slice_index}
use Rattle.pagers.specs.declared.PagerFault.{PagerFault}

-- what a page holds: its bytes, or the damage that stands in their place
pub data Content : Type 0 where
  bytes : List ℕ → Content
  damaged : PagerFault → Content

-- how many pages each object has, and what each page holds
pub record Meaning : Type 0 where
  -- the number of pages of an object
  pub count : ℕ → ℕ
  -- what a page of an object holds
  pub page : ℕ → ℕ → Content

-- a page has 256 bytes, each below 256; a damage has a cause from 2 to 255, and its numbers are of 16 bits
abbrev pub Whole : Content → Type 0
Whole (bytes bs) = (length bs ≡ 256) × ((k : ℕ) → slice_index bs k < 256)
Whole (damaged d) = (2 ≤ d.cause) × (d.cause < 256) × (d.object < 65536) × (d.page < 65536)

-- the bounds that every pager's meaning keeps
pub record Bounded (M : Meaning) : Type 0 where
  pub counts : (object : ℕ) → M.count object ≤ 4096
  pub pages : (object page : ℕ) → page < M.count object → Whole (M.page object page)

-- the fault of a page that is not there
abbrev pub missing : ℕ → ℕ → PagerFault
missing m p = record { cause = 0; object = m; page = p }

-- what a fetch of page p of object m comes to: the page, or cause 0 where there is none
abbrev pub fetched : Meaning → ℕ → ℕ → Content
fetched M m p = cond (nat_lt p (M.count m)) (M.page m p) (damaged (missing m p))

-- how a fetch answers: the buffer holds the bytes, or the fault is the damage and the buffer is as it was
abbrev pub Fetches : {X : Type 0} → Content → List ℕ → List ℕ → Result X PagerFault → Type 0
Fetches C before after (Ok _) = C ≡ bytes after
Fetches C before after (Err d) = (C ≡ damaged d) × (after ≡ before)

-- no object has a page
abbrev pub nothing : Meaning
nothing = record { count = λ m. 0; page = λ m p. damaged (missing m p) }

-- two in one: the first has the objects below s, the second the others, from its own object 0 on
abbrev pub paired : ℕ → Meaning → Meaning → Meaning
paired s A B = record {
  count = λ m. cond (nat_lt m s) (A.count m) (B.count (m - s));
  page = λ m p. cond (nat_lt m s) (A.page m p) (B.page (m - s) p);
}
