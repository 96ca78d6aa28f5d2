-- What frames, walks and marks have to do with the machine's living cells.
use Rattle.std.specs.Prelude.{◌≡◌, ℕ, ◌<◌, Bool, true, List, Some, None, Option}
use Rattle.pagers.specs.Meaning.{Meaning, bytes}
use Rattle.machine.specs.Calls.{zeros, page_of}
use Rattle.machine.specs.State.{Cell, content_of}
use Rattle.chains.specs.declared.End.{End}
use Rattle.chains.specs.declared.End.TheVariants.{Frame, Zeros, Page}

-- what a cell has if its walk ends there: at a frame the frame's mark and bytes; at zeros or a page of the pager's
-- no mark, that source, and what the source holds
abbrev pub Shows : Meaning → (ℕ → List ℕ) → (ℕ → ℕ) → End → Cell → Type 0
Shows M frame mark (Frame k) c = (c.mark ≡ Some (mark k)) × (c.content ≡ bytes (frame k))
Shows M frame mark Zeros c = (c.mark ≡ None) × (c.source ≡ zeros) × (c.content ≡ content_of M zeros)
Shows M frame mark (Page m q) c = (c.mark ≡ None) × (c.source ≡ page_of m q) × (c.content ≡ content_of M (page_of m q)) × (q < M.count m)

-- the walks of the living cells end at what the cells have, and living marks and held frames are one to one
pub record Mirror (M : Meaning) (frame : ℕ → List ℕ) (mark : ℕ → ℕ) (writes : ℕ) (living : ℕ → ℕ → Type 0) (end : ℕ → ℕ → Option End) (cells : ℕ → ℕ → Cell) (held : ℕ → Bool) : Type 0 where
  pub shows : (r i : ℕ) → living r i → (e : End) × (end r i ≡ Some e) × Shows M frame mark e (cells r i)
  pub holds : (r i k : ℕ) → living r i → end r i ≡ Some (Frame k) → held k ≡ true
  pub reached : (k : ℕ) → held k ≡ true → (r : ℕ) × (i : ℕ) × living r i × (end r i ≡ Some (Frame k))
  pub single : (j k : ℕ) → held j ≡ true → held k ≡ true → mark j ≡ mark k → j ≡ k
  pub earlier : (k : ℕ) → held k ≡ true → mark k < writes
