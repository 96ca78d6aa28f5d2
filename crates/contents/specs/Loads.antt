-- How a cell's bytes are got, by where its walk ends.
use Rattle.std.specs.Prelude.{◌≡◌, ℕ, ◌*◌, min, List, take, drop, replicate, Ok, Err, Result}
use Rattle.chains.specs.declared.End.{End}
use Rattle.chains.specs.declared.End.TheVariants.{Frame, Zeros, Page}
use Rattle.pagers.specs.Meaning.{Meaning, bytes, damaged, fetched}
use Rattle.contents.specs.declared.fault.ObjectFault.{ObjectFault}

-- the bytes of frame k in the frame memory
abbrev pub frame_bytes : List ℕ → ℕ → List ℕ
frame_bytes memory k = take 256 (drop (256 * k) memory)

-- the number of a page as a pager takes it: no pager has a page past 65,535
abbrev pub page_number : ℕ → ℕ
page_number q = min q 65535

-- the bytes of the page that was fetched, or the pager's fault with the page that was wanted
abbrev pub FetchedPage : Meaning → ℕ → ℕ → Result (List ℕ) ObjectFault → Type 0
FetchedPage M m q (Ok page) = fetched M m q ≡ bytes page
FetchedPage M m q (Err f) = (fetched M m q ≡ damaged f.fault) × (f.wanted.object ≡ m) × (f.wanted.page ≡ q)

-- a frame's bytes, zeros, or the page
abbrev pub Loads : Meaning → List ℕ → End → Result (List ℕ) ObjectFault → Type 0
Loads M memory (Frame k) r = r ≡ Ok (frame_bytes memory k)
Loads M memory Zeros r = r ≡ Ok (replicate 256 0)
Loads M memory (Page m q) r = FetchedPage M m (page_number q) r
