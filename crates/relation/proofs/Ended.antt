-- What holds of marks, frames, walks and sources wherever tables stand for a state.
use Rattle.std.proofs.Common.{◌≡◌, ℕ, ◌≤◌, true, false, List, length, Some, None, sym, ap, ◌∙◌, subst, arith}
use Rattle.pagers.specs.Meaning.{Meaning, bytes}
use Rattle.machine.specs.State.{Cell, State, table, living_records}
use Rattle.chains.specs.declared.End.{End}
use Rattle.chains.specs.declared.End.TheVariants.{Frame, Zeros, Page}
use Rattle.objects.specs.declared.tables.Tables.{Tables}
use Rattle.objects.specs.View.{in_use, is_held, walk_end, walk_length, SoundTables}
use Rattle.objects.proofs.Ends.{used_top, walk_of, walk_few, length_is}
use Rattle.tasks.specs.Tables.{Place}
use Rattle.relation.specs.Living.{Living}
use Rattle.relation.specs.Mirror.{Shows}
use Rattle.relation.specs.Stands.{RecordsNamed, frame_of, Stands}
use Rattle.relation.specs.Law.{MarkIn, MarksAndFrames, end_of, WalksAndSources}
use Rattle.relation.proofs.Named.{living_named}
use Rattle.relation.proofs.Standing.{living_rows}
use Rattle.relation.proofs.Tallies.{marked_frame, same_end, none_mark, some_mark}
use Rattle.relation.proofs.Using.{records_counted}

-- an unmarked cell's walk ends at its source
unmarked_end : (M : Meaning) (frame : ℕ → List ℕ) (mark : ℕ → ℕ) (e : End) (c : Cell) → Shows M frame mark e c → c.mark ≡ None → e ≡ end_of c.source
unmarked_end M frame mark (Frame k) c h q = absurd (none_mark (mark k) (sym q ∙ h.0))
unmarked_end M frame mark Zeros c h q = sym (ap end_of h.1)
unmarked_end M frame mark (Page m p) c h q = sym (ap end_of h.1)

module _ (F : ℕ) (tasks : List Place) (t : Tables) (memory : List ℕ) (M : Meaning) (s : State) (h : Stands F tasks t memory M s) where
  -- a living cell whose walk ends at a frame has the frame's mark and bytes
  at_frame : (r i k : ℕ) → Living (table s) r i → walk_end t r i ≡ Some (Frame k) → ((s.cells r i).mark ≡ Some (h.mark k)) × ((s.cells r i).content ≡ bytes (frame_of memory k))
  at_frame r i k l ends =
      let x = h.mirror.shows r i l in
      subst (λ (e : End). Shows M (frame_of memory) h.mark e (s.cells r i)) (same_end x.0 (Frame k) (sym x.1 ∙ ends)) x.2

  -- the mark in a frame is the frame's
  in_frame : (m k : ℕ) → MarkIn t s m k → m ≡ h.mark k
  in_frame m k x = some_mark m (h.mark k) (sym x.marked ∙ (at_frame x.sharing x.index k x.lives x.ends).0)

  -- a living cell with a mark has a walk that ends at a held frame
  framed : (r i m : ℕ) → Living (table s) r i → (s.cells r i).mark ≡ Some m → (k : ℕ) × (walk_end t r i ≡ Some (Frame k)) × (is_held t k ≡ true)
  framed r i m l marked =
      let x = h.mirror.shows r i l in
      let f = marked_frame M (frame_of memory) h.mark x.0 (s.cells r i) m x.2 marked in
      let ends = x.1 ∙ ap Some f.1 in
      (f.0, ends, h.mirror.holds r i f.0 l ends)

  -- the held frame of a mark is the only one with it
  same_frame : (m k k' : ℕ) → MarkIn t s m k → MarkIn t s m k' → k ≡ k'
  same_frame m k k' x y =
      h.mirror.single k k' (h.mirror.holds x.sharing x.index k x.lives x.ends) (h.mirror.holds y.sharing y.index k' y.lives y.ends) (sym (in_frame m k x) ∙ in_frame m k' y)

  pub marks_and_frames : MarksAndFrames t memory s
  marks_and_frames = record {
    marked = λ k held.
        let x = h.mirror.reached k held in
        (h.mark k, record { sharing = x.0; index = x.1; lives = x.2; marked = (at_frame x.0 x.1 k x.2 x.3).0; ends = x.3 });
    one_mark = λ k m m' x y. in_frame m k x ∙ sym (in_frame m' k y);
    framed = λ m x.
        let f = framed x.sharing x.index m x.lives x.marked in
        (f.0, f.2, record { sharing = x.sharing; index = x.index; lives = x.lives; marked = x.marked; ends = f.1 });
    one_frame = same_frame;
    content = λ r i m k l marked x.
        let f = framed r i m l marked in
        let same = same_frame m f.0 k (record { sharing = r; index = i; lives = l; marked = marked; ends = f.1 }) x in
        (at_frame r i k l (f.1 ∙ ap (λ j. Some (Frame j)) same)).1;
  }

  module _ (len : length tasks ≡ 16) (used : RecordsNamed tasks t) (sound : SoundTables t) (few : (r : ℕ) → 256 ≤ r → in_use t r ≡ false) where
    short : (r i : ℕ) → Living (table s) r i → walk_length t r i ≤ length (living_records s)
    short r i l =
        let inuse = used r ∙ living_named tasks len r i (living_rows tasks s h.same r i l) in
        let top = used_top t r inuse in
        let w = walk_of t sound r top.0 top.1 i in
        let long = length_is t sound r top.0 top.1 i w.1 w.0 w.2 in
        let few_records = walk_few t sound r top.0 top.1 i w.1 w.0 w.2 in
        let all = records_counted tasks t used len few s h.same in
        omega (arith, long, few_records, all)

    pub walks_and_sources : WalksAndSources t s
    walks_and_sources = record {
      short = short;
      source = λ r i l none. let x = h.mirror.shows r i l in x.1 ∙ ap Some (unmarked_end M (frame_of memory) h.mark x.0 (s.cells r i) x.2 none);
    }
