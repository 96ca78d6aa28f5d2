-- What each change of the tables does to the walks and the frames.
use Rattle.std.proofs.Common.{◌≡◌, ℕ, suc, ◌<◌, ◌≤◌, true, false, not, eqb, length, get_or, is_some, Some, None, Option, sym, refl, ap, ◌∙◌, subst, inl, inr, arith}
use Rattle.std.proofs.lemmas.Bool.{cases_eq, both_ways, not-true, not-false, eqb-true}
use Rattle.std.proofs.lemmas.Option.{none-some}
use Rattle.chains.specs.declared.Origin.{Origin}
use Rattle.chains.specs.declared.Backing.{Backing}
use Rattle.chains.specs.declared.Backing.TheVariants.{Free, Root, Shadow}
use Rattle.chains.specs.declared.Owner.{Owner}
use Rattle.chains.specs.declared.End.TheVariants.{Frame}
use Rattle.chains.specs.Rows.{live, own, source, count}
use Rattle.chains.specs.Walks.{Bare, at_root, lowest, slot_of}
use Rattle.chains.specs.Sound.{Sound, Put}
use Rattle.chains.proofs.Sums.{count_le, count_but, sum_full}
use Rattle.chains.proofs.Finds.{lowest_some, lowest_none, slot_is, bare_none}
use Rattle.chains.proofs.Weights.{bit_true}
use Rattle.chains.proofs.Counting.{objects_few, objects_fewer}
use Rattle.chains.proofs.Changes.{opened, grown_walk, fresh_bare, copied, shaded, shaded_walk, shaded_alone, placed, placed_here, placed_walk, released, released_walk, unnamed, used_below, alone_name, alone_shadow}
use Rattle.objects.specs.declared.tables.Tables.{Tables}
use Rattle.objects.specs.View.{backing, owner_of, top_of, in_use, is_held, walk_end, walk_length, weight_of, with_top, with_root, with_shadow, with_frame, without_frame, FormedTables, SoundTables, SettledFrom}
use Rattle.objects.specs.Says.{unused_record, Starts, Copies, KeepsWalks, KeepsOthers, KeepsApart, KeepsWithout, UsesSame, index_of, HoldsReached, other_frame}
use Rattle.objects.proofs.Edits.{set_put}
use Rattle.objects.proofs.Ends.{WalksIn, used_top, end_is, length_is, same_end, top_chain, frame_fixes}

pub not_some : {A : Type 0} (x : Option A) → is_some x ≡ false → x ≡ None
not_some None h = refl
not_some (Some a) h = absurd (both_ways true h refl)

pub dead_free : (b : Backing) → live b ≡ false → b ≡ Free
dead_free Free h = refl
dead_free (Root g) h = absurd (both_ways true h refl)
dead_free (Shadow p) h = absurd (both_ways true h refl)

-- what the searches find
pub unused_is : (t : Tables) (n : ℕ) → Some n ≡ unused_record t → (n < 256) × (top_of t n ≡ None)
unused_is t n h =
    let x = lowest_some 256 (λ k. not (in_use t k)) n (sym h) in
    (x.0, not_some (top_of t n) (not-true (in_use t n) x.1))

pub free_is : (t : Tables) (o : ℕ) → Some o ≡ lowest 511 (λ k. not (live (backing t k))) → (o < 511) × (backing t o ≡ Free)
free_is t o h =
    let x = lowest_some 511 (λ k. not (live (backing t k))) o (sym h) in
    (x.0, dead_free (backing t o) (not-true (live (backing t o)) x.1))

-- all objects are live if none is free
no_free : (t : Tables) → None ≡ lowest 511 (λ k. not (live (backing t k))) → count 511 (λ k. live (backing t k)) ≡ 511
no_free t h = sum_full 511 _ (λ k l. bit_true _ (not-false (live (backing t k)) (lowest_none 511 (λ k. not (live (backing t k))) (sym h) k l)))

-- a search that cannot fail
pub some_unless : {A : Type 0} (r : Option A) → (None ≡ r → ⊥) → is_some r ≡ true
some_unless None h = absurd (h refl)
some_unless (Some a) h = refl

-- while a record is not in use there is a free object
pub free_there : (t : Tables) → SoundTables t → (n : ℕ) → Some n ≡ unused_record t → (r : Option ℕ) → r ≡ lowest 511 (λ k. not (live (backing t k))) → is_some r ≡ true
free_there t S n h r f =
    let x = unused_is t n h in
    some_unless r (λ e.
    omega (arith, no_free t (e ∙ f), objects_few 511 256 (backing t) (top_of t) S.formed.objects S.settled, count_but (in_use t) 256 n x.0 (ap is_some x.1)))

-- a record's top is as it was
same_used : (t t' : Tables) (k : ℕ) → top_of t' k ≡ top_of t k → in_use t k ≡ true → (o : ℕ) × (top_of t k ≡ Some o) × (top_of t' k ≡ Some o)
same_used t t' k e u = let x = used_top t k u in (x.0, x.1, e ∙ x.1)

-- a new record over a new root
module _ (t : Tables) (S : SoundTables t) (g : Origin) (o n : ℕ) (long : length t.objects ≡ 511) (wide : length t.records ≡ 256) (fresh : Some n ≡ unused_record t) (free : Some o ≡ lowest 511 (λ k. not (live (backing t k)))) where
  abbrev opened_tables : Tables
  opened_tables = with_root t n o g

  open_objects : Put (backing t) (backing opened_tables) o (Root g)
  open_objects = let l : o < length t.objects = omega (arith, (free_is t o free).0) in set_put Free t.objects _ o (Root g) l refl

  open_records : Put (top_of t) (top_of opened_tables) n (Some o)
  open_records = let l : n < length t.records = omega (arith, (unused_is t n fresh).0) in set_put None t.records _ n (Some o) l refl

  pub open_sound : SoundTables opened_tables
  open_sound =
      opened 511 256 128 (backing t) (backing opened_tables) (owner_of t) (top_of t) (top_of opened_tables) o n g (free_is t o free).1 (free_is t o free).0 (unused_is t n fresh).0 (unused_is t n fresh).1 open_objects open_records S

  pub open_starts : Starts opened_tables n g
  open_starts i =
      let b = fresh_bare 511 256 128 (backing t) (backing opened_tables) (owner_of t) (top_of t) (top_of opened_tables) o n (Root g) (free_is t o free).1 (free_is t o free).0 (unused_is t n fresh).0 open_objects open_records S.formed i in
      let w : WalksIn opened_tables i o (source g i) 1 = at_root b open_objects.here in
      (end_is opened_tables open_sound n o open_records.here i 1 (source g i) w, length_is opened_tables open_sound n o open_records.here i 1 (source g i) w)

  pub open_keeps : KeepsWalks t opened_tables
  open_keeps k i u =
      let d : k ≡ n → ⊥ = λ e. both_ways (in_use t k) (ap is_some (ap (top_of t) e ∙ (unused_is t n fresh).1)) u in
      let x = same_used t opened_tables k (open_records.elsewhere k d) u in
      same_end t opened_tables S open_sound k k x.0 x.0 i x.1 x.2
      (λ e m q w. (m, grown_walk 511 256 128 (backing t) (backing opened_tables) (owner_of t) (top_of t) (top_of opened_tables) o n (Root g) (free_is t o free).1 (free_is t o free).0 (unused_is t n fresh).0 open_objects open_records S.formed w))

-- a new record on a top
module _ (t : Tables) (S : SoundTables t) (r o n : ℕ) (wide : length t.records ≡ 256) (top : top_of t r ≡ Some o) (fresh : Some n ≡ unused_record t) where
  abbrev copied_tables : Tables
  copied_tables = with_top t n (Some o)

  copy_records : Put (top_of t) (top_of copied_tables) n (Some o)
  copy_records = let l : n < length t.records = omega (arith, (unused_is t n fresh).0) in set_put None t.records _ n (Some o) l refl

  pub copy_sound : SoundTables copied_tables
  copy_sound = copied 511 256 128 (backing t) (owner_of t) (top_of t) (top_of copied_tables) o r n top (unused_is t n fresh).0 (unused_is t n fresh).1 copy_records S

  pub copy_copies : Copies t copied_tables n r
  copy_copies i = same_end t copied_tables S copy_sound r n o o i top copy_records.here (λ e m q w. (m, w))

  pub copy_keeps : KeepsWalks t copied_tables
  copy_keeps k i u =
      let d : k ≡ n → ⊥ = λ e. both_ways (in_use t k) (ap is_some (ap (top_of t) e ∙ (unused_is t n fresh).1)) u in
      let x = same_used t copied_tables k (copy_records.elsewhere k d) u in
      same_end t copied_tables S copy_sound k k x.0 x.0 i x.1 x.2 (λ e m q w. (m, w))

-- the frame at a walk's end is held
pub frame_held : (t : Tables) → SoundTables t → (k i s : ℕ) → walk_end t k i ≡ Some (Frame s) → is_held t s ≡ true
frame_held t S k i s h = held_index (owner_of t s) i (frame_fixes t S k i s h)
  where
    held_index : (y : Option Owner) (i : ℕ) → index_of y ≡ Some i → is_some y ≡ true
    held_index None i e = absurd (none-some _ e)
    held_index (Some w) i e = refl

-- a record is closed: the tables without it, and then those in which all is settled
module _ (t : Tables) (S : SoundTables t) (r o : ℕ) (wide : length t.records ≡ 256) (top : top_of t r ≡ Some o) where
  abbrev unnamed_tables : Tables
  unnamed_tables = with_top t r None

  close_records : Put (top_of t) (top_of unnamed_tables) r None
  close_records =
      let l : r < length t.records = omega (arith, used_below 511 256 128 (backing t) (top_of t) S.formed.objects S.formed.records r o top) in
      set_put None t.records _ r None l refl

  pub close_formed : FormedTables unnamed_tables
  close_formed = unnamed 511 256 128 (backing t) (owner_of t) (top_of t) (top_of unnamed_tables) o r top close_records S.formed

  module _ (t' : Tables) (settles : SettledFrom unnamed_tables t') where
    close_tops : (k : ℕ) → top_of t' k ≡ top_of unnamed_tables k
    close_tops k = ap (λ rs. get_or rs k None) settles.0

    pub close_sound : SoundTables t'
    close_sound = subst (λ rs. Sound 511 256 128 (backing t') (owner_of t') (λ k. get_or rs k None)) (sym settles.0) settles.1.sound

    pub close_keeps : KeepsOthers t t' r
    close_keeps k i u d =
        let x = used_top t k u in
        let p = close_records.elsewhere k d ∙ x.1 in
        same_end t t' S close_sound k k x.0 x.0 i x.1 (close_tops k ∙ p) (λ e m q w. settles.1.keeps k x.0 i m e p w)

    pub close_reached : HoldsReached t t' r
    close_reached k i s u d h = frame_held t' close_sound k i s (close_keeps k i u d ∙ h)

-- a frame is freed
module _ (t : Tables) (S : SoundTables t) (s : ℕ) (long : length t.frames ≡ 128) (inside : s < 128) where
  abbrev released_tables : Tables
  released_tables = without_frame t s

  release_frames : Put (owner_of t) (owner_of released_tables) s None
  release_frames = let l : s < length t.frames = omega arith in set_put None t.frames _ s None l refl

  pub release_sound : SoundTables released_tables
  release_sound = released 511 256 128 (backing t) (owner_of t) (owner_of released_tables) (top_of t) s release_frames S

  pub release_keeps : KeepsWithout t released_tables s
  release_keeps k j u d =
      let x = used_top t k u in
      same_end t released_tables S release_sound k k x.0 x.0 j x.1 x.1
      (λ e m q w. (m, released_walk 511 256 128 (backing t) (owner_of t) (owner_of released_tables) (top_of t) s release_frames w (λ f. d (q ∙ ap Some f))))

-- a shadow comes between a record and its top
module _ (t : Tables) (S : SoundTables t) (r o : ℕ) (top : top_of t r ≡ Some o) (shared : 3 ≤ weight_of t o) where
  pub shadow_there : (x : Option ℕ) → x ≡ lowest 511 (λ k. not (live (backing t k))) → is_some x ≡ true
  shadow_there x f =
      let c = top_chain t S r o top in
      some_unless x (λ e.
      omega (arith, no_free t (e ∙ f), objects_fewer 511 256 (backing t) (top_of t) S.formed.objects S.settled o c.0 c.1 shared, count_le (in_use t) 256))

  module _ (p : ℕ) (long : length t.objects ≡ 511) (wide : length t.records ≡ 256) (free : Some p ≡ lowest 511 (λ k. not (live (backing t k)))) where
    abbrev shaded_tables : Tables
    shaded_tables = with_shadow t r o p

    shade_objects : Put (backing t) (backing shaded_tables) p (Shadow o)
    shade_objects = let l : p < length t.objects = omega (arith, (free_is t p free).0) in set_put Free t.objects _ p (Shadow o) l refl

    shade_within : r < 256
    shade_within = used_below 511 256 128 (backing t) (top_of t) S.formed.objects S.formed.records r o top

    shade_records : Put (top_of t) (top_of shaded_tables) r (Some p)
    shade_records = let l : r < length t.records = omega (arith, shade_within) in set_put None t.records _ r (Some p) l refl

    pub shade_sound : SoundTables shaded_tables
    shade_sound = shaded 511 256 128 (backing t) (backing shaded_tables) (owner_of t) (top_of t) (top_of shaded_tables) o p r top (free_is t p free).1 (free_is t p free).0 shade_objects shade_records shared S

    pub shade_top : top_of shaded_tables r ≡ Some p
    shade_top = shade_records.here

    pub shade_alone : weight_of shaded_tables p ≡ 2
    shade_alone = shaded_alone 511 256 128 (backing t) (backing shaded_tables) (owner_of t) (top_of t) (top_of shaded_tables) o p r top (free_is t p free).1 (free_is t p free).0 shade_objects shade_records shared S

    pub shade_bare : (i : ℕ) → Bare (owner_of t) p i
    shade_bare i = fresh_bare 511 256 128 (backing t) (backing shaded_tables) (owner_of t) (top_of t) (top_of shaded_tables) p r (Shadow o) (free_is t p free).1 (free_is t p free).0 shade_within shade_objects shade_records S.formed i

    pub shade_uses : UsesSame t shaded_tables
    shade_uses k = elim (cases_eq k r) [ inl e ↦ ap is_some (ap (top_of shaded_tables) e ∙ shade_records.here) ∙ sym (ap is_some (ap (top_of t) e ∙ top)) | inr d ↦ ap is_some (shade_records.elsewhere k d) ]

    pub shade_keeps : KeepsWalks t shaded_tables
    shade_keeps k i u =
        elim (cases_eq k r) [
          | inl e ↦
              same_end t shaded_tables S shade_sound k k o p i (ap (top_of t) e ∙ top) (ap (top_of shaded_tables) e ∙ shade_top)
              (λ z m q w. (suc m, shaded_walk 511 256 128 (backing t) (backing shaded_tables) (owner_of t) (top_of t) (top_of shaded_tables) o p r top (free_is t p free).1 (free_is t p free).0 shade_objects shade_records shared S w))
          | inr d ↦
              let x = same_used t shaded_tables k (shade_records.elsewhere k d) u in
              same_end t shaded_tables S shade_sound k k x.0 x.0 i x.1 x.2
              (λ z m q w. (m, grown_walk 511 256 128 (backing t) (backing shaded_tables) (owner_of t) (top_of t) (top_of shaded_tables) p r (Shadow o) (free_is t p free).1 (free_is t p free).0 shade_within shade_objects shade_records S.formed w))
        ]

-- no other frame is there
pub no_other : (t : Tables) → SoundTables t → (o i s : ℕ) → other_frame (slot_of 128 (owner_of t) o i) s ≡ false → (k : ℕ) → (k ≡ s → ⊥) → owner_of t k ≡ Some (own o i) → ⊥
no_other t S o i s h k d g =
    let q = slot_is 128 (owner_of t) S.formed.frames S.formed.apart o i k g in
    d (eqb-true k s (not-false (eqb k s) (sym (ap (λ x. other_frame x s) q) ∙ h)))

-- a frame is put at an index of a top that has no other reference
module _ (t : Tables) (S : SoundTables t) (r o i s : ℕ) (long : length t.frames ≡ 128) (inside : s < 128) (top : top_of t r ≡ Some o) (alone : weight_of t o ≤ 2) (vacant : other_frame (slot_of 128 (owner_of t) o i) s ≡ false) where
  abbrev placed_tables : Tables
  placed_tables = with_frame t o i s

  put_frames : Put (owner_of t) (owner_of placed_tables) s (Some (own o i))
  put_frames = let l : s < length t.frames = omega arith in set_put None t.frames _ s (Some (own o i)) l refl

  pub put_sound : SoundTables placed_tables
  put_sound = placed 511 256 128 (backing t) (owner_of t) (owner_of placed_tables) (top_of t) o i s inside (no_other t S o i s vacant) put_frames (S.formed.tops r o top) S

  pub put_here : (walk_end placed_tables r i ≡ Some (Frame s)) × (walk_length placed_tables r i ≡ 1)
  put_here =
      let w = placed_here 511 256 128 (backing t) (owner_of t) (owner_of placed_tables) (top_of t) o i s inside (no_other t S o i s vacant) put_frames in
      (end_is placed_tables put_sound r o top i 1 (Frame s) w, length_is placed_tables put_sound r o top i 1 (Frame s) w)

  pub put_others : KeepsApart t placed_tables r i s
  put_others k j u d away =
      let x = used_top t k u in
      same_end t placed_tables S put_sound k k x.0 x.0 j x.1 x.1
      (λ e m q w. (
        m,
        placed_walk 511 256 128 (backing t) (owner_of t) (owner_of placed_tables) (top_of t) o i s inside (no_other t S o i s vacant) put_frames w
            (λ f. away (q ∙ ap Some f))
            (λ f g. d (sym (alone_name 511 256 128 (backing t) (top_of t) S.formed.objects S.formed.records r k o top alone (x.1 ∙ ap Some g))) f)
            (λ f p g. alone_shadow 511 256 128 (backing t) (top_of t) S.formed.objects S.formed.records r p o top alone g),
      ))

-- and on a new shadow of a top that has another
module _ (t : Tables) (S : SoundTables t) (r o : ℕ) (top : top_of t r ≡ Some o) (shared : 3 ≤ weight_of t o) (p : ℕ) (long : length t.objects ≡ 511) (wide : length t.records ≡ 256) (free : Some p ≡ lowest 511 (λ k. not (live (backing t k)))) (i s : ℕ) (many : length t.frames ≡ 128) (inside : s < 128) where
  abbrev covered_tables : Tables
  covered_tables = with_frame (with_shadow t r o p) p i s

  cover_alone : weight_of (with_shadow t r o p) p ≤ 2
  cover_alone = omega (arith, shade_alone t S r o top shared p long wide free)

  cover_vacant : other_frame (slot_of 128 (owner_of t) p i) s ≡ false
  cover_vacant = ap (λ x. other_frame x s) (bare_none 128 (owner_of t) p i (shade_bare t S r o top shared p long wide free i))

  pub cover_sound : SoundTables covered_tables
  cover_sound = put_sound (with_shadow t r o p) (shade_sound t S r o top shared p long wide free) r p i s many inside (shade_top t S r o top shared p long wide free) cover_alone cover_vacant

  pub cover_here : (walk_end covered_tables r i ≡ Some (Frame s)) × (walk_length covered_tables r i ≡ 1)
  cover_here = put_here (with_shadow t r o p) (shade_sound t S r o top shared p long wide free) r p i s many inside (shade_top t S r o top shared p long wide free) cover_alone cover_vacant

  pub cover_others : KeepsApart t covered_tables r i s
  cover_others k j u d away =
      let q = shade_keeps t S r o top shared p long wide free k j u in
      put_others (with_shadow t r o p) (shade_sound t S r o top shared p long wide free) r p i s many inside (shade_top t S r o top shared p long wide free) cover_alone cover_vacant k j (shade_uses t S r o top shared p long wide free k ∙ u) d (λ f. away (sym q ∙ f))
      ∙ q
