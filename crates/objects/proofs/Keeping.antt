-- Sound tables, and what a store's fields say of its tables.
use Rattle.std.proofs.Common.{◌≡◌, ℕ, ◌+◌, ◌<◌, true, not, replicate, is_some, Some, None, Option, sym, refl, ap, ◌∙◌, inl, inr, arith}
use Rattle.std.proofs.lemmas.Bool.{both_ways, not-false, cases_Bool, cases_lt}
use Rattle.std.proofs.lemmas.Option.{none-some}
use Rattle.chains.specs.declared.Backing.TheVariants.{Free}
use Rattle.chains.specs.declared.Owner.{Owner}
use Rattle.chains.specs.declared.End.{End}
use Rattle.chains.specs.declared.End.TheVariants.{Frame}
use Rattle.chains.specs.Rows.{live, bit}
use Rattle.chains.specs.Walks.{slot_of}
use Rattle.chains.proofs.Sums.{count_le, sum_change, sum_full}
use Rattle.chains.proofs.Finds.{lowest_none, slot_is}
use Rattle.chains.proofs.Weights.{bit_true}
use Rattle.chains.proofs.Chains.{chain_ends, ends_chain, free_live}
use Rattle.objects.specs.declared.store.Store.{Store}
use Rattle.objects.specs.declared.tables.Tables.{Tables}
use Rattle.objects.specs.View.{backing, owner_of, top_of, in_use, is_held, records_used, frames_held, walk_end, SoundTables}
use Rattle.objects.specs.Says.{unused_record, KeepsOwners, index_of}
use Rattle.objects.specs.Kept.{ObjectsFew, RecordsFew, FramesFew, TopsLive, ChainsEnd, OwnersLive, OwnersApart, AllSettled}
use Rattle.objects.proofs.Edits.{repeated}
use Rattle.objects.proofs.Ends.{chain_few, used_top, walk_of, end_is, end_none, frame_fixes}
use Rattle.objects.proofs.Effects.{not_some, dead_free, frame_held}

-- a store's fields
abbrev pub Fields : Tables → Type 0
Fields t = record {
  objects : ObjectsFew t;
  records : RecordsFew t;
  frames : FramesFew t;
  tops : TopsLive t;
  chains : ChainsEnd t;
  owners : OwnersLive t;
  apart : OwnersApart t;
  settled : AllSettled t;
}

pub fields_sound : (t : Tables) → ObjectsFew t → RecordsFew t → FramesFew t → TopsLive t → ChainsEnd t → OwnersLive t → OwnersApart t → AllSettled t → SoundTables t
fields_sound t objects records frames tops chains owners apart settled = record {
  formed = record {
    objects = λ o l. dead_free (backing t o) (objects o l);
    records = λ r l. not_some (top_of t r) (records r l);
    frames = λ s l. not_some (owner_of t s) (frames s l);
    tops = tops;
    chained = λ o l. ends_chain (backing t) 256 o (chains o l);
    owners = owners;
    apart = λ s k w h g. apart s k (h ∙ sym g, ap is_some h);
  };
  settled = settled;
}

pub sound_fields : (t : Tables) → SoundTables t → Fields t
sound_fields t S = record {
  objects = λ o l. ap live (S.formed.objects o l);
  records = λ r l. ap is_some (S.formed.records r l);
  frames = λ s l. ap is_some (S.formed.frames s l);
  tops = S.formed.tops;
  chains = λ o l. let c = S.formed.chained o l in chain_ends 256 c.1 (omega (arith, chain_few t S o c.0 c.1, count_le (in_use t) 256));
  owners = S.formed.owners;
  apart = λ s k h. apart s k (owner_of t s) refl h.0 h.1;
  settled = S.settled;
}
  where
    apart : (s k : ℕ) (x : Option Owner) → owner_of t s ≡ x → owner_of t s ≡ owner_of t k → is_held t s ≡ true → s ≡ k
    apart s k None e h u = absurd (both_ways (is_held t s) (ap is_some e) u)
    apart s k (Some w) e h u = S.formed.apart s k w e (sym h ∙ e)

-- tables with nothing in them
abbrev pub empty_tables : Tables
empty_tables = record { records = replicate 256 None; objects = replicate 511 Free; frames = replicate 128 None }

pub empty_sound : SoundTables empty_tables
empty_sound = record {
  formed = record {
    objects = λ o l. repeated 511 Free o;
    records = λ r l. repeated 256 None r;
    frames = λ s l. repeated 128 None s;
    tops = λ r o h. absurd (none-some _ (sym (repeated 256 None r) ∙ h));
    chained = λ o l. absurd (free_live (backing empty_tables o) (repeated 511 Free o) l);
    owners = λ s w h. absurd (none-some _ (sym (repeated 128 None s) ∙ h));
    apart = λ s k w h g. absurd (none-some _ (sym (repeated 128 None s) ∙ h));
  };
  settled = λ o l. absurd (free_live (backing empty_tables o) (repeated 511 Free o) l);
}

-- the tables of every store are sound
pub store_sound : (x : Store) → SoundTables x.tables
store_sound x =
    fields_sound x.tables x.objects x.records x.frames x.tops x.chains x.owners x.apart x.settled

-- a record is missing only if all are in use
pub all_used : (t : Tables) → None ≡ unused_record t → records_used t ≡ 256
all_used t h = sum_full 256 _ (λ k l. bit_true _ (not-false (in_use t k) (lowest_none 256 (λ k. not (in_use t k)) (sym h) k l)))

-- For a layer above: a record in use has a walk for each index
pub walk_there : (t : Tables) → SoundTables t → (r i : ℕ) → in_use t r ≡ true → (e : End) × (walk_end t r i ≡ Some e)
walk_there t S r i u =
    let x = used_top t r u in
    let w = walk_of t S r x.0 x.1 i in
    (w.0, end_is t S r x.0 x.1 i w.1 w.0 w.2)

-- and only such a record has one
pub walk_used : (t : Tables) → SoundTables t → (r i : ℕ) (e : End) → walk_end t r i ≡ Some e → in_use t r ≡ true
walk_used t S r i e h =
    elim (cases_Bool (in_use t r)) [ inl u ↦ u | inr f ↦ absurd (none-some _ (sym (end_none t S r i f) ∙ h)) ]

-- a walk ends at one of the frames, and that is held
pub frame_below : (t : Tables) → SoundTables t → (r i s : ℕ) → walk_end t r i ≡ Some (Frame s) → s < 128
frame_below t S r i s h =
    elim (cases_lt s 128) [ inl l ↦ l | inr g ↦ absurd (both_ways (is_held t s) (ap is_some (S.formed.frames s g)) (frame_held t S r i s h)) ]

-- the numbers of records in use and of frames held, by the one that changed
pub used_count : (t t' : Tables) (n : ℕ) → n < 256 → ((k : ℕ) → (k ≡ n → ⊥) → in_use t' k ≡ in_use t k) → records_used t' + bit (in_use t n) ≡ records_used t + bit (in_use t' n)
used_count t t' n l h = sum_change 256 (λ k. bit (in_use t k)) (λ k. bit (in_use t' k)) n l (λ k d. ap bit (h k d))

pub held_count : (t t' : Tables) (s : ℕ) → s < 128 → KeepsOwners t t' s → frames_held t' + bit (is_held t s) ≡ frames_held t + bit (is_held t' s)
held_count t t' s l h = sum_change 128 (λ k. bit (is_held t k)) (λ k. bit (is_held t' k)) s l (λ k d. ap (λ x. bit (is_some x)) (h k d))

pub frame_only : (x : Store) (w : Owner) (s : ℕ) (r : Option ℕ) → r ≡ slot_of 128 (owner_of x.tables) w.object w.index → owner_of x.tables s ≡ Some w → r ≡ Some s
frame_only x w s r h g = h ∙ slot_is 128 (owner_of x.tables) (store_sound x).formed.frames (store_sound x).formed.apart w.object w.index s g

pub owner_fixes : (x : Store) (s : ℕ) (r : Option Owner) → r ≡ owner_of x.tables s → (k i : ℕ) → walk_end x.tables k i ≡ Some (Frame s) → index_of r ≡ Some i
owner_fixes x s r h k i g = ap index_of h ∙ frame_fixes x.tables (store_sound x) k i s g
