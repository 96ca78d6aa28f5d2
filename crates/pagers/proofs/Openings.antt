-- Opening an image, one extent at a time.
use Rattle.std.proofs.Common.{◌≡◌, ℕ, zero, suc, ◌+◌, ◌-◌, ◌*◌, ◌<◌, ◌≤◌, true, false, cond, not, ◌&&◌, ◌||◌, eqb, List, [], ◌∷◌, length, get_or, take, drop, slice_range, map, Option, sym, refl, ap, ◌∙◌, ap₂, subst, arith}
use mathlib.Core.Path.{fun_ext}
use Rattle.std.specs.Option.{option_or}
use Rattle.std.specs.Simd.{first_chunks}
use Rattle.std.proofs.Math.Bool.{or-false}
use Rattle.std.proofs.lemmas.Bool.{not-true, and_parts, le-ltb}
use Rattle.std.proofs.lemmas.List.{get_or-take, get_or-drop, drop-drop, drop_more, at_drop_all}
use Rattle.ranges.specs.Tables.{taken, inserted}
use Rattle.ranges.specs.Says.{Inserts}
use Rattle.ranges.specs.Held.{overfull}
use Rattle.ranges.proofs.Inserts.{inserted_length}
use Rattle.pagers.specs.declared.extent.Extent.{Extent}
use Rattle.pagers.specs.Extents.{extent_shape}
use Rattle.pagers.specs.Images.{extent_in, extent_at, extents_from, extents, extent_count, page_count, image_meaning, laid, stored, body_from, crosses, place, within, sound}
use Rattle.pagers.proofs.Places.{taken_crosses, moved_place, moved_sound, all_places}

-- a byte of a row is one of the file's
in_row : (file : List ℕ) (s j k : ℕ) → j < 8 → k ≡ s + j → get_or (take 8 (drop s file)) j 0 ≡ get_or file k 0
in_row file s j k below e = get_or-take 8 (drop s file) j 0 below ∙ get_or-drop s file j 0 ∙ ap (λ n. get_or file n 0) (sym e)

row_says : (file : List ℕ) (i s : ℕ) → s ≡ 3 + 8 * i → extent_in (take 8 (drop s file)) ≡ extent_at file i
row_says file i s e =
    cc (
      in_row file s 0 (3 + 8 * i) (omega arith) (omega arith),
      in_row file s 1 (3 + 8 * i + 1) (omega arith) (omega arith),
      in_row file s 2 (5 + 8 * i) (omega arith) (omega arith),
      in_row file s 3 (5 + 8 * i + 1) (omega arith) (omega arith),
      in_row file s 4 (7 + 8 * i) (omega arith) (omega arith),
      in_row file s 5 (7 + 8 * i + 1) (omega arith) (omega arith),
      in_row file s 6 (7 + 8 * i + 2) (omega arith) (omega arith),
      in_row file s 7 (7 + 8 * i + 2 + 1) (omega arith) (omega arith),
    )

-- rows of eight bytes from the place of extent i on say the file's extents
pub rows_say : (file : List ℕ) (n k i s : ℕ) → s ≡ 3 + 8 * i → n ≤ k → map extent_in (take n (first_chunks 8 k (drop s file))) ≡ extents_from file i n
rows_say file zero k i s e most = refl
rows_say file (suc n) zero i s e most = absurd (omega arith)
rows_say file (suc n) (suc k) i s e most =
    ap₂ (λ (x : Extent) (xs : List Extent). x ∷ xs) (row_says file i s e)
    (ap (λ (xs : List ℕ). map extent_in (take n (first_chunks 8 k xs))) (drop-drop 8 s file)
    ∙ rows_say file n k (i + 1) (s + 8) (omega arith) (omega arith))

pub table_says : (file rest : List ℕ) (rows table : List (List ℕ)) (n k : ℕ) → rest ≡ drop 3 file → rows ≡ first_chunks 8 k rest → table ≡ slice_range rows 0 n → n ≤ k → n ≡ extent_count file → map extent_in table ≡ extents file
table_says file rest rows table n k behind cut part most is =
    ap (map extent_in) (part ∙ ap (λ xs. slice_range xs 0 n) (cut ∙ ap (first_chunks 8 k) behind))
    ∙ rows_say file (n - 0) k 0 3 (omega arith) (omega arith)
    ∙ ap (extents_from file 0) (omega arith)

-- what is left of an image's extents, and what is in the table, are all that there is
pub record Parted (pages : ℕ) (all left table : List Extent) : Type 0 where
  pub checked : sound pages [] all ≡ sound pages table left
  pub places : (p : ℕ) → place p all ≡ option_or (place p table) (place p left)

-- where there is room, the table takes an extent of the image if it crosses none of those in it
pub may_enter : (pages : ℕ) (e : Extent) (es : List Extent) → length es < 32 → within pages e ≡ true → (not (taken extent_shape e es || overfull 32 (inserted extent_shape e es))) ≡ (within pages e && not (crosses e es))
may_enter pages e es room ok =
    let fits : overfull 32 (inserted extent_shape e es) ≡ false = le-ltb _ _ (omega (arith, inserted_length extent_shape e es)) in
    ap not (ap₂ ◌||◌ (taken_crosses e es) fits ∙ or-false (crosses e es)) ∙ sym (ap (λ b. b && not (crosses e es)) ok)

-- the extent of the next row, taken off those that are left
module _ (pages : ℕ) (all old : List Extent) (rows : List (List ℕ)) (i : ℕ) (e : Extent) (there : i < length rows) (is : e ≡ extent_in (get_or rows i [])) (part : Parted pages all (map extent_in (drop i rows)) old) where
  abbrev left : List Extent
  left = map extent_in (drop (i + 1) rows)

  here : Parted pages all (e ∷ left) old
  here = subst (λ es. Parted pages all es old) (ap (map extent_in) (drop_more rows i [] there) ∙ ap (λ x. x ∷ left) (sym is)) part

  pub parted_more : (n : ℕ) (new : List Extent) → n ≡ pages → (within n e && not (crosses e old)) ≡ true → new ≡ inserted extent_shape e old → Inserts extent_shape e old new → Parted pages all left new
  parted_more n new counted fits put says =
      let ok : (within pages e && not (crosses e old)) ≡ true = subst (λ k. (within k e && not (crosses e old)) ≡ true) counted fits in
      record {
        checked = here.checked ∙ moved_sound pages e old new left ok put;
        places = λ p. here.places p ∙ moved_place p e old new left (not-true _ (and_parts _ _ ok).1) says;
      }

-- all extents are in the table
pub parted_meaning : (file : List ℕ) (pages n : ℕ) (table : List Extent) (rows : List (List ℕ)) (i : ℕ) → pages ≡ page_count file → n ≡ extent_count file → length rows ≤ i → Parted (page_count file) (extents file) (map extent_in (drop i rows)) table → laid pages table (body_from n file) ≡ image_meaning file
parted_meaning file pages n table rows i counted all past part =
    ap (λ k. laid pages table (body_from k file)) all
    ∙ ap₂ (λ (n : ℕ) (found : ℕ → Option ℕ). record { count = λ m. cond (eqb m 0) n 0; page = λ m p. stored (body_from (extent_count file) file) p (found p) }) counted
    (fun_ext (λ p. sym (part.places p ∙ all_places _ _ (at_drop_all (λ xs. place p (map extent_in xs)) rows i past))))
