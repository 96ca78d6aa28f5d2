-- Which records are named once one task's row is replaced.
use Rattle.std.proofs.Common.{◌≡◌, ℕ, zero, suc, ◌+◌, ◌<◌, Bool, true, false, cond, ◌&&◌, ◌||◌, eqb, ◌⊎◌, List, [], ◌∷◌, length, get_or, set, Some, None, sym, refl, ap, ◌∙◌, inl, inr, arith}
use Rattle.std.proofs.lemmas.Option.{same_Some}
use Rattle.std.proofs.lemmas.Bool.{both_ways, cases_Bool, eq-eqb, eqb-true, le-leb, lt-ltb, and_from, or_cases, or_left, or_right}
use Rattle.ranges.specs.Says.{Inserts}
use Rattle.ranges.specs.Shape.{holds}
use Rattle.ranges.specs.Tables.{rising, said}
use Rattle.machine.specs.declared.words.Entry.{Entry}
use Rattle.machine.specs.Entries.{entry_shape, part}
use Rattle.machine.specs.Step.{fresh_entry}
use Rattle.objects.specs.declared.tables.Tables.{Tables}
use Rattle.objects.specs.View.{in_use, is_held}
use Rattle.objects.specs.Says.{UsesMore}
use Rattle.tasks.specs.Tables.{Place, names}
use Rattle.relation.specs.Living.{Names, WithinCells}
use Rattle.relation.specs.Stands.{table_of, is_record_named, RecordsNamed, FramesWithin}
use Rattle.relation.specs.Sweeps.{Swept, Cleared}
use Rattle.relation.proofs.Cells.{said_among, among_said}
use Rattle.relation.proofs.Rows.{table_rises}
use Rattle.relation.proofs.Named.{any_among, among_any, rising_proper, some_pages}

-- two tests that imply each other are one
pub both_imply : (a b : Bool) → (a ≡ true → b ≡ true) → (b ≡ true → a ≡ true) → a ≡ b
both_imply true b f g = sym (f refl)
both_imply false true f g = g refl
both_imply false false f g = refl

-- One row replaced

pub set_in : (r : ℕ) (tasks : List Place) (k : ℕ) (x : Place) → k < length tasks → names r (table_of x) ≡ true → is_record_named r (set tasks k x) ≡ true
set_in r [] k x l h = absurd (omega arith)
set_in r (y ∷ ys) zero x l h = or_left (names r (table_of x)) (is_record_named r ys) h
set_in r (y ∷ ys) (suc k) x l h = or_right (names r (table_of y)) (is_record_named r (set ys k x)) (set_in r ys k x (omega arith) h)

pub set_from : (r : ℕ) (tasks : List Place) (k : ℕ) (x : Place) → is_record_named r (set tasks k x) ≡ true → (names r (table_of x) ≡ true) ⊎ (is_record_named r tasks ≡ true)
set_from r [] k x h = absurd (both_ways false refl h)
set_from r (y ∷ ys) zero x h = elim (or_cases (names r (table_of x)) (is_record_named r ys) h) [ inl a ↦ inl a | inr b ↦ inr (or_right (names r (table_of y)) (is_record_named r ys) b) ]
set_from r (y ∷ ys) (suc k) x h =
    elim (or_cases (names r (table_of y)) (is_record_named r (set ys k x)) h) [
      | inl a ↦ inr (or_left (names r (table_of y)) (is_record_named r ys) a)
      | inr b ↦ elim (set_from r ys k x b) [ inl a ↦ inl a | inr c ↦ inr (or_right (names r (table_of y)) (is_record_named r ys) c) ]
    ]

pub from_set : (r : ℕ) (tasks : List Place) (k : ℕ) (x : Place) → is_record_named r tasks ≡ true → (names r (table_of (get_or tasks k None)) ≡ true) ⊎ (is_record_named r (set tasks k x) ≡ true)
from_set r [] k x h = absurd (both_ways false refl h)
from_set r (y ∷ ys) zero x h = elim (or_cases (names r (table_of y)) (is_record_named r ys) h) [ inl a ↦ inl a | inr b ↦ inr (or_right (names r (table_of x)) (is_record_named r ys) b) ]
from_set r (y ∷ ys) (suc k) x h =
    elim (or_cases (names r (table_of y)) (is_record_named r ys) h) [
      | inl a ↦ inr (or_left (names r (table_of y)) (is_record_named r (set ys k x)) a)
      | inr b ↦ elim (from_set r ys k x b) [ inl a ↦ inl a | inr c ↦ inr (or_right (names r (table_of y)) (is_record_named r (set ys k x)) c) ]
    ]

pub row_named : (r : ℕ) (tasks : List Place) (k : ℕ) → names r (table_of (get_or tasks k None)) ≡ true → is_record_named r tasks ≡ true
row_named r [] k h = absurd (both_ways false refl h)
row_named r (y ∷ ys) zero h = or_left (names r (table_of y)) (is_record_named r ys) h
row_named r (y ∷ ys) (suc k) h = or_right (names r (table_of y)) (is_record_named r ys) (row_named r ys k h)

-- What a table's cells say of its records

holds_first : (e : Entry) → 0 < e.pages → holds entry_shape e.first e ≡ true
holds_first e l = and_from _ _ (le-leb e.first e.first (omega arith)) (lt-ltb e.first (e.first + e.pages) (omega arith))

pub names_cell : (r : ℕ) (es : List Entry) → rising entry_shape 0 es ≡ true → names r es ≡ true → (p : ℕ) × (i : ℕ) × Names es p r i
names_cell r es up h =
    let x = any_among (λ e. eqb e.sharing r) es (h) in
    let e = x.0 in (
      e.first,
      (part e.first 1 e).index,
      record {
        entry = part e.first 1 e;
        says = among_said entry_shape 0 e.first es e up x.1 (holds_first e (some_pages e (rising_proper 0 es e up x.1)));
        sharing = eqb-true e.sharing r x.2;
        index = refl;
      },
    )

pub cell_names : (r : ℕ) (es : List Entry) (p i : ℕ) → Names es p r i → names r es ≡ true
cell_names r es p i h =
    let x = said_among entry_shape p es h.entry h.says in
    among_any (λ e. eqb e.sharing r) x.0 es x.1 (eq-eqb x.0.sharing r (ap (λ (y : Entry). y.sharing) (sym x.3) ∙ h.sharing))

within_names : (r : ℕ) (es es' : List Entry) → rising entry_shape 0 es ≡ true → WithinCells es es' → names r es ≡ true → names r es' ≡ true
within_names r es es' up within h = let x = names_cell r es up h in cell_names r es' x.0 x.1 (within x.0 r x.1 x.2)

-- Records in use, after each kind of change

module _ (tasks : List Place) (t : Tables) (k : ℕ) (x : Place) (lt : k < length tasks) (used : RecordsNamed tasks t) where
  named_retabled : WithinCells (table_of x) (table_of (get_or tasks k None)) → WithinCells (table_of (get_or tasks k None)) (table_of x) → (r : ℕ) → is_record_named r tasks ≡ is_record_named r (set tasks k x)
  named_retabled back on r =
      both_imply (is_record_named r tasks) (is_record_named r (set tasks k x))
      (λ h. elim (from_set r tasks k x h) [ inl a ↦ set_in r tasks k x lt (within_names r (table_of (get_or tasks k None)) (table_of x) (table_rises (get_or tasks k None)) on a) | inr b ↦ b ])
      (λ h. elim (set_from r tasks k x h) [ inl a ↦ row_named r tasks k (within_names r (table_of x) (table_of (get_or tasks k None)) (table_rises x) back a) | inr b ↦ b ])

  pub used_retabled : WithinCells (table_of x) (table_of (get_or tasks k None)) → WithinCells (table_of (get_or tasks k None)) (table_of x) → RecordsNamed (set tasks k x) t
  used_retabled back on r = used r ∙ named_retabled back on r

  -- a record that is named still was named
  named_less : WithinCells (table_of x) (table_of (get_or tasks k None)) → (r : ℕ) → is_record_named r (set tasks k x) ≡ true → is_record_named r tasks ≡ true
  named_less back r h = elim (set_from r tasks k x h) [ inl a ↦ row_named r tasks k (within_names r (table_of x) (table_of (get_or tasks k None)) (table_rises x) back a) | inr b ↦ b ]

  -- and is in use once the others are closed
  pub used_swept : (t₁ : Tables) → WithinCells (table_of x) (table_of (get_or tasks k None)) → Swept (λ r. is_record_named r (set tasks k x)) t t₁ → (r : ℕ) → is_record_named r (set tasks k x) ≡ true → in_use t₁ r ≡ true
  used_swept t₁ back swept r h = swept.uses r ∙ and_from (in_use t r) (is_record_named r (set tasks k x)) (used r ∙ named_less back r h) h

  pub used_less : (t₁ t₂ : Tables) → WithinCells (table_of x) (table_of (get_or tasks k None)) → Swept (λ r. is_record_named r (set tasks k x)) t t₁ → Cleared (set tasks k x) t₁ t₂ → RecordsNamed (set tasks k x) t₂
  used_less t₁ t₂ back swept cleared r =
      cleared.uses r ∙ swept.uses r ∙ ap (λ b. b && is_record_named r (set tasks k x)) (used r) ∙ both (is_record_named r tasks) (is_record_named r (set tasks k x)) (named_less back r)
    where
      both : (a b : Bool) → (b ≡ true → a ≡ true) → (a && b) ≡ b
      both true b f = refl
      both false true f = f refl
      both false false f = refl

  pub used_mapped : (t' : Tables) (q start pages : ℕ) → 0 < pages → UsesMore t t' q → Inserts entry_shape (fresh_entry q start pages) (table_of (get_or tasks k None)) (table_of x) → ((p : ℕ) → holds entry_shape p (fresh_entry q start pages) ≡ true → said entry_shape p (table_of (get_or tasks k None)) ≡ None) → RecordsNamed (set tasks k x) t'
  unfolding fresh_entry
  used_mapped t' q start pages some more law free r =
      more r ∙ ap (λ b. b || eqb r q) (used r)
      ∙ both_imply (is_record_named r tasks || eqb r q) (is_record_named r (set tasks k x))
      (λ h.
      elim (or_cases (is_record_named r tasks) (eqb r q) h) [
        | inl a ↦ elim (from_set r tasks k x a) [ inl c ↦ set_in r tasks k x lt (old r c) | inr c ↦ c ]
        | inr b ↦ set_in r tasks k x lt (new r (eqb-true r q b))
      ])
      (λ h. elim (set_from r tasks k x h) [ inl a ↦ back r a | inr b ↦ or_left (is_record_named r tasks) (eqb r q) b ])
    where
      old : (r : ℕ) → names r (table_of (get_or tasks k None)) ≡ true → names r (table_of x) ≡ true
      old r h =
          let c = names_cell r (table_of (get_or tasks k None)) (table_rises (get_or tasks k None)) h in
          let n = c.2 in
          cell_names r (table_of x) c.0 c.1 (record { entry = n.entry; says = law c.0 ∙ at c.0 n.entry (holds entry_shape c.0 (fresh_entry q start pages)) refl n.says; sharing = n.sharing; index = n.index })
        where
          at : (p : ℕ) (y : Entry) (b : Bool) → holds entry_shape p (fresh_entry q start pages) ≡ b → said entry_shape p (table_of (get_or tasks k None)) ≡ Some y → cond b (Some (part p 1 (fresh_entry q start pages))) (said entry_shape p (table_of (get_or tasks k None))) ≡ Some y
          at p y true h s = absurd (let z : ◌≡◌ {A = ℕ} 0 1 = (let w = sym (free p h) ∙ s in cc) in omega arith)
          at p y false h s = s

      new : (r : ℕ) → r ≡ q → names r (table_of x) ≡ true
      new r same =
          cell_names r (table_of x) start (part start 1 (fresh_entry q start pages)).index
          (record { entry = part start 1 (fresh_entry q start pages); says = law start ∙ rw (holds_first (fresh_entry q start pages) some) refl; sharing = sym same; index = refl })

      back : (r : ℕ) → names r (table_of x) ≡ true → (is_record_named r tasks || eqb r q) ≡ true
      back r h =
          let c = names_cell r (table_of x) (table_rises x) h in
          at c.0 c.1 c.2 (holds entry_shape c.0 (fresh_entry q start pages)) (sym (law c.0) ∙ c.2.says)
        where
          at : (p i : ℕ) (n : Names (table_of x) p r i) (b : Bool) → cond b (Some (part p 1 (fresh_entry q start pages))) (said entry_shape p (table_of (get_or tasks k None))) ≡ Some n.entry → (is_record_named r tasks || eqb r q) ≡ true
          at p i n true s = or_right (is_record_named r tasks) (eqb r q) (eq-eqb r q (sym n.sharing ∙ ap (λ (y : Entry). y.sharing) (sym (same_Some (part p 1 (fresh_entry q start pages)) n.entry s))))
          at p i n false s = or_left (is_record_named r tasks) (eqb r q) (row_named r tasks k (cell_names r (table_of (get_or tasks k None)) p i (record { entry = n.entry; says = s; sharing = n.sharing; index = n.index })))

-- Other invariants

-- frames that are only freed stay within bounds
pub held_less : (F : ℕ) (t t' : Tables) → FramesWithin F t → ((k : ℕ) → is_held t' k ≡ true → is_held t k ≡ true) → FramesWithin F t'
held_less F t t' few frees k l = elim (cases_Bool (is_held t' k)) [ inl h ↦ absurd (both_ways (is_held t k) (few k l) (frees k h)) | inr h ↦ h ]
