-- At the start no task lives and no frame is held.
use Rattle.std.proofs.Common.{◌≡◌, ℕ, zero, suc, min, false, List, replicate, is_some, Some, None, Option, sym, refl, ap, arith}
use Rattle.std.proofs.lemmas.Bool.{both_ways}
use Rattle.pagers.specs.Meaning.{Meaning}
use Rattle.machine.specs.State.{start, table}
use Rattle.objects.specs.declared.tables.Tables.{Tables}
use Rattle.objects.specs.View.{is_held, owner_of}
use Rattle.relation.specs.Living.{Living}
use Rattle.relation.specs.Stands.{place_of, task_at, is_record_named, Stands}

idle_at : (n : ℕ) (p : Option ℕ) → task_at (replicate n None) p ≡ None
idle_at n None = refl
idle_at zero (Some k) = refl
idle_at (suc n) (Some zero) = refl
idle_at (suc n) (Some (suc k)) = idle_at n (Some k)

-- no task of the start has a cell
none_living : (n r i : ℕ) → Living (table (start n)) r i → ⊥
unfolding table start
none_living n r i l = let e = l.names.says in let z : ◌≡◌ {A = ℕ} 0 1 = cc in omega arith

-- nothing is named
pub idle_named : (n r : ℕ) → is_record_named r (replicate n None) ≡ false
idle_named zero r = refl
idle_named (suc n) r = idle_named n r

pub stands_start : (n F : ℕ) (t : Tables) (memory : List ℕ) (M : Meaning) → F ≡ min n 128 → ((k : ℕ) → owner_of t k ≡ None) → Stands F (replicate 16 None) t memory M (start n)
unfolding start
stands_start n F t memory M few free = record {
  frames = sym few;
  same = λ u. sym (idle_at 16 (place_of u));
  mark = λ k. 0;
  mirror = record {
    shows = λ r i l. absurd (none_living n r i l);
    holds = λ r i k l e. absurd (none_living n r i l);
    reached = λ k h. absurd (both_ways (is_held t k) (ap is_some (free k)) h);
    single = λ j k a b e. absurd (both_ways (is_held t j) (ap is_some (free j)) a);
    earlier = λ k h. absurd (both_ways (is_held t k) (ap is_some (free k)) h);
  };
}
