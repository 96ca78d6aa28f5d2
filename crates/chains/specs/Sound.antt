-- What holds of the tables, and how a change leaves them.
use Rattle.std.specs.Prelude.{◌≡◌, ℕ, ◌≤◌, true, Some, None, Option, ◌≢◌}
use Rattle.chains.specs.declared.Backing.{Backing}
use Rattle.chains.specs.declared.Backing.TheVariants.{Free}
use Rattle.chains.specs.declared.Owner.{Owner}
use Rattle.chains.specs.declared.End.{End}
use Rattle.chains.specs.Rows.{live, weight}
use Rattle.chains.specs.Walks.{Chain, Walks}

-- no two frames have one owner
abbrev pub Apart : (ℕ → Option Owner) → Type 0
Apart W = (s t : ℕ) (w : Owner) → W s ≡ Some w → W t ≡ Some w → s ≡ t

-- N objects, M records, F frames; tops and owners are live, chains end, no two frames have one owner
pub record Formed (N M F : ℕ) (B : ℕ → Backing) (W : ℕ → Option Owner) (T : ℕ → Option ℕ) : Type 0 where
  pub objects : (o : ℕ) → N ≤ o → B o ≡ Free
  pub records : (r : ℕ) → M ≤ r → T r ≡ None
  pub frames : (s : ℕ) → F ≤ s → W s ≡ None
  pub tops : (r o : ℕ) → T r ≡ Some o → live (B o) ≡ true
  pub chained : (o : ℕ) → live (B o) ≡ true → (n : ℕ) × Chain B o n
  pub owners : (s : ℕ) (w : Owner) → W s ≡ Some w → live (B w.object) ≡ true
  pub apart : Apart W

-- each live object is named by a record or shadowed by two objects
abbrev pub Settled : ℕ → ℕ → (ℕ → Backing) → (ℕ → Option ℕ) → Type 0
Settled N M B T = (o : ℕ) → live (B o) ≡ true → 2 ≤ weight N M B T o

-- both
pub record Sound (N M F : ℕ) (B : ℕ → Backing) (W : ℕ → Option Owner) (T : ℕ → Option ℕ) : Type 0 where
  pub formed : Formed N M F B W T
  pub settled : Settled N M B T

-- each but object x, and that is named or shadowed at all
abbrev pub Nearly : ℕ → ℕ → (ℕ → Backing) → (ℕ → Option ℕ) → ℕ → Type 0
Nearly N M B T x = ((o : ℕ) → live (B o) ≡ true → (o ≢ x) → 2 ≤ weight N M B T o) × (1 ≤ weight N M B T x)

-- g is x at k, and f elsewhere
pub record Put {A : Type 0} (f g : ℕ → A) (k : ℕ) (x : A) : Type 0 where
  pub here : g k ≡ x
  pub elsewhere : (j : ℕ) → (j ≢ k) → g j ≡ f j

-- each record's walks end where they did
abbrev pub Keeps : (ℕ → Backing) → (ℕ → Option Owner) → (ℕ → Backing) → (ℕ → Option Owner) → (ℕ → Option ℕ) → Type 0
Keeps B W B' W' T = (r o i n : ℕ) (e : End) → T r ≡ Some o → Walks B W i o e n → (m : ℕ) × Walks B' W' i o e m

-- each frame that is held was held, for the same index
abbrev pub Thins : (ℕ → Option Owner) → (ℕ → Option Owner) → Type 0
Thins W W' = (s : ℕ) (w : Owner) → W' s ≡ Some w → (v : Owner) × (W s ≡ Some v) × (v.index ≡ w.index)

-- the tables are sound, and no walk's end and no frame's index has changed
pub record Settles (N M F : ℕ) (B B' : ℕ → Backing) (W W' : ℕ → Option Owner) (T : ℕ → Option ℕ) : Type 0 where
  pub sound : Sound N M F B' W' T
  pub keeps : Keeps B W B' W' T
  pub thins : Thins W W'
