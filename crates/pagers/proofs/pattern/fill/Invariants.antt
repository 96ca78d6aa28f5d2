use Rattle.std.proofs.Common.{◌≡◌, ℕ, ◌+◌, ◌*◌, ◌%◌, ◌<◌, length, get_or}
use Rattle.pagers.proofs.pattern.fill.Given as goal

-- the bytes so far are the pattern's
abbrev pub invariant-loop-i : goal.invariant-loop-i
invariant-loop-i l = (length l.into ≡ 256) × ((k : ℕ) → k < l.i → get_or l.into k 0 ≡ (31 * l.page + k) % 256)
