use Rattle.std.proofs.Common.{◌≡◌, length, get_or, None}
use Rattle.chains.specs.Walks.{lifted}
use Rattle.objects.proofs.Edits.{Edited}
use Rattle.objects.proofs.frames.lift_frames.Given as goal

abbrev pub invariant-loop-owner : goal.invariant-loop-owner
invariant-loop-owner l = (length l.owner-items ≡ 128) × Edited None (lifted 128 (λ s. get_or l.before s None) l.lower l.upper) l.initial.owner-items l.owner-items l.owner-index
