use Rattle.std.proofs.Common.{◌≡◌, length, None}
use Rattle.chains.specs.Walks.{dropped}
use Rattle.objects.proofs.Edits.{Edited}
use Rattle.objects.proofs.frames.drop_frames.Given as goal

abbrev pub invariant-loop-owner : goal.invariant-loop-owner
invariant-loop-owner l = (length l.owner-items ≡ 128) × Edited None (dropped l.object) l.initial.owner-items l.owner-items l.owner-index
