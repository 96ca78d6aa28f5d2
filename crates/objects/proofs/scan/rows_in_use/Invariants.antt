use Rattle.std.proofs.Common.{◌≡◌, take, count_by, is_some}
use Rattle.objects.proofs.scan.rows_in_use.Given as goal

abbrev pub invariant-loop-row : goal.invariant-loop-row
invariant-loop-row g l = l.count ≡ count_by is_some (take l.row-index l.rows)
