use Rattle.std.proofs.Common.{◌≡◌, ◌++◌, reverse, length}
use Rattle.dbpl_relation.proofs.records.copy_from_last.Given as goal

abbrev pub invariant-loop-value : goal.invariant-loop-value
invariant-loop-value l = reverse l.fn.values ≡ l.copies ++ reverse l.left

abbrev pub decreases-loop-value : goal.decreases-loop-value
decreases-loop-value l = length l.left
