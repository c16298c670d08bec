-- Where the walk through a gap stands.
use Rattle.std.proofs.Common.{length}
use Rattle.dbpl_scan.proofs.GapLaw.{GapTo}
use Rattle.dbpl_scan.proofs.comments.after_gap.Given as goal

abbrev pub invariant-loop-rest : goal.invariant-loop-rest
invariant-loop-rest l = GapTo l.text l.rest

abbrev pub decreases-loop-rest : goal.decreases-loop-rest
decreases-loop-rest l = length l.rest
