-- Where the walk through a comment stands.
use Rattle.std.proofs.Common.{◌+◌, ◌≤◌, length}
use Rattle.dbpl_scan.proofs.CommentLaw.{Same}
use Rattle.dbpl_scan.proofs.comments.after_comment.Given as goal

-- the comments that are still open close with what is left as the first one does with the text
abbrev pub invariant-loop-rest : goal.invariant-loop-rest
invariant-loop-rest l = record {
  same : Same 0 l.text l.depth l.rest;
  deep : l.depth + length l.rest ≤ length l.text;
}

abbrev pub decreases-loop-rest : goal.decreases-loop-rest
decreases-loop-rest l = length l.rest
