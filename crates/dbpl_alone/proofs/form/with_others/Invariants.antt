-- So far the statements before the index are of the form.
use Rattle.std.proofs.Common.{◌≡◌, Some, take}
use Rattle.dbpl_alone.specs.Small.{in_front, small_statements}
use Rattle.dbpl_alone.proofs.form.with_others.Given as goal

abbrev pub invariant-loop-statement : goal.invariant-loop-statement
invariant-loop-statement l = in_front (Some l.fn.first) (small_statements (take l.statement-index l.others)) ≡ Some l.all
