-- So far the elements before the index are rows.
use Rattle.std.proofs.Common.{◌≡◌, Some, take}
use Rattle.dbpl_stored_form.specs.Lists.{joined_all}
use Rattle.dbpl_stored_form.specs.Statements.{rows_in}
use Rattle.dbpl_stored_form.proofs.aggregates.rows_of.Given as goal

abbrev pub invariant-loop-element : goal.invariant-loop-element
invariant-loop-element l = joined_all (rows_in l.fn.schema) (take l.element-index l.elements) ≡ Some l.rows
