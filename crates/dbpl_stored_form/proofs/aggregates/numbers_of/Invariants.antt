-- So far the elements before the index are numbers.
use Rattle.std.proofs.Common.{◌≡◌, Some, take}
use Rattle.dbpl_stored_form.specs.Lists.{joined_all}
use Rattle.dbpl_stored_form.specs.Statements.{numbers_in}
use Rattle.dbpl_stored_form.proofs.aggregates.numbers_of.Given as goal

abbrev pub invariant-loop-element : goal.invariant-loop-element
invariant-loop-element l = joined_all numbers_in (take l.element-index l.elements) ≡ Some l.row
