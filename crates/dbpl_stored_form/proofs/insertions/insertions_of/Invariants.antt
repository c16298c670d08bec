-- So far the statements before the index are insertions.
use Rattle.std.proofs.Common.{◌≡◌, ◌∷◌, Some, take}
use Rattle.dbpl_stored_form.specs.Lists.{joined_all}
use Rattle.dbpl_stored_form.specs.Statements.{insertions_in}
use Rattle.dbpl_stored_form.proofs.insertions.insertions_of.Given as goal

abbrev pub invariant-loop-statement : goal.invariant-loop-statement
invariant-loop-statement l =
    joined_all (insertions_in l.fn.schema) (l.fn.first ∷ take l.statement-index l.others) ≡ Some l.insertions
