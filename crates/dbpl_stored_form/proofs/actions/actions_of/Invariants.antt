-- So far the statements before the index are actions.
use Rattle.std.proofs.Common.{◌≡◌, ◌∷◌, Some, take}
use Rattle.dbpl_stored_form.specs.Lists.{joined_all}
use Rattle.dbpl_stored_form.specs.Statements.{actions_in}
use Rattle.dbpl_stored_form.proofs.actions.actions_of.Given as goal

abbrev pub invariant-loop-statement : goal.invariant-loop-statement
invariant-loop-statement l =
    joined_all (actions_in l.fn.transaction l.fn.imports) (l.fn.first ∷ take l.statement-index l.others) ≡ Some l.actions
