-- So far the fields before the index are of the form.
use Rattle.std.proofs.Common.{◌≡◌, ◌∷◌, Some, take}
use Rattle.dbpl_stored_form.specs.DataModules.{fields_named}
use Rattle.dbpl_stored_form.specs.Lists.{joined_all}
use Rattle.dbpl_stored_form.proofs.data_modules.fields_in.Given as goal

abbrev pub invariant-loop-group : goal.invariant-loop-group
invariant-loop-group l = joined_all fields_named (l.fn.first ∷ take l.group-index l.others) ≡ Some l.names
