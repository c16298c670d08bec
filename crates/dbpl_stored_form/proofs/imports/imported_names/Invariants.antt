-- The names of the imports before the index.
use Rattle.std.proofs.Common.{◌≡◌, take}
use Rattle.dbpl_stored_form.specs.Imports.{imported_names}
use Rattle.dbpl_stored_form.proofs.imports.imported_names.Given as goal

abbrev pub invariant-loop-import : goal.invariant-loop-import
invariant-loop-import l = l.names ≡ imported_names (take l.import-index l.imports)
