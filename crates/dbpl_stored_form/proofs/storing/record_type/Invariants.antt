-- A field for each name before the index.
use Rattle.std.proofs.Common.{◌≡◌, map, take}
use Rattle.dbpl_stored_program.specs.Programs.{cardinal_field}
use Rattle.dbpl_stored_form.proofs.storing.record_type.Given as goal

abbrev pub invariant-loop-name : goal.invariant-loop-name
invariant-loop-name l = l.fields ≡ map cardinal_field (take l.name-index l.names)
