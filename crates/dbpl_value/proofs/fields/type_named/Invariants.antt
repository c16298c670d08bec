use Rattle.std.proofs.Common.{◌≡◌, drop}
use Rattle.dbpl_value.specs.Types.{type_named}
use Rattle.dbpl_value.proofs.fields.type_named.Given as goal

abbrev pub invariant-loop-field : goal.invariant-loop-field
invariant-loop-field l = type_named l.t (drop l.field-index l.fields) l.name ≡ type_named l.t l.fields l.name
