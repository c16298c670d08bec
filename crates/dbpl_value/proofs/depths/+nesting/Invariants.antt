use Rattle.std.proofs.Common.{◌≡◌, drop, nat_le}
use Rattle.std.specs.List.{list_all}
use Rattle.dbpl_value.specs.Types.{relations_of}
use Rattle.dbpl_value.proofs.depths.+nesting.Given as goal

abbrev pub invariant-are_fields_within-loop-field : goal.invariant-are_fields_within-loop-field
invariant-are_fields_within-loop-field l =
    list_all (λ field. nat_le (relations_of field.kind) l.depth) (drop l.field-index l.fields)
    ≡ list_all (λ field. nat_le (relations_of field.kind) l.depth) l.fields
