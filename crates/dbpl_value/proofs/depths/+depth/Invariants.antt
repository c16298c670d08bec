use Rattle.std.proofs.Common.{◌≡◌, drop, nat_le}
use Rattle.std.specs.List.{list_all}
use Rattle.dbpl_value.specs.Types.{depth_of}
use Rattle.dbpl_value.proofs.depths.+depth.Given as goal

abbrev pub invariant-are_field_types_within-loop-field : goal.invariant-are_field_types_within-loop-field
invariant-are_field_types_within-loop-field l =
    list_all (λ field. nat_le (depth_of field.kind) l.depth) (drop l.field-index l.fields)
    ≡ list_all (λ field. nat_le (depth_of field.kind) l.depth) l.fields
