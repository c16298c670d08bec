use Rattle.std.proofs.Common.{◌≡◌, map, take, replicate}
use Rattle.dbpl_value.specs.Values.{start_value_of}
use Rattle.dbpl_value.proofs.start.+starts.Given as goal

abbrev pub invariant-start_elements-loop-at : goal.invariant-start_elements-loop-at
invariant-start_elements-loop-at l = l.parts ≡ replicate l._at (start_value_of l.element)

abbrev pub invariant-start_fields-loop-field : goal.invariant-start_fields-loop-field
invariant-start_fields-loop-field l = l.parts ≡ map (λ field. start_value_of field.kind) (take l.field-index l.fields)
