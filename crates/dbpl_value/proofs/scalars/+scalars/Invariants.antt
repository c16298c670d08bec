use Rattle.std.proofs.Common.{◌≡◌, ◌-◌, ◌^◌, min, take}
use Rattle.std.specs.Prelude.{sum_by}
use Rattle.dbpl_value.specs.Types.{scalars_of}
use Rattle.dbpl_value.proofs.scalars.+scalars.Given as goal

abbrev pub invariant-scalars_of_record-loop-field : goal.invariant-scalars_of_record-loop-field
invariant-scalars_of_record-loop-field l =
    l.total ≡ min (sum_by (λ field. scalars_of field.kind) (take l.field-index l.fields)) (2 ^ 64 - 1)
