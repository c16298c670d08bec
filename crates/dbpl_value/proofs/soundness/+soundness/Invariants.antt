use Rattle.std.proofs.Common.{◌≡◌, drop}
use Rattle.std.specs.List.{list_all}
use Rattle.dbpl_value.specs.Types.{is_sound}
use Rattle.dbpl_value.proofs.soundness.+soundness.Given as goal

abbrev pub invariant-are_sound-loop-field : goal.invariant-are_sound-loop-field
invariant-are_sound-loop-field l =
    list_all (λ field. is_sound field.kind) (drop l.field-index l.fields) ≡ list_all (λ field. is_sound field.kind) l.fields
