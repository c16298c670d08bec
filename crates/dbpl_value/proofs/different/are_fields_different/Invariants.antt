use Rattle.std.proofs.Common.{◌≡◌, map, take}
use Rattle.dbpl_value.proofs.different.are_fields_different.Given as goal

abbrev pub invariant-loop-field : goal.invariant-loop-field
invariant-loop-field l = map (λ text. text.now) l.texts.items ≡ map (λ field. field.name) (take l.field-index l.fields)
