use Rattle.std.proofs.Common.{◌≡◌, filter, if◌then◌else◌, map, take, true}
use Rattle.dbpl_value.specs.Types.{is_char_array, is_ordinal}
use Rattle.dbpl_value.proofs.key_fields.key_names.Given as goal

abbrev pub invariant-loop-field : goal.invariant-loop-field
invariant-loop-field l =
    map (λ name. name.now) l.names.items
    ≡ map (λ field. field.name)
    (filter (λ field. if is_ordinal field.kind then true else is_char_array field.kind) (take l.field-index l.fields))
