use Rattle.std.proofs.Common.{◌≡◌, ◌++◌, ◌&&◌, take, true}
use Rattle.std.specs.List.{flat_map, list_all}
use Rattle.dbpl_codec.specs.Numbers.{count_fits, name_bytes}
use Rattle.dbpl_codec.specs.TypeSpelling.{type_bytes, type_fits}
use Rattle.dbpl_codec.proofs.types.+writes.Given as goal

abbrev pub invariant-append_fields-loop-field : goal.invariant-append_fields-loop-field
invariant-append_fields-loop-field l =
    (l.out.items
    ≡ l.fn.out.items
    ++ flat_map (λ field. name_bytes field.name ++ type_bytes field.kind) (take l.field-index l.fields))
    × (list_all (λ field. count_fits field.name && type_fits field.kind) (take l.field-index l.fields) ≡ true)
