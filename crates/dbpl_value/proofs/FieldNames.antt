-- The names of fields are names.
use Rattle.std.proofs.Common.{◌≡◌, ℕ, ◌&&◌, Bool, List, map, ap}
use Rattle.std.proofs.lemmas.List.Folds.{list_all-map}
use Rattle.std.specs.List.{list_all}
use Rattle.dbpl_value.specs.Types.{are_different, are_names, is_identifier}
use Rattle.dbpl_value.specs.declared.field.Field.{Field}

abbrev pub name_of : Field → List ℕ
name_of field = field.name

pub are_names-fields :
    (fields : List Field) →
    are_names (map name_of fields)
    ≡ (list_all (λ (field : Field). is_identifier field.name) fields && are_different (map name_of fields))
are_names-fields fields = ap (λ (b : Bool). b && are_different (map name_of fields)) (list_all-map is_identifier name_of fields)
