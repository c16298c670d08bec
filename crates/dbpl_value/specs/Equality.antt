-- Which types and which values are equal, as tests.
use Rattle.std.specs.Prelude.{ℕ, Bool, true, false, ◌&&◌, List, [], ◌∷◌}
use Rattle.std.specs.Cmp.Lexicographic.{pointwise}
use Rattle.std.specs.Ordering.{int_cmp, is_eq}
use Rattle.dbpl_value.specs.Types.{is_same_name}
use Rattle.dbpl_value.specs.declared.db_type.DbType.{DbType, DbType-F, fold-DbType, out-DbType}
use Rattle.dbpl_value.specs.declared.db_type.DbType.TheOpen as kinds
use Rattle.dbpl_value.specs.declared.field.Field.{Field, Field-F}
use Rattle.dbpl_value.specs.declared.value.Value.{Value, Value-F, fold-Value, out-Value}
use Rattle.dbpl_value.specs.declared.value.Value.TheOpen as values

-- as many parts as tests, each of which passes its own
abbrev pub each_passes : {A : Type 0} → List (A → Bool) → List A → Bool
each_passes [] [] = true
each_passes [] (part ∷ parts) = false
each_passes (test ∷ tests) [] = false
each_passes (test ∷ tests) (part ∷ parts) = test part && each_passes tests parts

-- ---- values

-- the same variant, and equal in its number or part by part
abbrev pub is_same_level : Value-F (Value → Bool) → Value-F Value → Bool
is_same_level (values.Num n) (values.Num other) = is_eq (int_cmp n other)
is_same_level (values.Arr tests) (values.Arr parts) = each_passes tests parts
is_same_level (values.Rec tests) (values.Rec parts) = each_passes tests parts
is_same_level (values.Rel tests) (values.Rel parts) = each_passes tests parts
is_same_level _ _ = false

-- the two values are equal, with all that is in them
abbrev pub is_same : Value → Value → Bool
is_same = fold-Value (Value → Bool) (λ level v. is_same_level level (out-Value v))

-- ---- types

abbrev pub are_same_names : List (List ℕ) → List (List ℕ) → Bool
are_same_names names others = pointwise is_same_name names others

-- the same kind, and equal in its names and bounds and part by part
abbrev pub is_same_kind : DbType-F (DbType → Bool) (Field → Bool) → DbType-F DbType Field → Bool
is_same_kind kinds.Int kinds.Int = true
is_same_kind kinds.Card kinds.Card = true
is_same_kind kinds.Bool kinds.Bool = true
is_same_kind kinds.Char kinds.Char = true
is_same_kind (kinds.Enum names) (kinds.Enum others) = are_same_names names others
is_same_kind (kinds.Sub test least greatest) (kinds.Sub host low high) =
    test host && is_eq (int_cmp least low) && is_eq (int_cmp greatest high)
is_same_kind (kinds.Arr index_test element_test) (kinds.Arr index element) = index_test index && element_test element
is_same_kind (kinds.Rec tests) (kinds.Rec fields) = each_passes tests fields
is_same_kind (kinds.Rel keys test) (kinds.Rel others record_type) = are_same_names keys others && test record_type
is_same_kind _ _ = false

-- the same name, and a type that passes
abbrev pub is_same_field : Field-F (DbType → Bool) (Field → Bool) → Field → Bool
is_same_field level field = is_same_name level.name field.name && level.kind field.kind

-- the two types are equal, with all that is in them
abbrev pub is_same_type : DbType → DbType → Bool
is_same_type = fold-DbType (DbType → Bool) (Field → Bool) (λ level t. is_same_kind level (out-DbType t)) is_same_field
