-- The key of a record, and the order of keys.
use Rattle.std.specs.Prelude.{ℕ, ℤ, pos, Bool, true, ◌&&◌, if◌then◌else◌, List, [], ◌∷◌, map, Option, Some, None}
use Rattle.std.specs.Cmp.Lexicographic.{slice_cmp}
use Rattle.std.specs.List.{list_all}
use Rattle.std.specs.Option.{option_map_or}
use Rattle.std.specs.Ordering.{int_cmp, is_eq, is_lt}
use Rattle.std.specs.declared.cmp.Ordering.{Ordering}
use Rattle.dbpl_value.specs.Types.{element_of, fields_of, is_same_name, keys_of}
use Rattle.dbpl_value.specs.declared.db_type.DbType.{DbType}
use Rattle.dbpl_value.specs.declared.field.Field.{Field}
use Rattle.dbpl_value.specs.declared.value.Value.{Value, Value-F, out-Value}
use Rattle.dbpl_value.specs.declared.value.Value.TheOpen as values

-- ---- one level of a value

abbrev pub number_level : {X : Type 0} → Value-F X → ℤ
number_level (values.Num n) = n
number_level _ = pos 0

-- the number that a value is, and 0 where it has parts
abbrev pub number_of : Value → ℤ
number_of v = number_level (out-Value v)

abbrev pub parts_level : {X : Type 0} → Value-F X → List X
parts_level (values.Num n) = []
parts_level (values.Arr parts) = parts
parts_level (values.Rec parts) = parts
parts_level (values.Rel parts) = parts

-- the parts of a value: elements, fields or records
abbrev pub parts_of : Value → List Value
parts_of v = parts_level (out-Value v)

-- ---- keys

-- the value of the field of this name, if there is one
abbrev pub part_named : List Field → List Value → List ℕ → Option Value
part_named [] parts name = None
part_named (field ∷ fields) [] name = None
part_named (field ∷ fields) (part ∷ parts) name =
    if is_same_name field.name name then Some part else part_named fields parts name

abbrev pub component_level : Value → Value-F Value → List Value
component_level v (values.Num n) = v ∷ []
component_level v (values.Arr parts) = parts
component_level v _ = []

-- what a component of a key is made of: the number alone, or the characters of an array
abbrev pub component_values : Value → List Value
component_values v = component_level v (out-Value v)

-- a component of a key, by its numbers
abbrev pub component_of : Value → List ℤ
component_of v = map number_of (component_values v)

-- the component that stands in the field of this name
abbrev pub component_named : List Field → List Value → List ℕ → List ℤ
component_named fields parts name = option_map_or component_of (part_named fields parts name) []

-- THE key of a record in a relation of this type: its components in declared order
abbrev pub key_of : DbType → Value → List (List ℤ)
key_of t element = map (component_named (fields_of (element_of t)) (parts_of element)) (keys_of t)

-- a key that is given by its components
abbrev pub key_from : List Value → List (List ℤ)
key_from components = map component_of components

-- THE order of keys: the first component that differs decides, and in it the first number
abbrev pub key_cmp : List (List ℤ) → List (List ℤ) → Ordering
key_cmp key other = slice_cmp (slice_cmp int_cmp) key other

abbrev pub is_same_key : List (List ℤ) → List (List ℤ) → Bool
is_same_key key other = is_eq (key_cmp key other)

-- the record has this key
abbrev pub has_key : DbType → List (List ℤ) → Value → Bool
has_key t key element = is_same_key (key_of t element) key

-- each record has a lesser key than all behind it
abbrev pub keys_rise : DbType → List Value → Bool
keys_rise t [] = true
keys_rise t (element ∷ elements) =
    list_all (λ later. is_lt (key_cmp (key_of t element) (key_of t later))) elements && keys_rise t elements
