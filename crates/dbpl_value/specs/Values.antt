-- Which values a type has, and with which a variable of it begins.
use Rattle.std.specs.Prelude.{ℕ, ℤ, pos, Bool, false, ◌&&◌, nat_eq, if◌then◌else◌, List, [], map, length, replicate, Option, Some}
use Rattle.std.specs.List.{list_all, zip}
use Rattle.std.specs.Option.{option_map_or}
use Rattle.dbpl_value.specs.Keys.{keys_rise}
use Rattle.dbpl_value.specs.Types.{by_parts, count_of, is_in, range_level}
use Rattle.dbpl_value.specs.declared.db_type.DbType.{DbType, DbType-F}
use Rattle.dbpl_value.specs.declared.db_type.DbType.TheOpen as kinds
use Rattle.dbpl_value.specs.declared.db_type.DbType.TheVariants as types
use Rattle.dbpl_value.specs.declared.field.Field.{Field}
use Rattle.dbpl_value.specs.declared.range.Range.{Range}
use Rattle.dbpl_value.specs.declared.value.Value.{Value, Value-F, out-Value}
use Rattle.dbpl_value.specs.declared.value.Value.TheOpen as values
use Rattle.dbpl_value.specs.declared.value.Value.TheVariants as value

-- a number in the range
abbrev pub is_number : Option Range → Value-F Value → Bool
is_number (Some range) (values.Num n) = is_in range n
is_number _ _ = false

-- this many elements that pass
abbrev pub is_array : ℕ → (Value → Bool) → Value-F Value → Bool
is_array count test (values.Arr parts) = nat_eq (length parts) count && list_all test parts
is_array count test _ = false

-- as many parts as fields, each of which passes the test of its field
abbrev pub is_record_of : List (Value → Bool) → Value-F Value → Bool
is_record_of tests (values.Rec parts) =
    nat_eq (length parts) (length tests) && list_all (λ pair. pair.0 pair.1) (zip tests parts)
is_record_of tests _ = false

-- records that pass, with keys that rise strictly
abbrev pub is_relation_of : List (List ℕ) → DbType → (Value → Bool) → Value-F Value → Bool
is_relation_of keys record_type test (values.Rel parts) =
    list_all test parts && keys_rise (types.Rel keys record_type) parts
is_relation_of keys record_type test _ = false

abbrev pub is_of_level : DbType-F (DbType × (Value → Bool)) (Field × (Value → Bool)) → Value-F Value → Bool
is_of_level (kinds.Arr index element) v = is_array (count_of index.0) element.1 v
is_of_level (kinds.Rec fields) v = is_record_of (map (λ field. field.1) fields) v
is_of_level (kinds.Rel keys record_type) v = is_relation_of keys record_type.0 record_type.1 v
is_of_level ordinal v = is_number (range_level ordinal) v

-- THE values of a type
abbrev pub is_of : DbType → Value → Bool
is_of t = by_parts (Value → Bool) (λ level v. is_of_level level (out-Value v)) t

-- 0, or the least number where 0 isn't in the range
abbrev pub start_number : Range → ℤ
start_number range = if is_in range (pos 0) then pos 0 else range.least

abbrev pub start_level : DbType-F (DbType × Value) (Field × Value) → Value
start_level (kinds.Arr index element) = value.Arr (replicate (count_of index.0) element.1)
start_level (kinds.Rec fields) = value.Rec (map (λ field. field.1) fields)
start_level (kinds.Rel keys record_type) = value.Rel []
start_level ordinal = value.Num (option_map_or start_number (range_level ordinal) (pos 0))

-- THE value with which a variable begins: arrays and records by their parts, relations empty
abbrev pub start_value_of : DbType → Value
start_value_of t = by_parts Value start_level t
