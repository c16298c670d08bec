-- The one spelling of the descriptor of a type.
use Rattle.std.specs.Prelude.{ℕ, Bool, true, ◌&&◌, int_le, pos, negsuc, ℤ, List, [], ◌∷◌, ◌++◌}
use Rattle.std.specs.List.{flat_map, list_all}
use Rattle.dbpl_value.specs.Types.{by_parts}
use Rattle.dbpl_value.specs.declared.db_type.DbType.{DbType, DbType-F}
use Rattle.dbpl_value.specs.declared.db_type.DbType.TheOpen as kinds
use Rattle.dbpl_value.specs.declared.field.Field.{Field}
use Rattle.dbpl_codec.specs.Numbers.{count_bytes, count_fits, long_bytes, name_bytes, names_bytes, names_fit}

-- One byte says which kind of type it is. An enumeration has its names behind it, a subrange its host and its bounds, an
-- array its index type and its element type, a record its fields with their names, and a relation the names of its keys
-- and its record type.
abbrev pub descriptor_level : DbType-F (DbType × List ℕ) (Field × List ℕ) → List ℕ
descriptor_level kinds.Int = 1 ∷ []
descriptor_level kinds.Card = 2 ∷ []
descriptor_level kinds.Bool = 3 ∷ []
descriptor_level kinds.Char = 4 ∷ []
descriptor_level (kinds.Enum names) = 5 ∷ names_bytes names
descriptor_level (kinds.Sub host least greatest) = 6 ∷ (host.1 ++ (long_bytes least ++ long_bytes greatest))
descriptor_level (kinds.Arr index element) = 7 ∷ (index.1 ++ element.1)
descriptor_level (kinds.Rec fields) =
    8 ∷ (count_bytes fields ++ flat_map (λ field. name_bytes field.0.name ++ field.1) fields)
descriptor_level (kinds.Rel keys record_type) = 9 ∷ (names_bytes keys ++ record_type.1)

-- THE spelling of a descriptor
abbrev pub type_bytes : DbType → List ℕ
type_bytes t = by_parts (List ℕ) descriptor_level t

-- a number that eight bytes can hold
abbrev pub is_long : ℤ → Bool
is_long n = int_le (negsuc 9223372036854775807) n && int_le n (pos 9223372036854775807)

abbrev pub type_fits_level : DbType-F (DbType × Bool) (Field × Bool) → Bool
type_fits_level (kinds.Enum names) = names_fit names
type_fits_level (kinds.Sub host least greatest) = host.1 && is_long least && is_long greatest
type_fits_level (kinds.Arr index element) = index.1 && element.1
type_fits_level (kinds.Rec fields) = count_fits fields && list_all (λ field. count_fits field.0.name && field.1) fields
type_fits_level (kinds.Rel keys record_type) = names_fit keys && record_type.1
type_fits_level _ = true

-- each count in the descriptor is below 2^32, and each bound fits eight bytes, so that they can be spelled
abbrev pub type_fits : DbType → Bool
type_fits t = by_parts Bool type_fits_level t
