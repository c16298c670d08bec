-- The one spelling of a value, by its type.
use Rattle.std.specs.Prelude.{ℕ, pos, int_le, Bool, true, ◌&&◌, List, [], ◌∷◌, ◌++◌}
use Rattle.std.specs.List.{flat_map, list_all, zip}
use Rattle.dbpl_value.specs.Keys.{number_of, parts_of}
use Rattle.dbpl_value.specs.Types.{by_answers}
use Rattle.dbpl_value.specs.declared.db_type.DbType.{DbType, DbType-F}
use Rattle.dbpl_value.specs.declared.db_type.DbType.TheOpen as kinds
use Rattle.dbpl_value.specs.declared.value.Value.{Value}
use Rattle.dbpl_codec.specs.Numbers.{byte_of, count_bytes, count_fits, word_bytes}

-- Numbers take four bytes, but BOOLEAN and CHAR one; a subrange is spelled as its host. Arrays are their elements and
-- records their fields, with nothing between. A relation is the number of its records and then the records.
abbrev pub bytes_level : DbType-F (Value → List ℕ) (Value → List ℕ) → Value → List ℕ
bytes_level kinds.Int v = word_bytes (number_of v)
bytes_level kinds.Card v = word_bytes (number_of v)
bytes_level kinds.Bool v = byte_of (number_of v) ∷ []
bytes_level kinds.Char v = byte_of (number_of v) ∷ []
bytes_level (kinds.Enum names) v = word_bytes (number_of v)
bytes_level (kinds.Sub host least greatest) v = host v
bytes_level (kinds.Arr index element) v = flat_map element (parts_of v)
bytes_level (kinds.Rec fields) v = flat_map (λ pair. pair.0 pair.1) (zip fields (parts_of v))
bytes_level (kinds.Rel keys record_type) v = count_bytes (parts_of v) ++ flat_map record_type (parts_of v)

-- THE spelling of a value of this type
abbrev pub bytes_of : DbType → Value → List ℕ
bytes_of t = by_answers (Value → List ℕ) bytes_level t

abbrev pub fits_level : DbType-F (Value → Bool) (Value → Bool) → Value → Bool
fits_level (kinds.Enum names) v = int_le (number_of v) (pos 4294967295)
fits_level (kinds.Sub host least greatest) v = host v
fits_level (kinds.Arr index element) v = list_all element (parts_of v)
fits_level (kinds.Rec fields) v = list_all (λ pair. pair.0 pair.1) (zip fields (parts_of v))
fits_level (kinds.Rel keys record_type) v = count_fits (parts_of v) && list_all record_type (parts_of v)
fits_level _ v = true

-- each relation in the value has fewer than 2^32 records, and each constant of an enumeration is one of the first 2^32:
-- so four bytes hold them
abbrev pub value_fits : DbType → Value → Bool
value_fits t = by_answers (Value → Bool) fits_level t
