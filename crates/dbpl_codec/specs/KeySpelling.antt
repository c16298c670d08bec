-- The bytes by which keys are ordered.
use Rattle.std.specs.Prelude.{ℕ, ◌+◌, ◌%◌, ◌^◌, Bool, ◌&&◌, nat_le, List, [], ◌∷◌, length}
use Rattle.std.specs.List.{flat_map, list_all, zip}
use Rattle.byteorder.specs.Endian.{big_bytes}
use Rattle.dbpl_value.specs.Keys.{number_of, parts_of}
use Rattle.dbpl_value.specs.Types.{by_answers, key_type, keys_of}
use Rattle.dbpl_value.specs.Values.{is_of}
use Rattle.dbpl_value.specs.declared.db_type.DbType.{DbType, DbType-F}
use Rattle.dbpl_value.specs.declared.db_type.DbType.TheOpen as kinds
use Rattle.dbpl_value.specs.declared.value.Value.{Value}
use Rattle.dbpl_codec.specs.Numbers.{byte_of, word_of}
use Rattle.dbpl_codec.specs.ValueSpelling.{value_fits}

-- Key bytes are big endian, so that they compare as the numbers do, and an INTEGER is raised by 2^31, so that the least
-- has the least bytes. An array is the bytes of its characters.
abbrev pub key_bytes_level : DbType-F (Value → List ℕ) (Value → List ℕ) → Value → List ℕ
key_bytes_level kinds.Int v = big_bytes 4 ((word_of (number_of v) + 2147483648) % 2 ^ 32)
key_bytes_level kinds.Card v = big_bytes 4 (word_of (number_of v))
key_bytes_level kinds.Bool v = byte_of (number_of v) ∷ []
key_bytes_level kinds.Char v = byte_of (number_of v) ∷ []
key_bytes_level (kinds.Enum names) v = big_bytes 4 (word_of (number_of v))
key_bytes_level (kinds.Sub host least greatest) v = host v
key_bytes_level (kinds.Arr index element) v = flat_map element (parts_of v)
key_bytes_level _ v = []

-- the key bytes of one component of this type
abbrev pub component_bytes : DbType → Value → List ℕ
component_bytes t = by_answers (Value → List ℕ) key_bytes_level t

-- THE key bytes of a key in a relation of this type, or of its first components
abbrev pub key_bytes_of : DbType → List Value → List ℕ
key_bytes_of t key = flat_map (λ pair. component_bytes (key_type t pair.0) pair.1) (zip (keys_of t) key)

-- a component that the key field of this name may have
abbrev pub is_component : DbType → List ℕ × Value → Bool
is_component t pair = is_of (key_type t pair.0) pair.1 && value_fits (key_type t pair.0) pair.1

-- THE keys of a relation of this type, and their first components
abbrev pub is_key : DbType → List Value → Bool
is_key t key = nat_le (length key) (length (keys_of t)) && list_all (is_component t) (zip (keys_of t) key)
