-- Descriptors read from bytes, from left to right: the descriptor and the bytes after it, or nothing where the bytes begin
-- with none. Types may stand inside one another only so deep.
use Rattle.std.specs.Prelude.{ℕ, zero, suc, ℤ, nat_eq, nat_lt, if◌then◌else◌, List, [], take, drop, length, Some, None}
use Rattle.std.specs.Int.{cast_signed, w64}
use Rattle.byteorder.specs.Endian.{little_number}
use Rattle.dbpl_value.specs.declared.db_type.DbType.{DbType}
use Rattle.dbpl_value.specs.declared.db_type.DbType.TheVariants as types
use Rattle.dbpl_value.specs.declared.field.Field.{Field}
use Rattle.dbpl_codec.specs.Reading.{Reader, ◌>>=◌, byte_at, repeat, word_at}

-- so many bytes
unfoldable pub bytes_at : ℕ → Reader (List ℕ)
bytes_at count bytes = if nat_lt (length bytes) count then None else Some (take count bytes, drop count bytes)

unfoldable pub long_at : Reader ℤ
long_at bytes = if nat_lt (length bytes) 8 then None else Some (cast_signed w64 (little_number 8 bytes), drop 8 bytes)

unfoldable pub name_at : Reader (List ℕ)
name_at bytes = word_at bytes >>= λ n. bytes_at n.0 n.1

unfoldable pub names_at : Reader (List (List ℕ))
names_at bytes = word_at bytes >>= λ n. repeat name_at n.0 [] n.1

unfoldable pub field_at : Reader DbType → Reader Field
field_at read bytes =
    name_at bytes >>= λ name. read name.1 >>= λ kind. Some (record { name = name.0; kind = kind.0 }, kind.1)

-- ---- what stands behind the first byte of each kind

unfoldable pub enumeration_at : Reader DbType
enumeration_at bytes = names_at bytes >>= λ names. Some (types.Enum names.0, names.1)

unfoldable pub subrange_at : Reader DbType → Reader DbType
subrange_at read bytes =
    read bytes >>= λ host. long_at host.1 >>= λ least. long_at least.1 >>= λ greatest.
    Some (types.Sub host.0 least.0 greatest.0, greatest.1)

unfoldable pub array_at : Reader DbType → Reader DbType
array_at read bytes = read bytes >>= λ index. read index.1 >>= λ element. Some (types.Arr index.0 element.0, element.1)

unfoldable pub record_at : Reader DbType → Reader DbType
record_at read bytes = word_at bytes >>= λ n. repeat (field_at read) n.0 [] n.1 >>= λ fields. Some (types.Rec fields.0, fields.1)

unfoldable pub relation_at : Reader DbType → Reader DbType
relation_at read bytes = names_at bytes >>= λ keys. read keys.1 >>= λ of. Some (types.Rel keys.0 of.0, of.1)

-- a type of the kind that the first byte says
unfoldable pub kind_at : Reader DbType → ℕ → Reader DbType
kind_at read kind bytes =
    if nat_eq kind 1 then Some (types.Int, bytes)
    else if nat_eq kind 2 then Some (types.Card, bytes)
    else if nat_eq kind 3 then Some (types.Bool, bytes)
    else if nat_eq kind 4 then Some (types.Char, bytes)
    else if nat_eq kind 5 then enumeration_at bytes
    else if nat_eq kind 6 then subrange_at read bytes
    else if nat_eq kind 7 then array_at read bytes
    else if nat_eq kind 8 then record_at read bytes
    else if nat_eq kind 9 then relation_at read bytes
    else None

-- a type in which types stand inside one another to this depth at most, the outermost counted
unfoldable pub type_at : ℕ → Reader DbType
type_at zero bytes = None
type_at (suc depth) bytes = byte_at bytes >>= λ kind. kind_at (type_at depth) kind.0 kind.1
