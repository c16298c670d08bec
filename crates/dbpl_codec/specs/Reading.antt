-- Values read from bytes, from left to right: the value and the bytes after it, or nothing where the bytes are no
-- spelling. `found` in a list's reader is what stands before.
use Rattle.std.specs.Prelude.{ℕ, zero, suc, pos, nat_lt, if◌then◌else◌, List, [], ◌∷◌, ◌++◌, map, length, drop, Option, Some, None, Result, Ok, Err, ◌≡◌, ◌≢◌}
use Rattle.std.specs.Int.{cast_signed, w32}
use Rattle.byteorder.specs.Endian.{little_number}
use Rattle.dbpl_value.specs.Keys.{keys_rise}
use Rattle.dbpl_value.specs.Types.{by_parts, count_of, is_none_left, range_level, range_of}
use Rattle.dbpl_value.specs.Values.{is_number}
use Rattle.dbpl_value.specs.declared.db_type.DbType.{DbType, DbType-F, out-DbType}
use Rattle.dbpl_value.specs.declared.db_type.DbType.TheOpen as kinds
use Rattle.dbpl_value.specs.declared.db_type.DbType.TheVariants as types
use Rattle.dbpl_value.specs.declared.field.Field.{Field}
use Rattle.dbpl_value.specs.declared.range.Range.{Range}
use Rattle.dbpl_value.specs.declared.value.Value.{Value, out-Value}
use Rattle.dbpl_value.specs.declared.value.Value.TheVariants as value
use Rattle.dbpl_codec.specs.declared.read_err.ReadErr.{ReadErr}
use Rattle.dbpl_codec.specs.declared.read_err.ReadErr.TheVariants as errors

abbrev pub Reader : Type 0 → Type 0
Reader A = List ℕ → Option (A × List ℕ)

infixl 10 ◌>>=◌
abbrev pub ◌>>=◌ : {A B : Type 0} → Option A → (A → Option B) → Option B
(Some x) >>= f = f x
None >>= f = None

unfoldable pub word_at : Reader ℕ
word_at bytes = if nat_lt (length bytes) 4 then None else Some (little_number 4 bytes, drop 4 bytes)

abbrev pub byte_at : Reader ℕ
byte_at [] = None
byte_at (b ∷ rest) = Some (b, rest)

-- this many items
unfoldable pub repeat : {A : Type 0} → Reader A → ℕ → List A → Reader (List A)
repeat read zero found bytes = Some (found, bytes)
repeat read (suc n) found bytes = read bytes >>= λ x. repeat read n (found ++ x.0 ∷ []) x.1

-- one item by each of the readers
unfoldable pub in_turn : {A : Type 0} → List (Reader A) → List A → Reader (List A)
in_turn [] found bytes = Some (found, bytes)
in_turn (read ∷ reads) found bytes = read bytes >>= λ x. in_turn reads (found ++ x.0 ∷ []) x.1

-- the value, where it is a number in the range
abbrev pub checked : Option Range → Value × List ℕ → Option (Value × List ℕ)
checked range x = if is_number range (out-Value x.0) then Some x else None

abbrev pub signed_at : Reader Value
signed_at bytes = word_at bytes >>= λ n. Some (value.Num (cast_signed w32 n.0), n.1)

abbrev pub unsigned_at : Reader Value
unsigned_at bytes = word_at bytes >>= λ n. Some (value.Num (pos n.0), n.1)

abbrev pub small_at : Reader Value
small_at bytes = byte_at bytes >>= λ n. Some (value.Num (pos n.0), n.1)

-- the relation of these records, where their keys rise
abbrev pub risen : DbType → List Value × List ℕ → Option (Value × List ℕ)
risen t x = if keys_rise t x.0 then Some (value.Rel x.0, x.1) else None

-- the number of an ordinal type that is no subrange, before its range is looked at
abbrev pub unchecked_level : {X Y : Type 0} → DbType-F X Y → Reader Value
unchecked_level kinds.Int bytes = signed_at bytes
unchecked_level kinds.Card bytes = unsigned_at bytes
unchecked_level kinds.Bool bytes = small_at bytes
unchecked_level kinds.Char bytes = small_at bytes
unchecked_level (kinds.Enum names) bytes = unsigned_at bytes
unchecked_level _ bytes = None

abbrev pub number_at : DbType → Reader Value
number_at t bytes = unchecked_level (out-DbType t) bytes >>= checked (range_of t)

abbrev pub read_level : DbType-F (DbType × Reader Value) (Field × Reader Value) → Reader Value
read_level (kinds.Sub host least greatest) bytes =
    host.1 bytes >>= checked (Some (record { least = least; greatest = greatest }))
read_level (kinds.Arr index element) bytes =
    repeat element.1 (count_of index.0) [] bytes >>= λ x. Some (value.Arr x.0, x.1)
read_level (kinds.Rec fields) bytes =
    in_turn (map (λ field. field.1) fields) [] bytes >>= λ x. Some (value.Rec x.0, x.1)
read_level (kinds.Rel keys record_type) bytes =
    word_at bytes >>= λ n. repeat record_type.1 n.0 [] n.1 >>= risen (types.Rel keys record_type.0)
read_level ordinal bytes = unchecked_level ordinal bytes >>= checked (range_level ordinal)

-- the value of this type that stands before the other bytes
abbrev pub reads : DbType → Reader Value
reads t = by_parts (Reader Value) read_level t

-- an item with nothing behind it
abbrev pub whole : {A : Type 0} → Option (A × List ℕ) → Option A
whole None = None
whole (Some x) = if is_none_left x.1 then Some x.0 else None

-- What a function answered, seen by view, is what reading gives, unless memory ran out.
abbrev pub Gives : {X Y : Type 0} → (X → Y) → Result X ReadErr → Option Y → Type 0
Gives view (Ok x) read = read ≡ Some (view x)
Gives view (Err e) read = e ≢ errors.Memory → read ≡ None
