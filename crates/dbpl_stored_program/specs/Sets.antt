-- What a set expression with these records is.
use Rattle.std.specs.Prelude.{ℤ, Bool, true, not, ◌&&◌, if◌then◌else◌, List, [], ◌∷◌, map, Option, Some, None}
use Rattle.std.specs.List.{list_any}
use Rattle.dbpl_value.specs.Equality.{is_same}
use Rattle.dbpl_relation.specs.Relations.{have_one_key, merged}
use Rattle.dbpl_value.specs.declared.db_type.DbType.{DbType}
use Rattle.dbpl_value.specs.declared.value.Value.{Value}
use Rattle.dbpl_value.specs.declared.value.Value.TheVariants as value

-- the record with these numbers in its fields
abbrev pub record_of : List ℤ → Value
record_of numbers = value.Rec (map value.Num numbers)

-- two different records with one key
abbrev pub clash : DbType → Value → Value → Bool
clash t element other = have_one_key t other element && not (is_same element other)

-- no two different ones of these records have one key
abbrev pub agree : DbType → List Value → Bool
agree t [] = true
agree t (element ∷ others) = not (list_any (clash t element) others) && agree t others

-- THE set of these records: each once, in the order of keys. There is none where two different ones have one key.
abbrev pub set_of : DbType → List Value → Option Value
set_of t elements = if agree t elements then Some (value.Rel (merged t [] elements)) else None
