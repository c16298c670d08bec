-- Relations as lists of records in the order of their keys: looking up, and putting records in.
use Rattle.std.specs.Prelude.{◌≡◌, ℕ, ◌<◌, ◌≤◌, ℤ, Bool, true, false, ◌&&◌, if◌then◌else◌, List, [], ◌∷◌, length, Option, Result, MatchResult}
use Rattle.std.specs.List.{AllWithin, HoldsAt, find, fold, list_all, list_any}
use Rattle.std.specs.Ordering.{is_lt}
use Rattle.std.specs.declared.cmp.Ordering.TheVariants.{Equal, Greater, Less}
use Rattle.dbpl_value.specs.Keys.{has_key, key_cmp, key_of, keys_rise}
use Rattle.dbpl_value.specs.Types.{element_of}
use Rattle.dbpl_value.specs.Values.{is_of}
use Rattle.dbpl_value.specs.declared.db_type.DbType.{DbType, DbType-F, out-DbType}
use Rattle.dbpl_value.specs.declared.db_type.DbType.TheOpen as kinds
use Rattle.dbpl_value.specs.declared.value.Value.{Value}
use Rattle.dbpl_value.specs.Equality.{is_same}

abbrev pub is_relation_level : {X Y : Type 0} → DbType-F X Y → Bool
is_relation_level (kinds.Rel keys record_type) = true
is_relation_level _ = false

-- the type is that of a relation
abbrev pub is_relation_type : DbType → Bool
is_relation_type t = is_relation_level (out-DbType t)

-- these are the records of a relation of the type: each of its record type, with keys that rise strictly
abbrev pub are_records : DbType → List Value → Bool
are_records t records = list_all (is_of (element_of t)) records && keys_rise t records

-- THE record with a key, if there is one
abbrev pub record_with : DbType → List (List ℤ) → List Value → Option Value
record_with t key records = find (has_key t key) records

-- the second record has the key of the first
abbrev pub have_one_key : DbType → Value → Value → Bool
have_one_key t element other = has_key t (key_of t element) other

-- the first record stands before the second
abbrev pub stands_before : DbType → Value → Value → Bool
stands_before t element other = is_lt (key_cmp (key_of t element) (key_of t other))

-- the record is equal to one of these
abbrev pub is_among : List Value → Value → Bool
is_among records element = list_any (λ other. is_same other element) records

-- the records, with one more at the place of its key; it takes the place of a record that had this key
abbrev pub put : DbType → List Value → Value → List Value
put t [] element = element ∷ []
put t (first ∷ rest) element =
    if stands_before t first element then first ∷ put t rest element
    else if have_one_key t element first then element ∷ rest else element ∷ first ∷ rest

-- the records of both lists in the order of keys, where one of the second takes the place of one with its key
abbrev pub merged : DbType → List Value → List Value → List Value
merged t records others = fold (put t) records others

-- where a search by a key ends: at the record with the key, or where a record with it belongs
abbrev pub IsPlace : DbType → List (List ℤ) → List Value → Result ℕ ℕ → Type 0
IsPlace t key records result =
    MatchResult result
    (λ place. (place < length records) × HoldsAt (λ element. key_cmp (key_of t element) key ≡ Equal) records place)
    (λ place.
    (place ≤ length records) × AllWithin (λ element. key_cmp (key_of t element) key ≡ Less) records 0 place
    × AllWithin (λ element. key_cmp (key_of t element) key ≡ Greater) records place (length records))
