-- What a database is: relation variables with their types and the relations that they hold.
use Rattle.std.specs.Prelude.{ℕ, ◌+◌, sum_by, Bool, true, not, ◌&&◌, nat_eq, nat_le, List, [], ◌∷◌, length, drop}
use Rattle.std.specs.Cmp.Lexicographic.{slice_cmp}
use Rattle.std.specs.List.{list_all, take_while}
use Rattle.std.specs.Ordering.{is_lt, nat_cmp}
use Rattle.std.specs.declared.cmp.Ordering.{Ordering}
use Rattle.dbpl_base.specs.declared.limits.TheConstants.{KEY_BYTES, RECORD_BYTES, RELATION_NAME_BYTES}
use Rattle.dbpl_value.specs.Keys.{parts_of}
use Rattle.dbpl_value.specs.Sizes.{size_of}
use Rattle.dbpl_value.specs.Types.{count_of, element_of, is_identifier, is_none_left, is_type, key_type, keys_of}
use Rattle.dbpl_value.specs.Values.{is_of}
use Rattle.dbpl_value.specs.declared.bound.Bound.{Bound}
use Rattle.dbpl_value.specs.declared.db_type.DbType.{DbType, DbType-F, out-DbType}
use Rattle.dbpl_value.specs.declared.db_type.DbType.TheOpen as kinds
use Rattle.dbpl_value.specs.declared.value.Value.{Value}

-- ---- relation variables

abbrev pub is_no_stop : ℕ → Bool
is_no_stop byte = not (nat_eq byte 46)

-- the name of a relation variable: its module's and its own, joined by a full stop
abbrev pub is_joined_name : List ℕ → Bool
is_joined_name name =
    is_identifier (take_while is_no_stop name) &&
    is_identifier (drop (length (take_while is_no_stop name) + 1) name)

abbrev pub host_width_level : {X Y : Type 0} → DbType-F X Y → ℕ
host_width_level kinds.Int = 4
host_width_level kinds.Card = 4
host_width_level kinds.Bool = 1
host_width_level kinds.Char = 1
host_width_level (kinds.Enum names) = 4
host_width_level _ = 0

abbrev pub host_width : DbType → ℕ
host_width t = host_width_level (out-DbType t)

abbrev pub key_width_level : {Y : Type 0} → DbType-F DbType Y → ℕ
key_width_level (kinds.Sub host least greatest) = host_width host
key_width_level (kinds.Arr index element) = count_of index
key_width_level other = host_width_level other

-- How many key bytes a component of this type has. A subrange is as its host, and an array of characters has one for each
-- of them.
abbrev pub key_width : DbType → ℕ
key_width t = key_width_level (out-DbType t)

-- how many key bytes each record of a relation of this type has
abbrev pub key_size : DbType → ℕ
key_size t = sum_by (λ name. key_width (key_type t name)) (keys_of t)

abbrev pub is_kept_name : List ℕ → Bool
is_kept_name name = is_joined_name name && nat_le (length name) RELATION_NAME_BYTES

-- a relation type whose keys take no more bytes than they may
abbrev pub is_kept_type : DbType → Bool
is_kept_type t = not (is_none_left (keys_of t)) && nat_le (key_size t) KEY_BYTES

-- A relation variable can be kept: neither its name nor its keys take more bytes than they may.
abbrev pub is_kept : List ℕ → DbType → Bool
is_kept name t = is_kept_name name && is_type t && is_kept_type t

-- ---- databases

-- a record takes no more bytes than it may
abbrev pub is_small : DbType → Value → Bool
is_small t v = nat_le (size_of t v) RECORD_BYTES

-- each record is so small
abbrev pub are_small : DbType → Value → Bool
are_small t relation = list_all (is_small (element_of t)) (parts_of relation)

abbrev pub is_bound : Bound → Bool
is_bound bound =
    is_kept bound.name bound.kind && is_of bound.kind bound.rel && are_small bound.kind bound.rel

-- names are ordered by their bytes
abbrev pub name_cmp : List ℕ → List ℕ → Ordering
name_cmp name other = slice_cmp nat_cmp name other

-- each has a lesser name than all behind it
abbrev pub names_rise : List Bound → Bool
names_rise [] = true
names_rise (bound ∷ others) = list_all (λ later. is_lt (name_cmp bound.name later.name)) others && names_rise others

-- THE databases: relation variables that can be kept, with relations of their types, their names rising
abbrev pub is_database : List Bound → Bool
is_database database = list_all is_bound database && names_rise database
