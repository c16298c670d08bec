-- The rules of designators and aggregates, each by its number.
use Rattle.std.specs.Prelude.{ℕ, Bool, true, false, not, ◌==◌, ◌&&◌, ◌||◌, List, [], ◌∷◌, length, map, replicate, Option}
use Rattle.std.specs.List.{position_from}
use Rattle.dbpl_judging.specs.declared.facts.Facts.{Facts}
use Rattle.dbpl_rules_calls.specs.declared.denoted.Denoted.{Denoted}
use Rattle.dbpl_rules_operators.specs.Fitting.{fits, index_of, lies_in, takes_kind}
use Rattle.dbpl_value.specs.Equality.{each_passes}
use Rattle.dbpl_value.specs.Types.{count_of, fields_of, is_record, is_same_name}
use Rattle.dbpl_value.specs.declared.db_type.DbType.{DbType, DbType-F, out-DbType}
use Rattle.dbpl_value.specs.declared.db_type.DbType.TheOpen as kinds

abbrev pub is_array_level : {X Y : Type 0} → DbType-F X Y → Bool
is_array_level (kinds.Arr index element) = true
is_array_level _ = false

abbrev pub is_array_type : DbType → Bool
is_array_type t = is_array_level (out-DbType t)

-- S32: What stands before `.f` is a record that has f, or a module: the position of f in the record, or nothing. (What is behind
-- a module's name is a part of the name.)
abbrev pub S32 : DbType → List ℕ → Option ℕ
S32 t name = position_from (λ field. is_same_name field.name name) 0 (fields_of t)

-- S33: Brackets stand after an array (or a relation, where they aren't built yet).
abbrev pub S33 : DbType → Bool
S33 = is_array_type

-- S34: An array has one index, of its index type's host, and a constant one lies in bounds.
abbrev pub S34 : DbType → List Facts → Bool
S34 t (index ∷ []) = takes_kind (index_of t) index.kind && lies_in (index_of t) index.number
S34 t _ = false

-- S41: The name before { is that of a record or array type (or of a relation type or a constructor, where it isn't built yet).
abbrev pub S41 : DbType → Bool
S41 t = is_record t || is_array_type t

abbrev pub part_types_level : {X : Type 0} → DbType-F DbType X → List DbType → List DbType
part_types_level (kinds.Arr index element) fields = replicate (count_of index) element
part_types_level _ fields = fields

-- the types of the parts of a record or an array
abbrev pub part_types : DbType → List DbType
part_types t = part_types_level (out-DbType t) (map (λ field. field.kind) (fields_of t))

abbrev pub part_count_level : {X : Type 0} → DbType-F DbType X → ℕ → ℕ
part_count_level (kinds.Arr index element) fields = count_of index
part_count_level _ fields = fields

-- how many parts a record or an array has
abbrev pub part_count : DbType → ℕ
part_count t = part_count_level (out-DbType t) (length (fields_of t))

-- S42, of the number of elements alone, which is asked whatever they break. What is no record and no array has none to count.
abbrev pub S42_number : DbType → ℕ → Bool
S42_number t count = not (S41 t) || (part_count t == count)

-- S42: An aggregate has one plain element for each part, assignable to it.
abbrev pub S42 : DbType → List Facts → Bool
S42 t parts = each_passes (map fits (part_types t)) parts

-- S53: What is assigned, or counted by INC and DEC, is a variable that may be changed: neither Done nor the variable of a range.
abbrev pub S53 : Denoted → Bool
S53 denoted = denoted.may_change
