-- Which descriptors are types, and how many values an ordinal type has.
use Rattle.std.specs.Prelude.{ℕ, ◌+◌, ◌*◌, max, nat_abs, ℤ, pos, negsuc, ◌-ℤ◌, int_le, fold, Bool, true, false, not, ◌&&◌, nat_eq, nat_le, if◌then◌else◌, List, [], ◌∷◌, ◌++◌, map, length, sum, Option, Some, None, is_some}
use Rattle.std.specs.Cmp.Lexicographic.{pointwise}
use Rattle.std.specs.List.{flat_map, list_all, list_any}
use Rattle.std.specs.Option.{option_map_or}
use Rattle.dbpl_base.specs.Words.{is_letter, is_word_byte}
use Rattle.dbpl_base.specs.declared.limits.TheConstants.{RELATION_DEPTH, SCALARS, TYPE_DEPTH}
use Rattle.dbpl_value.specs.declared.db_type.DbType.{DbType, DbType-F, fold-DbType, out-DbType, para-DbType}
use Rattle.dbpl_value.specs.declared.db_type.DbType.TheOpen as kinds
use Rattle.dbpl_value.specs.declared.field.Field.{Field}
use Rattle.dbpl_value.specs.declared.range.Range.{Range}

-- By recursion on a type: its answer, from the types that stand in it and their answers. A field has that of its type.
abbrev pub by_parts : (A : Type 0) → (DbType-F (DbType × A) (Field × A) → A) → DbType → A
by_parts A answer = para-DbType A A answer (λ field. field.kind.1)

-- The same, where the answers alone are asked.
abbrev pub by_answers : (A : Type 0) → (DbType-F A A → A) → DbType → A
by_answers A answer = fold-DbType A A answer (λ field. field.kind)

-- ---- ordinal types

abbrev pub is_in : Range → ℤ → Bool
is_in range n = int_le range.least n && int_le n range.greatest

-- the least and the greatest value of an ordinal type
abbrev pub range_level : {X Y : Type 0} → DbType-F X Y → Option Range
range_level kinds.Int = Some (record { least = negsuc 2147483647; greatest = pos 2147483647 })
range_level kinds.Card = Some (record { least = pos 0; greatest = pos 4294967295 })
range_level kinds.Bool = Some (record { least = pos 0; greatest = pos 1 })
range_level kinds.Char = Some (record { least = pos 0; greatest = pos 255 })
range_level (kinds.Enum names) = Some (record { least = pos 0; greatest = pos (length names) -ℤ pos 1 })
range_level (kinds.Sub host least greatest) = Some (record { least = least; greatest = greatest })
range_level _ = None

abbrev pub range_of : DbType → Option Range
range_of t = range_level (out-DbType t)

abbrev pub is_ordinal : DbType → Bool
is_ordinal t = is_some (range_of t)

-- how many numbers a range has
abbrev pub range_count : Range → ℕ
range_count range = if int_le range.least range.greatest then nat_abs (range.greatest -ℤ range.least) + 1 else 0

-- how many values an ordinal type has, and 0 for every other
abbrev pub count_of : DbType → ℕ
count_of t = option_map_or range_count (range_of t) 0

-- ---- one level of a type

abbrev pub is_host_level : {X Y : Type 0} → DbType-F X Y → Bool
is_host_level kinds.Int = true
is_host_level kinds.Card = true
is_host_level kinds.Bool = true
is_host_level kinds.Char = true
is_host_level (kinds.Enum names) = true
is_host_level _ = false

-- what a subrange may be one of: an ordinal type that is no subrange
abbrev pub is_host : DbType → Bool
is_host t = is_host_level (out-DbType t)

abbrev pub is_char_level : {X Y : Type 0} → DbType-F X Y → Bool
is_char_level kinds.Char = true
is_char_level _ = false

abbrev pub is_char : DbType → Bool
is_char t = is_char_level (out-DbType t)

abbrev pub is_char_array_level : {Y : Type 0} → DbType-F DbType Y → Bool
is_char_array_level (kinds.Arr index element) = is_char element
is_char_array_level _ = false

-- an array whose elements are CHAR itself
abbrev pub is_char_array : DbType → Bool
is_char_array t = is_char_array_level (out-DbType t)

abbrev pub is_record_level : {X Y : Type 0} → DbType-F X Y → Bool
is_record_level (kinds.Rec fields) = true
is_record_level _ = false

abbrev pub is_record : DbType → Bool
is_record t = is_record_level (out-DbType t)

abbrev pub fields_level : {X : Type 0} → DbType-F X Field → List Field
fields_level (kinds.Rec fields) = fields
fields_level _ = []

-- the fields of a record type
abbrev pub fields_of : DbType → List Field
fields_of t = fields_level (out-DbType t)

abbrev pub keys_level : {X Y : Type 0} → DbType-F X Y → List (List ℕ)
keys_level (kinds.Rel keys record_type) = keys
keys_level _ = []

-- the names of the key fields of a relation type
abbrev pub keys_of : DbType → List (List ℕ)
keys_of t = keys_level (out-DbType t)

-- the type of the parts of an array or a relation, and a type itself where it is neither
abbrev pub element_level : {Y : Type 0} → DbType → DbType-F DbType Y → DbType
element_level t (kinds.Arr index element) = element
element_level t (kinds.Rel keys record_type) = record_type
element_level t _ = t

abbrev pub element_of : DbType → DbType
element_of t = element_level t (out-DbType t)

-- ---- names

abbrev pub is_identifier : List ℕ → Bool
is_identifier [] = false
is_identifier (first ∷ others) = is_letter first && list_all is_word_byte others

abbrev pub is_same_name : List ℕ → List ℕ → Bool
is_same_name name other = pointwise nat_eq name other

-- no name stands there twice
abbrev pub are_different : List (List ℕ) → Bool
are_different [] = true
are_different (name ∷ names) = not (list_any (is_same_name name) names) && are_different names

-- all are identifiers, and none stands there twice
abbrev pub are_names : List (List ℕ) → Bool
are_names names = list_all is_identifier names && are_different names

abbrev pub is_none_left : {A : Type 0} → List A → Bool
is_none_left [] = true
is_none_left (x ∷ xs) = false

-- ---- fields by their names

-- the type of the field of this name, and `t` where there is none
abbrev pub type_named : DbType → List Field → List ℕ → DbType
type_named t [] name = t
type_named t (field ∷ fields) name = if is_same_name field.name name then field.kind else type_named t fields name

-- the type of the key field of this name in a relation of type `t`
abbrev pub key_type : DbType → List ℕ → DbType
key_type t name = type_named t (fields_of (element_of t)) name

-- ---- limits

-- How many scalars a value has. An array has those of its elements; a relation, and a record without fields, count one.
abbrev pub scalars_level : DbType-F (DbType × ℕ) (Field × ℕ) → ℕ
scalars_level (kinds.Arr index element) = count_of index.0 * element.1
scalars_level (kinds.Rec []) = 1
scalars_level (kinds.Rec (field ∷ fields)) = field.1 + sum (map (λ other. other.1) fields)
scalars_level _ = 1

abbrev pub scalars_of : DbType → ℕ
scalars_of t = by_parts ℕ scalars_level t

abbrev pub greatest_of : List ℕ → ℕ
greatest_of numbers = fold max 0 numbers

-- how deep types stand inside one another, the outermost, hosts and index types counted
abbrev pub depth_level : DbType-F ℕ ℕ → ℕ
depth_level (kinds.Sub host least greatest) = host + 1
depth_level (kinds.Arr index element) = max index element + 1
depth_level (kinds.Rec fields) = greatest_of fields + 1
depth_level (kinds.Rel keys record_type) = record_type + 1
depth_level _ = 1

abbrev pub depth_of : DbType → ℕ
depth_of t = by_answers ℕ depth_level t

-- how deep relation types stand inside one another
abbrev pub relations_level : DbType-F ℕ ℕ → ℕ
relations_level (kinds.Sub host least greatest) = host
relations_level (kinds.Arr index element) = max index element
relations_level (kinds.Rec fields) = greatest_of fields
relations_level (kinds.Rel keys record_type) = record_type + 1
relations_level _ = 0

abbrev pub relations_of : DbType → ℕ
relations_of t = by_answers ℕ relations_level t

-- ---- the rules

-- a host with both bounds in it, the first not greater
abbrev pub is_subrange : DbType → Range → Bool
is_subrange host range =
    is_host host && option_map_or (λ all. is_in all range.least && is_in all range.greatest) (range_of host) false &&
    int_le range.least range.greatest

-- a key is a field of ordinal type, or an array of CHAR
abbrev pub is_key_field : List ℕ → Field → Bool
is_key_field key field =
    is_same_name key field.name && (if is_ordinal field.kind then true else is_char_array field.kind)

-- a record type, and one key or more, different fields of it
abbrev pub is_relation : List (List ℕ) → DbType → Bool
is_relation keys record_type =
    is_record record_type && not (is_none_left keys) && are_different keys &&
    list_all (λ key. list_any (is_key_field key) (fields_of record_type)) keys

-- what a descriptor keeps, apart from what stands in it
abbrev pub is_sound_level : DbType-F DbType Field → Bool
is_sound_level (kinds.Enum names) = not (is_none_left names) && are_names names
is_sound_level (kinds.Sub host least greatest) = is_subrange host (record { least = least; greatest = greatest })
is_sound_level (kinds.Arr index element) = is_ordinal index
is_sound_level (kinds.Rec fields) = are_names (map (λ field. field.name) fields)
is_sound_level (kinds.Rel keys record_type) = is_relation keys record_type
is_sound_level _ = true

abbrev pub keeps_rules : DbType → Bool
keeps_rules t = is_sound_level (out-DbType t) && nat_le (scalars_of t) SCALARS

-- the types that stand inside a type, at every depth
abbrev pub inside_level : DbType-F (DbType × List DbType) (Field × List DbType) → List DbType
inside_level (kinds.Sub host least greatest) = host.0 ∷ host.1
inside_level (kinds.Arr index element) = (index.0 ∷ index.1) ++ (element.0 ∷ element.1)
inside_level (kinds.Rec fields) = flat_map (λ field. field.0.kind ∷ field.1) fields
inside_level (kinds.Rel keys record_type) = record_type.0 ∷ record_type.1
inside_level _ = []

abbrev pub inside : DbType → List DbType
inside t = by_parts (List DbType) inside_level t

-- it and every type inside it keeps the rules
abbrev pub is_sound : DbType → Bool
is_sound t = list_all keeps_rules (t ∷ inside t)

-- THE test of a descriptor: sound, and neither types nor relation types deeper inside one another than they may stand
abbrev pub is_type : DbType → Bool
is_type t = is_sound t && nat_le (depth_of t) TYPE_DEPTH && nat_le (relations_of t) RELATION_DEPTH
