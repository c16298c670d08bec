-- The part of a value to which a path leads.
use Rattle.std.specs.Prelude.{◌≡◌, ⊤, ℕ, ◌+◌, Bool, IfSome, List, [], ◌∷◌, length, Result, Ok, Err, slice_get, slice_set}
use Rattle.std.specs.List.{position_or_len}
use Rattle.std.specs.Option.{option_map_or}
use Rattle.dbpl_value.specs.Keys.{has_key, key_from, key_of, parts_level, parts_of}
use Rattle.dbpl_value.specs.Types.{element_of}
use Rattle.dbpl_value.specs.declared.db_type.DbType.{DbType, DbType-F, out-DbType}
use Rattle.dbpl_value.specs.declared.db_type.DbType.TheOpen as kinds
use Rattle.dbpl_value.specs.declared.field.Field.{Field}
use Rattle.dbpl_value.specs.declared.path_err.PathErr.{PathErr}
use Rattle.dbpl_value.specs.declared.path_err.PathErr.TheVariants as path_err
use Rattle.dbpl_value.specs.declared.step.Step.{Step}
use Rattle.dbpl_value.specs.declared.step.Step.TheVariants as step
use Rattle.dbpl_value.specs.declared.value.Value.{Value, Value-F, out-Value}
use Rattle.dbpl_value.specs.declared.value.Value.TheOpen as values
use Rattle.dbpl_value.specs.declared.value.Value.TheVariants as value

-- the position of the record with the key, or the number of parts where there is none
abbrev pub place_of_key : (Value → Bool) → Value-F Value → ℕ
place_of_key test (values.Rel records) = position_or_len test records
place_of_key test other = length (parts_level other)

-- the position of the part to which a step leads
abbrev pub place_of : DbType → Value → Step → ℕ
place_of t v (step.Field number) = number
place_of t v (step.Index number) = number
place_of t v (step.Key components) = place_of_key (has_key t (key_from components)) (out-Value v)

abbrev pub part_type_level : DbType → ℕ → DbType-F DbType Field → DbType
part_type_level t place (kinds.Arr index element) = element
part_type_level t place (kinds.Rec fields) = option_map_or (λ field. field.kind) (slice_get fields place) t
part_type_level t place (kinds.Rel keys record_type) = record_type
part_type_level t place _ = t

-- the type of the part at a position, and a type itself where it has none there
abbrev pub part_type : DbType → ℕ → DbType
part_type t place = part_type_level t place (out-DbType t)

-- the type of the part to which a step leads
abbrev pub type_at_step : DbType → Step → DbType
type_at_step t (step.Field number) = part_type t number
type_at_step t (step.Index number) = part_type t number
type_at_step t (step.Key components) = element_of t

-- the type of the part to which a path leads
abbrev pub type_at_path : DbType → List Step → DbType
type_at_path t [] = t
type_at_path t (next ∷ path) = type_at_path (type_at_step t next) path

-- what is answered where the step with this number leads to no part
abbrev pub refusal_of : ℕ → Step → PathErr
refusal_of number (step.Field at) = path_err.Index number
refusal_of number (step.Index at) = path_err.Index number
refusal_of number (step.Key components) = path_err.NoElement number

-- THE part at a path whose first step has this number, or the refusal of the first step that leads to none
abbrev pub part_at : ℕ → DbType → Value → List Step → Result Value PathErr
part_at number t v [] = Ok v
part_at number t v (next ∷ path) =
    option_map_or (λ part. part_at (number + 1) (type_at_step t next) part path) (slice_get (parts_of v) (place_of t v next))
    (Err (refusal_of number next))

-- the value with other parts
abbrev pub with_parts : Value-F Value → List Value → Value
with_parts (values.Num n) parts = value.Num n
with_parts (values.Arr old) parts = value.Arr parts
with_parts (values.Rec old) parts = value.Rec parts
with_parts (values.Rel old) parts = value.Rel parts

-- the value with another part at this position
abbrev pub with_part : Value → ℕ → Value → Value
with_part v place part = with_parts (out-Value v) (slice_set (parts_of v) place part)

-- THE value with `new` in place of the part at a path, and the value itself where the path leads to none
abbrev pub with_part_at : DbType → Value → List Step → Value → Value
with_part_at t v [] new = new
with_part_at t v (next ∷ path) new =
    option_map_or (λ part. with_part v (place_of t v next) (with_part_at (type_at_step t next) part path new))
    (slice_get (parts_of v) (place_of t v next)) v

-- putting `new` at a path leaves the key of each record on the path as it is
abbrev pub KeepsKeys : DbType → Value → List Step → Value → Type 0
KeepsKeys t v [] new = ⊤
KeepsKeys t v (next ∷ path) new =
    IfSome (slice_get (parts_of v) (place_of t v next))
    (λ part. (key_of t (with_part_at (type_at_step t next) part path new) ≡ key_of t part)
    × KeepsKeys (type_at_step t next) part path new)
