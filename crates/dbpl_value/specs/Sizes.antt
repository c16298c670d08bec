-- How many bytes a value takes where it is stored.
use Rattle.std.specs.Prelude.{ℕ, ◌+◌, sum_by}
use Rattle.std.specs.List.{zip}
use Rattle.dbpl_value.specs.Keys.{parts_of}
use Rattle.dbpl_value.specs.Types.{by_answers}
use Rattle.dbpl_value.specs.declared.db_type.DbType.{DbType, DbType-F}
use Rattle.dbpl_value.specs.declared.db_type.DbType.TheOpen as kinds
use Rattle.dbpl_value.specs.declared.value.Value.{Value}

-- A number has the width of its host. Arrays and records are the sum of their parts, and a relation is four bytes for
-- the count and then its records.
abbrev pub size_level : DbType-F (Value → ℕ) (Value → ℕ) → Value → ℕ
size_level kinds.Int v = 4
size_level kinds.Card v = 4
size_level kinds.Bool v = 1
size_level kinds.Char v = 1
size_level (kinds.Enum names) v = 4
size_level (kinds.Sub host least greatest) v = host v
size_level (kinds.Arr index element) v = sum_by element (parts_of v)
size_level (kinds.Rec fields) v = sum_by (λ pair. pair.0 pair.1) (zip fields (parts_of v))
size_level (kinds.Rel keys record_type) v = 4 + sum_by record_type (parts_of v)

-- THE coded size of a value of this type
abbrev pub size_of : DbType → Value → ℕ
size_of t = by_answers (Value → ℕ) size_level t
