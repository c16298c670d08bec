-- How many nodes a type has: one for each type in it, and one for each name.
use Rattle.std.specs.Prelude.{ℕ, ◌+◌, length, sum_by}
use Rattle.dbpl_value.specs.Types.{by_answers}
use Rattle.dbpl_value.specs.declared.db_type.DbType.{DbType, DbType-F}
use Rattle.dbpl_value.specs.declared.db_type.DbType.TheOpen as kinds

abbrev pub nodes_level : DbType-F ℕ ℕ → ℕ
nodes_level (kinds.Enum names) = length names + 1
nodes_level (kinds.Sub host least greatest) = host + 1
nodes_level (kinds.Arr index element) = index + element + 1
nodes_level (kinds.Rec fields) = sum_by (λ nodes. nodes + 1) fields + 1
nodes_level (kinds.Rel keys record_type) = length keys + record_type + 1
nodes_level _ = 1

-- THE nodes of a type
abbrev pub nodes_of : DbType → ℕ
nodes_of t = by_answers ℕ nodes_level t
