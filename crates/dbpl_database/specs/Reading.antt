-- The database that bytes spell, read from left to right.
use Rattle.std.specs.Prelude.{ℕ, if◌then◌else◌, List, [], Option, Some, None}
use Rattle.dbpl_base.specs.declared.limits.TheConstants.{TYPE_DEPTH}
use Rattle.dbpl_codec.specs.Reading.{Reader, ◌>>=◌, reads, repeat, whole, word_at}
use Rattle.dbpl_codec.specs.TypeReading.{name_at, type_at}
use Rattle.dbpl_value.specs.Databases.{is_bound, names_rise}
use Rattle.dbpl_value.specs.Types.{is_type}
use Rattle.dbpl_value.specs.declared.bound.Bound.{Bound}
use Rattle.dbpl_value.specs.declared.db_type.DbType.{DbType}
use Rattle.dbpl_value.specs.declared.value.Value.{Value}

-- the type whose descriptor these bytes are
unfoldable pub type_in : List ℕ → Option DbType
type_in bytes = whole (type_at TYPE_DEPTH bytes) >>= λ t. if is_type t then Some t else None

-- the value of this type that these bytes are
unfoldable pub value_in : DbType → List ℕ → Option Value
value_in t bytes = whole (reads t bytes)

-- the relation variable of these three strings
unfoldable pub bound_from : List ℕ → List ℕ → List ℕ → Option Bound
bound_from name kind rel =
    type_in kind >>= λ t. value_in t rel >>= λ v.
    if is_bound (record { name = name; kind = t; rel = v }) then Some (record { name = name; kind = t; rel = v }) else None

unfoldable pub bound_at : Reader Bound
bound_at bytes =
    name_at bytes >>= λ name. name_at name.1 >>= λ kind. name_at kind.1 >>= λ rel.
    bound_from name.0 kind.0 rel.0 >>= λ bound. Some (bound, rel.1)

unfoldable pub bounds_at : Reader (List Bound)
bounds_at bytes = word_at bytes >>= λ n. repeat bound_at n.0 [] n.1

-- THE database that these bytes spell, if there is one
unfoldable pub database_of : List ℕ → Option (List Bound)
database_of bytes =
    whole (bounds_at bytes) >>= λ database. if names_rise database then Some database else None
