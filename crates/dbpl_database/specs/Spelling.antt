-- The one spelling of a database.
use Rattle.std.specs.Prelude.{ℕ, Bool, ◌&&◌, List, ◌++◌}
use Rattle.std.specs.List.{flat_map, list_all}
use Rattle.dbpl_codec.specs.Numbers.{count_bytes, count_fits, name_bytes}
use Rattle.dbpl_codec.specs.TypeSpelling.{type_bytes, type_fits}
use Rattle.dbpl_codec.specs.ValueSpelling.{bytes_of, value_fits}
use Rattle.dbpl_value.specs.declared.bound.Bound.{Bound}

-- its name, its descriptor and its relation, each behind the number of its bytes
abbrev pub bound_bytes : Bound → List ℕ
bound_bytes bound =
    name_bytes bound.name ++ (name_bytes (type_bytes bound.kind) ++ name_bytes (bytes_of bound.kind bound.rel))

-- THE spelling of a database: how many relation variables, and then each of them
abbrev pub database_bytes : List Bound → List ℕ
database_bytes database = count_bytes database ++ flat_map bound_bytes database

abbrev pub bound_fits : Bound → Bool
bound_fits bound =
    count_fits bound.name && type_fits bound.kind && count_fits (type_bytes bound.kind) &&
    value_fits bound.kind bound.rel && count_fits (bytes_of bound.kind bound.rel)

-- each count in the spelling is below 2^32
abbrev pub database_fits : List Bound → Bool
database_fits database = count_fits database && list_all bound_fits database
