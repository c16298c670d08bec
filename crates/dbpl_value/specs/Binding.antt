-- What a database is once a program's relation variables are bound to it.
use Rattle.std.specs.Prelude.{◌≡◌, ℕ, if◌then◌else◌, List, [], ◌∷◌, slice_get, slice_set, Option, Some, None}
use Rattle.std.specs.List.{find}
use Rattle.std.specs.Option.{option_and_then, option_map_or}
use Rattle.std.specs.Ordering.{is_lt}
use Rattle.dbpl_value.specs.Databases.{name_cmp}
use Rattle.dbpl_value.specs.Equality.{is_same_type}
use Rattle.dbpl_value.specs.Types.{is_same_name}
use Rattle.dbpl_value.specs.declared.bound.Bound.{Bound}
use Rattle.dbpl_value.specs.declared.field.Field.{Field}
use Rattle.dbpl_value.specs.declared.value.Value.{Value}
use Rattle.dbpl_value.specs.declared.value.Value.TheVariants as value

-- the relation variable of this name, if there is one
abbrev pub bound_named : List ℕ → List Bound → Option Bound
bound_named name database = find (λ bound. is_same_name bound.name name) database

-- with one more, before the first of a greater name
abbrev pub with_bound : Bound → List Bound → List Bound
with_bound new [] = new ∷ []
with_bound new (bound ∷ others) =
    if is_lt (name_cmp new.name bound.name) then new ∷ bound ∷ others else bound ∷ with_bound new others

-- a relation variable that holds no record yet
abbrev pub empty_bound : Field → Bound
empty_bound field = record { name = field.name; kind = field.kind; rel = value.Rel [] }

-- the same, where the database has this of the variable's name
abbrev pub bound_beside : Field → List Bound → Option Bound → Option (List Bound)
bound_beside field database None = Some (with_bound (empty_bound field) database)
bound_beside field database (Some bound) = if is_same_type bound.kind field.kind then Some database else None

-- THE database with a program's relation variable: it is as it was where that is there, and has it empty where its name
-- isn't there. Where the name is there with another type there is none.
abbrev pub bound_to : Field → List Bound → Option (List Bound)
bound_to field database = bound_beside field database (bound_named field.name database)

-- the same with several, one after the other
abbrev pub all_bound_to : List Field → List Bound → Option (List Bound)
all_bound_to [] database = Some database
all_bound_to (field ∷ fields) database = option_and_then (all_bound_to fields) (bound_to field database)

-- it is this database with the variable
abbrev pub Binds : Field → List Bound → List Bound → Type 0
Binds field database after = bound_to field database ≡ Some after

-- the name is there with another type
abbrev pub Differs : Field → List Bound → Type 0
Differs field database = bound_to field database ≡ None

-- it is this database with all of the variables
abbrev pub BindsAll : List Field → List Bound → List Bound → Type 0
BindsAll fields database after = all_bound_to fields database ≡ Some after

-- ---- the relation that a variable holds

-- the variable holds this relation
abbrev pub holding : Value → Bound → Bound
holding relation bound = record bound { rel = relation }

-- the database with this relation in the variable at that place
abbrev pub with_relation : Value → ℕ → List Bound → List Bound
with_relation relation at database =
    option_map_or (λ bound. slice_set database at (holding relation bound)) (slice_get database at) database
