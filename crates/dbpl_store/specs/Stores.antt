-- An open store, as its callers see it.
use Rattle.std.specs.Prelude.{◌≡◌, ℕ, Bool, List, [], slice_get, Option, Some}
use Rattle.std.specs.Option.{option_and_then, option_map_or, unwrap_or}
use Rattle.dbpl_value.specs.Binding.{with_relation}
use Rattle.dbpl_database.specs.Reading.{database_of}
use Rattle.dbpl_log.specs.Rest.{IsAtRest, length_of}
use Rattle.dbpl_store.specs.Stands.{newest}
use Rattle.dbpl_store.specs.declared.store.Store.{Store}
use Rattle.dbpl_value.specs.declared.bound.Bound.{Bound}
use Rattle.dbpl_value.specs.declared.field.Field.{Field}
use Rattle.dbpl_value.specs.declared.value.Value.{Value}
use Rattle.dbpl_world.specs.History.{State}

-- the database of the last commit
abbrev pub committed_of : Store → List Bound
committed_of store = unwrap_or (database_of store.stored.items) []

-- the database, with what the running transaction changed
abbrev pub database_in : Store → List Bound
database_in store = store.database

-- where the gate behind the newest record stands
abbrev pub gate_in : Store → ℕ
gate_in store = store.log.gate

-- how many bytes of the log count: up to that gate, and with it
abbrev pub length_in : Store → ℕ
length_in store = length_of store.log

-- whether a transaction runs
abbrev pub is_running : Store → Bool
is_running store = store.running

-- the relation variable that is bound, if one is
abbrev pub bound_in : Store → Option Bound
bound_in store = option_and_then (slice_get store.database) store.bound

-- the program's relation variable is the bound one
abbrev pub IsBoundTo : Field → Store → Type 0
IsBoundTo field store =
    (bound : Bound) × (bound_in store ≡ Some bound) × (bound.name ≡ field.name) × (bound.kind ≡ field.kind)

-- the database with this relation in the bound variable
abbrev pub with_bound_relation : Value → Store → List Bound
with_bound_relation relation store =
    option_map_or (λ at. with_relation relation at store.database) store.bound store.database

-- The store is open on a disk in this state: a stop leaves there one log, whose newest record is the last commit.
abbrev pub IsOpen : State → Store → Type 0
IsOpen s store =
    (records : List (List ℕ)) × IsAtRest s.disk store.log records × (newest [] records ≡ Some (committed_of store))
