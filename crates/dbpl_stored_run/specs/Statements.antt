-- What one statement of the body does.
use Rattle.std.specs.Prelude.{List}
use Rattle.dbpl_core.specs.Events.{Event}
use Rattle.dbpl_stored_program.specs.Meaning.{Standing}
use Rattle.dbpl_stored_program.specs.Whole.{comes_to}
use Rattle.dbpl_stored_program.specs.declared.action.Action.{Action}
use Rattle.dbpl_stored_program.specs.declared.stored_program.StoredProgram.{StoredProgram}
use Rattle.dbpl_store.specs.Stores.{database_in}
use Rattle.dbpl_store.specs.declared.store.Store.{Store}
use Rattle.dbpl_value.specs.declared.bound.Bound.{Bound}

-- the events of these statements over this database
abbrev pub events_by : StoredProgram → List Action → List Bound → List Event
events_by program actions database = (comes_to program actions database).events

-- how they end
abbrev pub standing_by : StoredProgram → List Action → List Bound → Standing
standing_by program actions database = (comes_to program actions database).stands

-- the same over the database of this store
abbrev pub events_from : StoredProgram → List Action → Store → List Event
events_from program actions store = events_by program actions (database_in store)

abbrev pub standing_from : StoredProgram → List Action → Store → Standing
standing_from program actions store = standing_by program actions (database_in store)
