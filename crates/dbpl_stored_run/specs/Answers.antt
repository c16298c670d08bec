-- Why each answer of a run comes.
use Rattle.std.specs.Prelude.{◌≡◌, ◌⊎◌, Bool, Err, IsOk, IsTrue, List, Result, Some}
use Rattle.dbpl_stored_program.specs.Meaning.{Ended, Going, Standing, Trapped}
use Rattle.dbpl_stored_program.specs.Whole.{events_of, whole_run}
use Rattle.dbpl_stored_program.specs.declared.stored_program.StoredProgram.{StoredProgram}
use Rattle.dbpl_value.specs.Binding.{Binds, Differs}
use Rattle.dbpl_store.specs.Stands.{stands}
use Rattle.dbpl_stored_run.specs.Headline.{HasMade}
use Rattle.dbpl_stored_run.specs.declared.stop_err.StopErr.{StopErr}
use Rattle.dbpl_stored_run.specs.declared.stop_err.StopErr.TheVariants as errors
use Rattle.dbpl_value.specs.declared.bound.Bound.{Bound}
use Rattle.dbpl_value.specs.declared.field.Field.{Field}
use Rattle.dbpl_world.specs.History.{History, State, now}

-- what a read gives of the mounted store stands for this database
abbrev pub ReadsAs : List Bound → State → Type 0
ReadsAs database s = stands s.disk.log.now s.disk.pages.now ≡ Some database

-- The program was bound to the database of the store, its meaning over that stands so at its end, and it made all its
-- events. What is said of the store is so where the world tells.
pub record HasRun (program : StoredProgram) (standing : Standing) (tells : Bool) (old new : History) : Type 0 where
  pub database : List Bound
  pub bound : List Bound
  pub stood : IsTrue tells → ReadsAs database (now old)
  pub binds : Binds program.relation database bound
  pub ends : (whole_run program bound (now old).input).stands ≡ standing
  pub made : IsTrue tells → HasMade (events_of program bound (now old).input) database (now old) (now new)

-- The database of the store has the relation variable with another type. Where the world tells, the store stood for it.
pub record HasOther (field : Field) (tells : Bool) (old : History) : Type 0 where
  pub database : List Bound
  pub stood : IsTrue tells → ReadsAs database (now old)
  pub differs : Differs field database

-- the answers of a run that did nothing
abbrev pub IsRefusal : StopErr → Type 0
IsRefusal errors.NotStore = Unit {0}
IsRefusal (errors.Damaged page) = Unit {0}
IsRefusal errors.SchemaDiffers = Unit {0}
IsRefusal _ = ⊥

-- The answer is the one that is due where the meaning stands so at its end, or memory was wanting.
abbrev pub IsDue : Standing → Result (Unit {0}) StopErr → Type 0
IsDue Ended answer = IsOk answer ⊎ (answer ≡ Err errors.Memory)
IsDue (Trapped trap) answer = (answer ≡ Err (errors.Trapped trap)) ⊎ (answer ≡ Err errors.Memory)
IsDue Going answer = ⊥
