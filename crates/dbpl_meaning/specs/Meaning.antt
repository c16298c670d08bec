-- What a program means over a database, an input and a number of turns. A turn is the beginning of a call or of a turn of a
-- loop. Calls recurse on the number of those that may still be open, loops on the turns that are left, so nothing else
-- bounds a run. Database and module variables are apart: programs with persistent variables will begin over the database to
-- which they are bound.
use Rattle.std.specs.Prelude.{ℕ, zero, suc, ◌-◌, Bool, false, true, List, [], ◌∷◌, ◌++◌, slice_get, Option, Some, None}
use Rattle.dbpl_base.specs.declared.limits.TheConstants.{OPEN_CALLS}
use Rattle.dbpl_base.specs.declared.place.Place.{Place}
use Rattle.dbpl_core.specs.Events.{Event}
use Rattle.dbpl_core.specs.Stores.{first_store}
use Rattle.dbpl_core.specs.declared.cell.Cell.{Cell}
use Rattle.dbpl_core.specs.declared.program.Program.{Program}
use Rattle.dbpl_core.specs.declared.routine.Routine.{Routine}
use Rattle.dbpl_core.specs.declared.trap.Trap.{Trap}
use Rattle.dbpl_core.specs.declared.unit.CoreUnit.{CoreUnit}
use Rattle.dbpl_meaning.specs.Declared.{routine_named, started_globals, started_locals}
use Rattle.dbpl_meaning.specs.Expressions.{Calls}
use Rattle.dbpl_meaning.specs.State as phrase
use Rattle.dbpl_meaning.specs.State.{Doing, Done, Ran, State, Stop, Stops}
use Rattle.dbpl_meaning.specs.Statements.{does}
use Rattle.dbpl_meaning.specs.Words.{◌>>=◌, ◌>>◌, AtEnd, ByReturn, Leaving, block, gives, in_frame, nothing, of_type, stops, there, traps, turn, up_to_return}
use Rattle.dbpl_value.specs.declared.bound.Bound.{Bound}
use Rattle.dbpl_value.specs.declared.db_type.DbType.{DbType}
use Rattle.dbpl_value.specs.declared.value.Value.{Value}

-- so many calls may be open
unfoldable pub limit : ℕ
limit = OPEN_CALLS

-- ---- calls

-- what a routine gives, by its result type and the place of its END
abbrev pub result_of : Option DbType → Place → Leaving → Doing (Option Value)
result_of None finish AtEnd = gives None
result_of None finish (ByReturn None) = gives None
result_of (Some kind) finish AtEnd = traps 6 finish
result_of (Some kind) finish (ByReturn (Some v)) = do
  checked ← of_type kind v
  gives (Some checked)
result_of kind finish _ = stops phrase.Wrong

-- a body gives no value
abbrev pub without_value : Leaving → Doing (Unit {0})
without_value (ByReturn (Some v)) = stops phrase.Wrong
without_value leaving = nothing

module _ (program : Program) (calls : Calls) where
  -- what a routine does, whose calls are these: its parameters have these cells, its local variables their start values
  abbrev pub routine_does : List Cell → Routine → Doing (Option Value)
  routine_does cells routine =
      in_frame (cells ++ started_locals routine) (do
        leaving ← up_to_return (block (does program calls) routine.body)
        result_of routine.head.result routine.finish leaving)

  abbrev pub named_does : List ℕ → List ℕ → List Cell → Doing (Option Value)
  named_does owner name cells = do
    routine ← there (routine_named program owner name)
    routine_does cells routine

  -- what a module's body does
  abbrev pub body_does : CoreUnit → Doing (Unit {0})
  body_does unit =
      in_frame [] (do
        leaving ← up_to_return (block (does program calls) unit.body)
        without_value leaving)

-- the calls where so many more may be open
unfoldable pub calls_at : Program → ℕ → Calls
calls_at program zero = record {
  routine = λ place owner name cells. traps 7 place;
  in_out = λ place doing. traps 7 place;
}
calls_at program (suc room) = record {
  routine = λ place owner name cells. turn (named_does program (calls_at program room) owner name cells);
  in_out = λ place doing. turn doing;
}

-- ---- programs

-- The bodies of the units with these numbers run one after another, each a call, the first that is open.
abbrev pub bodies : Program → List ℕ → Doing (Unit {0})
bodies program [] = nothing
bodies program (number ∷ numbers) = do
  unit ← there (slice_get program.units number)
  turn (body_does program (calls_at program (limit - 1)) unit)
  bodies program numbers

-- The body of this unit, a turn whose statements may open so many calls more, and then the bodies with these numbers.
abbrev pub body_and_then : Program → ℕ → CoreUnit → List ℕ → Doing (Unit {0})
body_and_then program room unit numbers = turn (body_does program (calls_at program room) unit) >> bodies program numbers

abbrev pub begun : Program → List Bound → List ℕ → ℕ → State
begun program database input turns = record {
  left = turns;
  work = 0;
  store = first_store (started_globals program) database input;
}

unfoldable pub runs : Program → List Bound → List ℕ → ℕ → Ran (Unit {0})
runs program database input turns = bodies program program.order (begun program database input turns)

-- whether it stops by EXIT or RETURN, which lead to a place outside
abbrev pub leaves : {A : Type 0} → Ran A → Bool
leaves (Stops phrase.Exiting state) = true
leaves (Stops (phrase.Returning v) state) = true
leaves ran = false

-- How a run stands.
pub data ProgramStanding : Type 0 where
  Going : ProgramStanding
  Ended : ProgramStanding
  Trapped : Trap → ProgramStanding
  -- what no accepted program comes to
  Wrong : ProgramStanding

abbrev pub standing : Stop → ProgramStanding
standing phrase.Going = Going
standing phrase.Ended = Ended
standing (phrase.Trapped trap) = Trapped trap
standing phrase.Exiting = Wrong
standing (phrase.Returning v) = Wrong
standing phrase.Wrong = Wrong

-- What a run comes to: its events, how it stands, the input that is left, and the work.
pub record ProgramOutcome : Type 0 where
  pub events : List Event
  pub stands : ProgramStanding
  pub input : List ℕ
  pub work : ℕ

abbrev pub outcome_at : ProgramStanding → State → ProgramOutcome
outcome_at stands state = record {
  events = state.store.events;
  stands = stands;
  input = state.store.input;
  work = state.work;
}

abbrev pub outcome_of : Ran (Unit {0}) → ProgramOutcome
outcome_of (Done done state) = outcome_at Ended state
outcome_of (Stops why state) = outcome_at (standing why) state

-- THE meaning: what a program comes to over this database and this input, a list of bytes, within so many turns
unfoldable pub meaning : Program → List Bound → List ℕ → ℕ → ProgramOutcome
meaning program database input turns = outcome_of (runs program database input turns)
