-- All that a program does, whatever the number of turns.
use Rattle.std.specs.Prelude.{ℕ, suc, List, [], ◌∷◌, ◌++◌, map, length, Result, Ok, Err}
use Rattle.dbpl_core.specs.Events.{Commit, Event, Out}
use Rattle.dbpl_stored_program.specs.Insertions.{inserted_all}
use Rattle.dbpl_stored_program.specs.Meaning.{Ended, Outcome, Standing, Trapped, before_zero, meaning, relation_named, with_named}
use Rattle.dbpl_stored_program.specs.declared.action.Action.{Action}
use Rattle.dbpl_stored_program.specs.declared.action.Action.TheVariants.{Transact, WriteLn, WriteString}
use Rattle.dbpl_stored_program.specs.declared.stored_program.StoredProgram.{StoredProgram}
use Rattle.dbpl_core.specs.declared.trap.Trap.{Trap}
use Rattle.dbpl_value.specs.declared.bound.Bound.{Bound}
use Rattle.dbpl_value.specs.declared.value.Value.{Value}

-- So many turns suffice: one for the module's body, and one for each call in it.
abbrev pub turns_of : StoredProgram → ℕ
turns_of program = suc (length program.body)

abbrev pub whole_run : StoredProgram → List Bound → List ℕ → Outcome
whole_run program database input = meaning program database input (turns_of program)

-- THE event list of a program over this database, with this input
abbrev pub events_of : StoredProgram → List Bound → List ℕ → List Event
events_of program database input = (whole_run program database input).events

-- ---- the same, statement by statement; no statement reads, so the input is left as it was

-- What statements come to: their events, and how they stand.
pub record Course : Type 0 where
  pub events : List Event
  pub stands : Standing

-- and the outcome of that, which leaves the input as it was
abbrev pub leaving : List ℕ → Course → Outcome
leaving input course = record { events = course.events; stands = course.stands; left = input }

-- a course with these events before it
abbrev pub after_events : List Event → Course → Course
after_events events course = record course { events = events ++ course.events }

-- the database after the transaction, or its trap
abbrev pub transacted_by : StoredProgram → List Bound → Result Value Trap
transacted_by program database =
    inserted_all program.relation.kind program.insertions (relation_named program.relation.name database)

abbrev pub by_transaction : Result Value Trap → (Value → Course) → Course
by_transaction (Ok relation) next = next relation
by_transaction (Err trap) next = record { events = []; stands = Trapped trap }

-- what these statements of the body come to over this database
abbrev pub comes_to : StoredProgram → List Action → List Bound → Course
comes_to program [] database = record { events = []; stands = Ended }
comes_to program (Transact ∷ actions) database =
    by_transaction (transacted_by program database) (λ relation.
    after_events (Commit (with_named program.relation.name relation database) ∷ [])
    (comes_to program actions (with_named program.relation.name relation database)))
comes_to program (WriteLn ∷ actions) database = after_events (Out 10 ∷ []) (comes_to program actions database)
comes_to program (WriteString text ∷ actions) database =
    after_events (map Out (before_zero text)) (comes_to program actions database)
