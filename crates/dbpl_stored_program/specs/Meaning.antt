-- What a program means over a database to which its relation variable is bound, and an input: the events that it makes within
-- a number of turns. A turn is the beginning of a call: the module's body is one, and each call of the transaction or of a
-- procedure of InOut is one.
use Rattle.std.specs.Prelude.{ℕ, zero, suc, ◌==◌, if◌then◌else◌, List, [], ◌∷◌, ◌++◌, map, Result, Ok, Err}
use Rattle.std.specs.List.{before_first}
use Rattle.std.specs.Option.{option_map_or}
use Rattle.dbpl_core.specs.Events.{Commit, Event, Out}
pub use Rattle.dbpl_core.specs.Outcomes.{Ended, Going, Outcome, Standing, Trapped}
use Rattle.dbpl_stored_program.specs.Insertions.{right_side, with_set}
use Rattle.dbpl_stored_program.specs.declared.action.Action.{Action}
use Rattle.dbpl_stored_program.specs.declared.action.Action.TheVariants.{Transact, WriteLn, WriteString}
use Rattle.dbpl_stored_program.specs.declared.insertion.Insertion.{Insertion}
use Rattle.dbpl_stored_program.specs.declared.stored_program.StoredProgram.{StoredProgram}
use Rattle.dbpl_core.specs.declared.trap.Trap.{Trap}
use Rattle.dbpl_value.specs.Binding.{bound_named, holding}
use Rattle.dbpl_value.specs.Types.{is_same_name}
use Rattle.dbpl_value.specs.declared.bound.Bound.{Bound}
use Rattle.dbpl_value.specs.declared.field.Field.{Field}
use Rattle.dbpl_value.specs.declared.value.Value.{Value}
use Rattle.dbpl_value.specs.declared.value.Value.TheVariants as value

-- What a run has while it goes: the turns that may still begin, the database, the input that is left, and the events so far.
pub record State : Type 0 where
  pub left : ℕ
  pub database : List Bound
  pub input : List ℕ
  pub events : List Event

-- A phrase does its work and gives a value, or stops the run.
pub data Ran (A : Type 0) : Type 0 where
  Done : A → State → Ran A
  Stops : Standing → State → Ran A

abbrev pub Doing : Type 0 → Type 0
Doing A = State → Ran A

abbrev pub go_on : {A B : Type 0} → Ran A → (A → Doing B) → Ran B
go_on (Done a state) next = next a state
go_on (Stops standing state) next = Stops standing state

infixl 20 ◌>>=◌
-- one phrase, and then the next with its value
unfoldable pub ◌>>=◌ : {A B : Type 0} → Doing A → (A → Doing B) → Doing B
phrase >>= next = λ state. go_on (phrase state) next

unfoldable pub gives : {A : Type 0} → A → Doing A
gives a = λ state. Done a state

unfoldable pub stops : {A : Type 0} → Standing → Doing A
stops standing = λ state. Stops standing state

-- begins a turn and does this, where a turn is left
abbrev pub turn_with : {A : Type 0} → ℕ → Doing A → State → Ran A
turn_with zero doing state = Stops Going state
turn_with (suc left) doing state = doing (record state { left = left })

unfoldable pub turn : {A : Type 0} → Doing A → Doing A
turn doing = λ state. turn_with state.left doing state

-- the value, where there is no trap
abbrev pub untrapped : {A : Type 0} → Result A Trap → Doing A
untrapped (Ok a) = gives a
untrapped (Err trap) = stops (Trapped trap)

-- makes this event
unfoldable pub makes : List Event → Doing (Unit {0})
makes events = λ state. Done (tt {0}) (record state { events = state.events ++ events })

-- these, one after another
abbrev pub block : List (Doing (Unit {0})) → Doing (Unit {0})
block [] = gives (tt {0})
block (statement ∷ statements) = statement >>= λ _. block statements

-- ---- the database

-- the relation in the variable of this name
abbrev pub relation_named : List ℕ → List Bound → Value
relation_named name database = option_map_or (λ bound. bound.rel) (bound_named name database) (value.Rel [])

-- the database with this relation in the variable of this name
abbrev pub with_named : List ℕ → Value → List Bound → List Bound
with_named name relation [] = []
with_named name relation (bound ∷ others) =
    if is_same_name bound.name name then holding relation bound ∷ others else bound ∷ with_named name relation others

unfoldable pub reads_relation : List ℕ → Doing Value
reads_relation name = λ state. Done (relation_named name state.database) state

unfoldable pub puts_relation : List ℕ → Value → Doing (Unit {0})
puts_relation name relation = λ state. Done (tt {0}) (record state { database = with_named name relation state.database })

unfoldable pub commits : Doing (Unit {0})
commits = λ state. Done (tt {0}) (record state { events = state.events ++ Commit state.database ∷ [] })

-- A transaction takes a whole database to a whole database, and commits it. Where its statements trap there is no commit.
abbrev pub transaction : List (Doing (Unit {0})) → Doing (Unit {0})
transaction statements = block statements >>= λ _. commits

-- ---- statements

-- `v :+ S{..}`: the right side, then the relation in v, then the operator
abbrev pub insertion_meaning : Field → Insertion → Doing (Unit {0})
insertion_meaning field insertion = do
  set ← untrapped (right_side field.kind insertion)
  relation ← reads_relation field.name
  after ← untrapped (with_set field.kind insertion.place relation set)
  puts_relation field.name after

abbrev pub transaction_meaning : StoredProgram → Doing (Unit {0})
transaction_meaning program = transaction (map (insertion_meaning program.relation) program.insertions)

-- the bytes of a string before the first byte 0
abbrev pub before_zero : List ℕ → List ℕ
before_zero text = before_first (λ byte. byte == 0) text

-- WriteLn prints byte 10, WriteString the bytes of its string before the first byte 0.
abbrev pub prints_bytes : List ℕ → Doing (Unit {0})
prints_bytes bytes = makes (map Out bytes)

abbrev pub action_meaning : StoredProgram → Action → Doing (Unit {0})
action_meaning program Transact = turn (transaction_meaning program)
action_meaning program WriteLn = turn (prints_bytes (10 ∷ []))
action_meaning program (WriteString text) = turn (prints_bytes (before_zero text))

abbrev pub body_meaning : StoredProgram → Doing (Unit {0})
body_meaning program = turn (block (map (action_meaning program) program.body))

abbrev pub outcome_of : Ran (Unit {0}) → Outcome
outcome_of (Done value state) = record { events = state.events; stands = Ended; left = state.input }
outcome_of (Stops standing state) = record { events = state.events; stands = standing; left = state.input }

-- THE meaning: what a program comes to over this database, with this input, within so many turns. So far no statement reads.
unfoldable pub meaning : StoredProgram → List Bound → List ℕ → ℕ → Outcome
meaning program database input turns =
    outcome_of (body_meaning program (record { left = turns; database = database; input = input; events = [] }))
