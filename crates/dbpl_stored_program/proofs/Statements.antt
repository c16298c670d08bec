-- What a program does, statement by statement.
use Rattle.std.proofs.Common.{◌≡◌, ℕ, zero, suc, List, [], ◌∷◌, ◌++◌, ap, append_assoc, arith, length, map, refl, sym, subst, ◌∙◌, Some, Result, Ok, Err}
use Rattle.std.proofs.lemmas.List.{append-nil}
use Rattle.dbpl_stored_program.proofs.Databases.{named-after, relation_named-is, with_named-own, with_named-twice}
use Rattle.dbpl_core.specs.Events.{Commit, Event, Out}
use Rattle.dbpl_stored_program.specs.Insertions.{and_then, inserted, inserted_all, right_side, with_set}
use Rattle.dbpl_stored_program.specs.Meaning.{◌>>=◌, Done, Ended, Outcome, Ran, Standing, State, Stops, Trapped, action_meaning, block, commits, gives, go_on, insertion_meaning, makes, meaning, outcome_of, puts_relation, reads_relation, relation_named, stops, transaction_meaning, before_zero, turn, with_named}
use Rattle.dbpl_stored_program.specs.Whole.{Course, after_events, by_transaction, comes_to, leaving, transacted_by, whole_run}
use Rattle.dbpl_stored_program.specs.declared.action.Action.{Action}
use Rattle.dbpl_stored_program.specs.declared.action.Action.TheVariants.{Transact, WriteLn, WriteString}
use Rattle.dbpl_stored_program.specs.declared.insertion.Insertion.{Insertion}
use Rattle.dbpl_stored_program.specs.declared.stored_program.StoredProgram.{StoredProgram}
use Rattle.dbpl_core.specs.declared.trap.Trap.{Trap}
use Rattle.dbpl_value.specs.Binding.{bound_named, holding}
use Rattle.dbpl_value.specs.declared.bound.Bound.{Bound}
use Rattle.dbpl_value.specs.declared.field.Field.{Field}
use Rattle.dbpl_value.specs.declared.value.Value.{Value}

-- ---- one insertion

-- a run of statements of a transaction: the variable holds this relation, or there was this trap
abbrev Holds : List ℕ → State → Result Value Trap → Ran (Unit {0}) → Type 0
Holds name state (Ok relation) ran = ran ≡ Done (tt {0}) (record state { database = with_named name relation state.database })
Holds name state (Err trap) ran = (database : List Bound) × (ran ≡ Stops (Trapped trap) (record state { database = database }))

insertion-by :
    (field : Field) (insertion : Insertion) (state : State) (relation : Value) →
    relation_named field.name state.database ≡ relation → (set : Result Value Trap) →
    right_side field.kind insertion ≡ set → (after : Result Value Trap) →
    and_then set (with_set field.kind insertion.place relation) ≡ after →
    Holds field.name state after (insertion_meaning field insertion state)
unfolding ◌>>=◌ gives stops reads_relation puts_relation
insertion-by field insertion state relation held (Err trap) e after is = rw (e, ← is) (state.database, refl)
insertion-by field insertion state relation held (Ok set) e (Err trap) is = rw (e, held, is) (state.database, refl)
insertion-by field insertion state relation held (Ok set) e (Ok after) is = rw (e, held, is) refl

-- it makes of the relation in its variable what `inserted` says
insertion-holds :
    (field : Field) (insertion : Insertion) (state : State) (bound : Bound) →
    bound_named field.name state.database ≡ Some bound →
    Holds field.name state (inserted field.kind insertion bound.rel) (insertion_meaning field insertion state)
insertion-holds field insertion state bound found =
    insertion-by field insertion state bound.rel (relation_named-is field.name state.database bound found)
    (right_side field.kind insertion) refl (inserted field.kind insertion bound.rel) refl

-- ---- all insertions

next-holds :
    (name : List ℕ) (state : State) (database : List Bound) (result : Result Value Trap) (ran : Ran (Unit {0})) →
    ((relation : Value) → with_named name relation database ≡ with_named name relation state.database) →
    Holds name (record state { database = database }) result ran → Holds name state result ran
next-holds name state database (Ok relation) ran same holds =
    holds ∙ ap (λ (d : List Bound). Done (tt {0}) (record state { database = d })) (same relation)
next-holds name state database (Err trap) ran same holds = holds

insertions-by :
    (field : Field) (insertions : List Insertion) (state : State) (bound : Bound) (ran : Ran (Unit {0}))
    (first : Result Value Trap) → bound_named field.name state.database ≡ Some bound → Holds field.name state first ran →
    ((later : State) (held : Bound) → bound_named field.name later.database ≡ Some held →
    Holds field.name later (inserted_all field.kind insertions held.rel) (block (map (insertion_meaning field) insertions) later)) →
    Holds field.name state (and_then first (inserted_all field.kind insertions))
    (go_on ran (λ _. block (map (insertion_meaning field) insertions)))
insertions-by field insertions state bound ran (Ok relation) found holds rest =
    rw holds
    (next-holds field.name state (with_named field.name relation state.database)
    (inserted_all field.kind insertions relation) _
    (λ later. with_named-twice field.name relation later state.database)
    (rest (record state { database = with_named field.name relation state.database }) (holding relation bound)
    (named-after field.name relation state.database bound found)))
insertions-by field insertions state bound ran (Err trap) found holds rest =
    (holds.0, ap (λ (ran : Ran (Unit {0})). go_on ran (λ _. block (map (insertion_meaning field) insertions))) holds.1)

insertions-hold :
    (field : Field) (insertions : List Insertion) (state : State) (bound : Bound) →
    bound_named field.name state.database ≡ Some bound →
    Holds field.name state (inserted_all field.kind insertions bound.rel)
    (block (map (insertion_meaning field) insertions) state)
unfolding ◌>>=◌ gives
insertions-hold field [] state bound found =
    ap (λ (d : List Bound). Done (tt {0}) (record state { database = d })) (sym (with_named-own field.name state.database bound found))
insertions-hold field (insertion ∷ insertions) state bound found =
    insertions-by field insertions state bound (insertion_meaning field insertion state)
    (inserted field.kind insertion bound.rel) found (insertion-holds field insertion state bound found)
    (λ later held there. insertions-hold field insertions later held there)

-- ---- the transaction

-- a transaction makes one commit, or none and a trap
abbrev Commits : List ℕ → State → Result Value Trap → Ran (Unit {0}) → Type 0
Commits name state (Ok relation) ran =
    ran ≡ Done (tt {0}) (record state {
      database = with_named name relation state.database;
      events = state.events ++ Commit (with_named name relation state.database) ∷ [];
    })
Commits name state (Err trap) ran = (database : List Bound) × (ran ≡ Stops (Trapped trap) (record state { database = database }))

commits-then :
    (name : List ℕ) (state : State) (result : Result Value Trap) (ran : Ran (Unit {0})) → Holds name state result ran →
    Commits name state result (go_on ran (λ _. commits))
unfolding commits
commits-then name state (Ok relation) ran holds = ap (λ (ran : Ran (Unit {0})). go_on ran (λ _. commits)) holds
commits-then name state (Err trap) ran holds = (holds.0, ap (λ (ran : Ran (Unit {0})). go_on ran (λ _. commits)) holds.1)

pub transaction-commits :
    (program : StoredProgram) (state : State) (bound : Bound) →
    bound_named program.relation.name state.database ≡ Some bound →
    Commits program.relation.name state (inserted_all program.relation.kind program.insertions bound.rel)
    (transaction_meaning program state)
unfolding ◌>>=◌
transaction-commits program state bound found =
    commits-then program.relation.name state (inserted_all program.relation.kind program.insertions bound.rel)
    (block (map (insertion_meaning program.relation) program.insertions) state)
    (insertions-hold program.relation program.insertions state bound found)

-- ---- the body

-- an outcome goes on from these events as the statements come to, and leaves this input
abbrev From : List Event → List ℕ → Course → Ran (Unit {0}) → Type 0
From events input course ran = outcome_of ran ≡ leaving input (after_events events course)

-- an outcome with these events
abbrev with_events : Standing → List ℕ → List Event → Outcome
with_events standing input events = record { events = events; stands = standing; left = input }

from-more :
    (events made : List Event) (input : List ℕ) (course : Course) (ran : Ran (Unit {0})) →
    From (events ++ made) input course ran → From events input (after_events made course) ran
from-more events made input course ran from =
    from ∙ ap (with_events course.stands input) (append_assoc events made course.events)

from-none :
    (events : List Event) (input : List ℕ) (standing : Standing) →
    with_events standing input events ≡ leaving input (after_events events (record { events = []; stands = standing }))
from-none events input standing = ap (with_events standing input) (sym (append-nil events))

transact-by :
    (program : StoredProgram) (actions : List Action) (state : State) (bound : Bound) (result : Result Value Trap)
    (ran : Ran (Unit {0})) → bound_named program.relation.name state.database ≡ Some bound →
    Commits program.relation.name state result ran →
    ((database : List Bound) (events : List Event) (held : Bound) → bound_named program.relation.name database ≡ Some held →
    From events state.input (comes_to program actions database)
    (block (map (action_meaning program) actions) (record { left = state.left; database = database; input = state.input; events = events }))) →
    From state.events state.input
    (by_transaction result (λ relation.
    after_events (Commit (with_named program.relation.name relation state.database) ∷ [])
    (comes_to program actions (with_named program.relation.name relation state.database))))
    (go_on ran (λ _. block (map (action_meaning program) actions)))
transact-by program actions state bound (Ok relation) ran found commits rest =
    rw commits
    (from-more state.events (Commit (with_named program.relation.name relation state.database) ∷ []) state.input
    (comes_to program actions (with_named program.relation.name relation state.database))
    (block (map (action_meaning program) actions) (record {
      left = state.left;
      input = state.input;
      database = with_named program.relation.name relation state.database;
      events = state.events ++ Commit (with_named program.relation.name relation state.database) ∷ [];
    }))
    (rest (with_named program.relation.name relation state.database)
    (state.events ++ Commit (with_named program.relation.name relation state.database) ∷ []) (holding relation bound)
    (named-after program.relation.name relation state.database bound found)))
transact-by program actions state bound (Err trap) ran found commits rest =
    ap (λ (ran : Ran (Unit {0})). outcome_of (go_on ran (λ _. block (map (action_meaning program) actions)))) commits.1
    ∙ from-none state.events state.input (Trapped trap)

-- a run of the statements that are left
abbrev run_of : StoredProgram → List Action → ℕ → List Bound → List ℕ → List Event → Ran (Unit {0})
run_of program actions left database input events =
    block (map (action_meaning program) actions) (record { left = left; database = database; input = input; events = events })

body_goes :
    (program : StoredProgram) (actions : List Action) (left : ℕ) (database : List Bound) (input : List ℕ) (events : List Event)
    (bound : Bound) → bound_named program.relation.name database ≡ Some bound → left ≡ length actions →
    From events input (comes_to program actions database)
    (block (map (action_meaning program) actions) (record { left = left; database = database; input = input; events = events }))
unfolding ◌>>=◌ gives turn makes
body_goes program [] left database input events bound found e = from-none events input Ended
body_goes program (action ∷ actions) zero database input events bound found e = absurd (omega (arith, e))
body_goes program (WriteLn ∷ actions) (suc left) database input events bound found e =
    from-more events (Out 10 ∷ []) input (comes_to program actions database)
    (run_of program actions left database input (events ++ Out 10 ∷ []))
    (body_goes program actions left database input (events ++ Out 10 ∷ []) bound found (omega (arith, e)))
body_goes program (WriteString text ∷ actions) (suc left) database input events bound found e =
    let made = map Out (before_zero text) in
    from-more events made input (comes_to program actions database) (run_of program actions left database input (events ++ made))
    (body_goes program actions left database input (events ++ made) bound found (omega (arith, e)))
body_goes program (Transact ∷ actions) (suc left) database input events bound found e =
    let state : State = record { left = left; database = database; input = input; events = events } in
    transact-by program actions state bound (transacted_by program database) (transaction_meaning program state) found
    (subst (λ relation. Commits program.relation.name state (inserted_all program.relation.kind program.insertions relation) (transaction_meaning program state))
    (sym (relation_named-is program.relation.name database bound found))
    (transaction-commits program state bound found))
    (λ later made held there. body_goes program actions left later input made held there (omega (arith, e)))

-- THE whole run of a program, statement by statement
pub whole-comes_to :
    (program : StoredProgram) (database : List Bound) (input : List ℕ) (bound : Bound) →
    bound_named program.relation.name database ≡ Some bound → whole_run program database input ≡ leaving input (comes_to program program.body database)
unfolding meaning turn
whole-comes_to program database input bound found =
    body_goes program program.body (length program.body) database input [] bound found refl
