-- A program comes to its end within the turns of its statements.
use Rattle.std.proofs.Common.{◌≡◌, ◌+◌, ◌≤◌, ℕ, zero, suc, List, [], ◌∷◌, ap, arith, length, map, refl, sym, ◌∙◌, Result, Ok, Err}
use Rattle.dbpl_stored_program.proofs.Steady.{GoesFrom, steady}
use Rattle.dbpl_core.specs.Events.{Event}
use Rattle.dbpl_stored_program.specs.Insertions.{right_side, with_set}
use Rattle.dbpl_stored_program.specs.Meaning.{◌>>=◌, Doing, Done, Going, Outcome, Ran, State, Stops, Trapped, action_meaning, block, body_meaning, commits, gives, go_on, insertion_meaning, makes, meaning, outcome_of, puts_relation, reads_relation, stops, transaction_meaning, turn, turn_with, untrapped}
use Rattle.dbpl_stored_program.specs.Whole.{turns_of, whole_run}
use Rattle.dbpl_stored_program.specs.declared.action.Action.{Action}
use Rattle.dbpl_stored_program.specs.declared.action.Action.TheVariants.{Transact, WriteLn, WriteString}
use Rattle.dbpl_stored_program.specs.declared.insertion.Insertion.{Insertion}
use Rattle.dbpl_stored_program.specs.declared.stored_program.StoredProgram.{StoredProgram}
use Rattle.dbpl_core.specs.declared.trap.Trap.{Trap}
use Rattle.dbpl_value.specs.declared.bound.Bound.{Bound}
use Rattle.dbpl_value.specs.declared.field.Field.{Field}
use Rattle.dbpl_value.specs.declared.value.Value.{Value}

-- it used so many turns of those left, or came to an end
abbrev pub Spends : {A : Type 0} → ℕ → ℕ → Ran A → Type 0
Spends count left (Done a state) = left ≤ state.left + count
Spends count left (Stops standing state) = standing ≡ Going → ⊥

-- with so many turns left it isn't cut off
pub record Uses {A : Type 0} (count : ℕ) (phrase : Doing A) : Type 0 where
  pub by : (state : State) → count ≤ state.left → Spends count state.left (phrase state)

bind-spends :
    {A B : Type 0} (first second left : ℕ) (ran : Ran A) (next : A → Doing B) → ((a : A) → Uses second (next a)) →
    first + second ≤ left → Spends first left ran → Spends (first + second) left (go_on ran next)
bind-spends {B = B} first second left (Done a state) next each enough spends =
    then_spends (next a state) ((each a).by state (omega (arith, enough, spends)))
  where
    then_spends : (ran : Ran B) → Spends second state.left ran → Spends (first + second) left ran
    then_spends (Done b later) more = omega (arith, spends, more)
    then_spends (Stops standing later) more = more
bind-spends first second left (Stops standing state) next each enough spends = spends

pub uses_bind :
    {A B : Type 0} (first second : ℕ) (phrase : Doing A) (next : A → Doing B) → Uses first phrase →
    ((a : A) → Uses second (next a)) → Uses (first + second) (phrase >>= next)
unfolding ◌>>=◌
uses_bind first second phrase next one each = record {
  by = λ state enough.
      bind-spends first second state.left (phrase state) next each enough (one.by state (omega (arith, enough)));
}

uses_gives : {A : Type 0} (a : A) → Uses 0 (gives a)
unfolding gives
uses_gives a = record { by = λ state enough. omega arith }

uses_trap : {A : Type 0} (trap : Trap) → Uses 0 (stops {A = A} (Trapped trap))
unfolding stops
uses_trap trap = record { by = λ state enough e. cc }

uses_untrapped : {A : Type 0} (result : Result A Trap) → Uses 0 (untrapped result)
uses_untrapped (Ok a) = uses_gives a
uses_untrapped (Err trap) = uses_trap trap

uses_makes : (events : List Event) → Uses 0 (makes events)
unfolding makes
uses_makes events = record { by = λ state enough. omega arith }

uses_reads : (name : List ℕ) → Uses 0 (reads_relation name)
unfolding reads_relation
uses_reads name = record { by = λ state enough. omega arith }

uses_puts : (name : List ℕ) (relation : Value) → Uses 0 (puts_relation name relation)
unfolding puts_relation
uses_puts name relation = record { by = λ state enough. omega arith }

uses_commits : Uses 0 commits
unfolding commits
uses_commits = record { by = λ state enough. omega arith }

-- one more for a turn
turn-spends :
    {A : Type 0} (count : ℕ) (doing : Doing A) → Uses count doing → (left : ℕ) (state : State) → suc count ≤ left →
    Spends (suc count) left (turn_with left doing state)
turn-spends count doing uses zero state enough = absurd (omega (arith, enough))
turn-spends {A = A} count doing uses (suc left) state enough =
    one_more (doing (record state { left = left })) (uses.by (record state { left = left }) (omega (arith, enough)))
  where
    one_more : (ran : Ran A) → Spends count left ran → Spends (suc count) (suc left) ran
    one_more (Done a later) spends = omega (arith, spends)
    one_more (Stops standing later) spends = spends

uses_turn : {A : Type 0} (count : ℕ) (doing : Doing A) → Uses count doing → Uses (suc count) (turn doing)
unfolding turn
uses_turn count doing uses = record { by = λ state enough. turn-spends count doing uses state.left state enough }

-- statements that use no turn
uses_none :
    {X : Type 0} (statement : X → Doing (Unit {0})) (xs : List X) → ((x : X) → Uses 0 (statement x)) →
    Uses 0 (block (map statement xs))
uses_none statement [] each = uses_gives (tt {0})
uses_none statement (x ∷ xs) each =
    uses_bind 0 0 (statement x) (λ _. block (map statement xs)) (each x) (λ _. uses_none statement xs each)

uses_insertion : (field : Field) (insertion : Insertion) → Uses 0 (insertion_meaning field insertion)
uses_insertion field insertion =
    uses_bind 0 0 _ _ (uses_untrapped (right_side field.kind insertion)) (λ set.
    uses_bind 0 0 _ _ (uses_reads field.name) (λ relation.
    uses_bind 0 0 _ _ (uses_untrapped (with_set field.kind insertion.place relation set)) (λ after.
    uses_puts field.name after)))

uses_transaction : (program : StoredProgram) → Uses 0 (transaction_meaning program)
uses_transaction program =
    uses_bind 0 0 _ _
    (uses_none (insertion_meaning program.relation) program.insertions (uses_insertion program.relation))
    (λ _. uses_commits)

uses_action : (program : StoredProgram) (action : Action) → Uses 1 (action_meaning program action)
uses_action program Transact = uses_turn 0 _ (uses_transaction program)
uses_action program WriteLn = uses_turn 0 _ (uses_makes _)
uses_action program (WriteString text) = uses_turn 0 _ (uses_makes _)

uses_as : {A : Type 0} (count other : ℕ) (phrase : Doing A) → count ≡ other → Uses count phrase → Uses other phrase
uses_as count other phrase e uses = rw (← e) uses

uses_actions : (program : StoredProgram) (actions : List Action) → Uses (length actions) (block (map (action_meaning program) actions))
uses_actions program [] = uses_gives (tt {0})
uses_actions program (action ∷ actions) =
    uses_as (1 + length actions) (length (action ∷ actions)) _ (omega arith)
    (uses_bind 1 (length actions) (action_meaning program action) (λ _. block (map (action_meaning program) actions))
    (uses_action program action) (λ _. uses_actions program actions))

uses_body : (program : StoredProgram) → Uses (turns_of program) (body_meaning program)
uses_body program = uses_turn (length program.body) _ (uses_actions program program.body)

not_going : (count left : ℕ) (ran : Ran (Unit {0})) → Spends count left ran → (outcome_of ran).stands ≡ Going → ⊥
not_going count left (Done value state) spends e = cc
not_going count left (Stops standing state) spends e = spends e

-- with its turns a program isn't cut off
pub comes_to_end : (program : StoredProgram) (database : List Bound) (input : List ℕ) → (whole_run program database input).stands ≡ Going → ⊥
unfolding meaning
comes_to_end program database input =
    let start : State = record { left = turns_of program; database = database; input = input; events = [] } in
    not_going (turns_of program) (turns_of program) (body_meaning program start) ((uses_body program).by start (omega arith))

-- what it has made within fewer turns is a front of the whole run
pub whole-front :
    (program : StoredProgram) (database : List Bound) (input : List ℕ) (turns : ℕ) →
    GoesFrom (meaning program database input turns).events (whole_run program database input).events
whole-front program database input turns =
    let further : ℕ = turns + turns_of program in
    let on = steady program database input turns (turns_of program) further refl in
    let back = steady program database input (turns_of program) turns further (omega arith) in
    record {
      rest = on.extends.rest;
      is = ap (λ (outcome : Outcome). outcome.events) (sym (back.stays (comes_to_end program database input))) ∙ on.extends.is;
    }
