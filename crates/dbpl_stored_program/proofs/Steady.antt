-- More turns only add events, and a run that has come to an end stays as it is. It holds of phrases, and of what is made
-- of them.
use Rattle.std.proofs.Common.{◌≡◌, ◌+◌, ℕ, zero, suc, List, [], ◌∷◌, ◌++◌, ap, append_assoc, arith, map, refl, sym, ◌∙◌, Result, Ok, Err}
use Rattle.std.proofs.lemmas.List.{append-nil}
use Rattle.dbpl_core.specs.Events.{Commit, Event}
use Rattle.dbpl_stored_program.specs.Insertions.{right_side, with_set}
use Rattle.dbpl_stored_program.specs.Meaning.{◌>>=◌, Doing, Done, Ended, Going, Outcome, Ran, State, Stops, Trapped, action_meaning, block, body_meaning, commits, gives, go_on, insertion_meaning, makes, meaning, outcome_of, puts_relation, reads_relation, stops, transaction_meaning, turn, turn_with, untrapped}
use Rattle.dbpl_stored_program.specs.declared.action.Action.{Action}
use Rattle.dbpl_stored_program.specs.declared.action.Action.TheVariants.{Transact, WriteLn, WriteString}
use Rattle.dbpl_stored_program.specs.declared.insertion.Insertion.{Insertion}
use Rattle.dbpl_stored_program.specs.declared.stored_program.StoredProgram.{StoredProgram}
use Rattle.dbpl_core.specs.declared.trap.Trap.{Trap}
use Rattle.dbpl_value.specs.declared.bound.Bound.{Bound}
use Rattle.dbpl_value.specs.declared.field.Field.{Field}
use Rattle.dbpl_value.specs.declared.value.Value.{Value}

abbrev pub events_in : {A : Type 0} → Ran A → List Event
events_in (Done a state) = state.events
events_in (Stops standing state) = state.events

-- the events go on from these
pub record GoesFrom (events further : List Event) : Type 0 where
  pub rest : List Event
  pub is : further ≡ events ++ rest

-- what a run comes to with so many more turns: the same, or more events where it was going on
abbrev pub Follows : {A : Type 0} → ℕ → Ran A → Ran A → Type 0
Follows others (Done a state) further =
    (left : ℕ) × (left ≡ state.left + others) × (further ≡ Done a (record state { left = left }))
Follows others (Stops Going state) further = GoesFrom state.events (events_in further)
Follows others (Stops Ended state) further =
    (left : ℕ) × (left ≡ state.left + others) × (further ≡ Stops Ended (record state { left = left }))
Follows others (Stops (Trapped trap) state) further =
    (left : ℕ) × (left ≡ state.left + others) × (further ≡ Stops (Trapped trap) (record state { left = left }))

-- a phrase only adds events, and more turns bring the same or more
pub record IsSteady {A : Type 0} (phrase : Doing A) : Type 0 where
  pub adds : (state : State) → GoesFrom state.events (events_in (phrase state))
  pub on : (others further : ℕ) (state : State) → further ≡ state.left + others →
      Follows others (phrase state) (phrase (record state { left = further }))

more-from : (events further last : List Event) → GoesFrom events further → GoesFrom further last → GoesFrom events last
more-from events further last one other = record {
  rest = one.rest ++ other.rest;
  is = other.is ∙ ap (λ es. es ++ other.rest) one.is ∙ append_assoc events one.rest other.rest;
}

none-from : (events : List Event) → GoesFrom events events
none-from events = record { rest = []; is = sym (append-nil events) }

-- ---- one phrase and the next

bind-adds :
    {A B : Type 0} (ran : Ran A) (next : A → Doing B) (events : List Event) → ((a : A) → IsSteady (next a)) →
    GoesFrom events (events_in ran) → GoesFrom events (events_in (go_on ran next))
bind-adds (Done a state) next events steady from =
    more-from events state.events (events_in (next a state)) from ((steady a).adds state)
bind-adds (Stops standing state) next events steady from = from

bind-on :
    {A B : Type 0} (others : ℕ) (ran further : Ran A) (next : A → Doing B) → ((a : A) → IsSteady (next a)) →
    Follows others ran further → Follows others (go_on ran next) (go_on further next)
bind-on others (Done a state) further next steady follows =
    rw follows.2 ((steady a).on others follows.0 state follows.1)
bind-on others (Stops Going state) further next steady follows = bind-adds further next state.events steady follows
bind-on others (Stops Ended state) further next steady follows =
    (follows.0, follows.1, ap (λ ran. go_on ran next) follows.2)
bind-on others (Stops (Trapped trap) state) further next steady follows =
    (follows.0, follows.1, ap (λ ran. go_on ran next) follows.2)

pub steady_bind :
    {A B : Type 0} (phrase : Doing A) (next : A → Doing B) → IsSteady phrase → ((a : A) → IsSteady (next a)) →
    IsSteady (phrase >>= next)
unfolding ◌>>=◌
steady_bind phrase next one each = record {
  adds = λ state. bind-adds (phrase state) next state.events each (one.adds state);
  on = λ others further state e.
      bind-on others (phrase state) (phrase (record state { left = further })) next each (one.on others further state e);
}

-- ---- words

pub steady_gives : {A : Type 0} (a : A) → IsSteady (gives a)
unfolding gives
steady_gives a = record {
  adds = λ state. none-from state.events;
  on = λ others further state e. (further, e, refl);
}

pub steady_trap : {A : Type 0} (trap : Trap) → IsSteady (stops {A = A} (Trapped trap))
unfolding stops
steady_trap trap = record {
  adds = λ state. none-from state.events;
  on = λ others further state e. (further, e, refl);
}

pub steady_untrapped : {A : Type 0} (result : Result A Trap) → IsSteady (untrapped result)
steady_untrapped (Ok a) = steady_gives a
steady_untrapped (Err trap) = steady_trap trap

pub steady_makes : (events : List Event) → IsSteady (makes events)
unfolding makes
steady_makes events = record {
  adds = λ state. record { rest = events; is = refl };
  on = λ others further state e. (further, e, refl);
}

pub steady_reads : (name : List ℕ) → IsSteady (reads_relation name)
unfolding reads_relation
steady_reads name = record {
  adds = λ state. none-from state.events;
  on = λ others further state e. (further, e, refl);
}

pub steady_puts : (name : List ℕ) (relation : Value) → IsSteady (puts_relation name relation)
unfolding puts_relation
steady_puts name relation = record {
  adds = λ state. none-from state.events;
  on = λ others further state e. (further, e, refl);
}

pub steady_commits : IsSteady commits
unfolding commits
steady_commits = record {
  adds = λ state. record { rest = Commit state.database ∷ []; is = refl };
  on = λ others further state e. (further, e, refl);
}

-- ---- turns

turn-adds :
    {A : Type 0} (doing : Doing A) → IsSteady doing → (left : ℕ) (state : State) →
    GoesFrom state.events (events_in (turn_with left doing state))
turn-adds doing steady zero state = none-from state.events
turn-adds doing steady (suc left) state = steady.adds (record state { left = left })

turn-on :
    {A : Type 0} (doing : Doing A) → IsSteady doing → (left others further : ℕ) (state : State) → further ≡ left + others →
    Follows others (turn_with left doing state) (turn_with further doing (record state { left = further }))
turn-on doing steady zero others further state e = turn-adds doing steady further (record state { left = further })
turn-on doing steady (suc left) others zero state e = absurd (omega (arith, e))
turn-on doing steady (suc left) others (suc further) state e =
    steady.on others further (record state { left = left }) (omega (arith, e))

pub steady_turn : {A : Type 0} (doing : Doing A) → IsSteady doing → IsSteady (turn doing)
unfolding turn
steady_turn doing steady = record {
  adds = λ state. turn-adds doing steady state.left state;
  on = λ others further state e. turn-on doing steady state.left others further state e;
}

-- ---- statements

pub steady_block :
    {X : Type 0} (statement : X → Doing (Unit {0})) (xs : List X) → ((x : X) → IsSteady (statement x)) →
    IsSteady (block (map statement xs))
steady_block statement [] each = steady_gives (tt {0})
steady_block statement (x ∷ xs) each =
    steady_bind (statement x) (λ _. block (map statement xs)) (each x) (λ _. steady_block statement xs each)

pub steady_insertion : (field : Field) (insertion : Insertion) → IsSteady (insertion_meaning field insertion)
steady_insertion field insertion =
    steady_bind _ _ (steady_untrapped (right_side field.kind insertion)) (λ set.
    steady_bind _ _ (steady_reads field.name) (λ relation.
    steady_bind _ _ (steady_untrapped (with_set field.kind insertion.place relation set)) (λ after.
    steady_puts field.name after)))

pub steady_transaction : (program : StoredProgram) → IsSteady (transaction_meaning program)
steady_transaction program =
    steady_bind _ _
    (steady_block (insertion_meaning program.relation) program.insertions (steady_insertion program.relation))
    (λ _. steady_commits)

pub steady_action : (program : StoredProgram) (action : Action) → IsSteady (action_meaning program action)
steady_action program Transact = steady_turn _ (steady_transaction program)
steady_action program WriteLn = steady_turn _ (steady_makes _)
steady_action program (WriteString text) = steady_turn _ (steady_makes _)

pub steady_body : (program : StoredProgram) → IsSteady (body_meaning program)
steady_body program = steady_turn _ (steady_block (action_meaning program) program.body (steady_action program))

-- ---- the whole

-- More turns bring more: an outcome goes on to another, or it has come to an end and is the other.
pub record GoesOn (less further : Outcome) : Type 0 where
  pub extends : GoesFrom less.events further.events
  pub stays : (less.stands ≡ Going → ⊥) → further ≡ less

pub outcomes :
    (others : ℕ) (ran further : Ran (Unit {0})) → Follows others ran further → GoesOn (outcome_of ran) (outcome_of further)
outcomes others (Done value state) further follows = rw follows.2 (record { extends = none-from state.events; stays = λ h. refl })
outcomes others (Stops Going state) (Done value later) follows = record { extends = follows; stays = λ h. absurd (h refl) }
outcomes others (Stops Going state) (Stops standing later) follows = record { extends = follows; stays = λ h. absurd (h refl) }
outcomes others (Stops Ended state) further follows = rw follows.2 (record { extends = none-from state.events; stays = λ h. refl })
outcomes others (Stops (Trapped trap) state) further follows =
    rw follows.2 (record { extends = none-from state.events; stays = λ h. refl })

pub steady :
    (program : StoredProgram) (database : List Bound) (input : List ℕ) (turns others further : ℕ) → further ≡ turns + others →
    GoesOn (meaning program database input turns) (meaning program database input further)
unfolding meaning
steady program database input turns others further e =
    let start : State = record { left = turns; database = database; input = input; events = [] } in
    outcomes others (body_meaning program start) (body_meaning program (record start { left = further }))
    ((steady_body program).on others further start e)
