-- What a program does, one statement and then the others.
use Rattle.std.proofs.Common.{◌≡◌, ◌∙◌, ℕ, List, [], ◌∷◌, ◌++◌, Result, Ok, Err, ap, append-nil, map, refl, sym}
use Rattle.dbpl_core.proofs.Events.{last-outs}
use Rattle.dbpl_core.specs.Events.{Commit, Event, Out, last}
use Rattle.dbpl_stored_program.specs.Meaning.{Ended, Trapped, before_zero, with_named}
use Rattle.dbpl_stored_program.specs.Whole.{Course, after_events, by_transaction, comes_to, transacted_by}
use Rattle.dbpl_stored_program.specs.declared.action.Action.{Action}
use Rattle.dbpl_stored_program.specs.declared.action.Action.TheVariants.{Transact, WriteLn, WriteString}
use Rattle.dbpl_stored_program.specs.declared.stored_program.StoredProgram.{StoredProgram}
use Rattle.dbpl_core.specs.declared.trap.Trap.{Trap}
use Rattle.dbpl_stored_run.specs.Statements.{events_by, standing_by}
use Rattle.dbpl_value.specs.declared.bound.Bound.{Bound}
use Rattle.dbpl_value.specs.declared.value.Value.{Value}

module _ (program : StoredProgram) (database : List Bound) where
  -- the transaction, and what follows it
  abbrev transacts : List Action → Value → Course
  transacts actions relation =
      after_events (Commit (with_named program.relation.name relation database) ∷ [])
      (comes_to program actions (with_named program.relation.name relation database))

  -- ---- a statement that came to its end

  transact-ended :
      (actions : List Action) (result : Result Value Trap) → (by_transaction result (transacts [])).stands ≡ Ended →
      by_transaction result (transacts actions)
      ≡ after_events (by_transaction result (transacts [])).events
      (comes_to program actions (last (by_transaction result (transacts [])).events database))
  transact-ended actions (Ok relation) ended = refl
  transact-ended actions (Err trap) ended = absurd cc

  -- then the others follow over the database that it left
  pub step-ended :
      (action : Action) (actions : List Action) → standing_by program (action ∷ []) database ≡ Ended →
      comes_to program (action ∷ actions) database
      ≡ after_events (events_by program (action ∷ []) database)
      (comes_to program actions (last (events_by program (action ∷ []) database) database))
  step-ended WriteLn actions ended = refl
  step-ended (WriteString text) actions ended =
      let outs : List Event = map Out (before_zero text) in
      sym (ap (λ (events : List Event). after_events events (comes_to program actions (last events database))) (append-nil outs)
      ∙ ap (λ (d : List Bound). after_events outs (comes_to program actions d)) (last-outs (before_zero text) database))
  step-ended Transact actions ended = transact-ended actions (transacted_by program database) ended

  -- ---- a statement that trapped

  transact-trapped :
      (actions : List Action) (result : Result Value Trap) (trap : Trap) →
      (by_transaction result (transacts [])).stands ≡ Trapped trap →
      by_transaction result (transacts actions) ≡ by_transaction result (transacts [])
  transact-trapped actions (Ok relation) trap trapped = absurd cc
  transact-trapped actions (Err other) trap trapped = refl

  -- then nothing follows
  pub step-trapped :
      (action : Action) (actions : List Action) (trap : Trap) → standing_by program (action ∷ []) database ≡ Trapped trap →
      comes_to program (action ∷ actions) database ≡ comes_to program (action ∷ []) database
  step-trapped WriteLn actions trap trapped = absurd cc
  step-trapped (WriteString text) actions trap trapped = absurd cc
  step-trapped Transact actions trap trapped = transact-trapped actions (transacted_by program database) trap trapped

  -- ---- any statement

  transact-front :
      (actions : List Action) (result : Result Value Trap) →
      (rest : List Event)
      × ((by_transaction result (transacts actions)).events ≡ (by_transaction result (transacts [])).events ++ rest)
  transact-front actions (Ok relation) =
      ((comes_to program actions (with_named program.relation.name relation database)).events, refl)
  transact-front actions (Err trap) = ([], refl)

  -- its events stand in front
  pub step-front :
      (action : Action) (actions : List Action) →
      (rest : List Event)
      × (events_by program (action ∷ actions) database ≡ events_by program (action ∷ []) database ++ rest)
  step-front WriteLn actions = (events_by program actions database, refl)
  step-front (WriteString text) actions = (
    events_by program actions database,
    ap (λ (events : List Event). events ++ events_by program actions database) (sym (append-nil (map Out (before_zero text)))),
  )
  step-front Transact actions = transact-front actions (transacted_by program database)

  -- ---- one statement alone

  pub written-events :
      (text : List ℕ) → events_by program (WriteString text ∷ []) database ≡ map Out (before_zero text)
  written-events text = append-nil (map Out (before_zero text))

  pub transacted-events :
      (relation : Value) → transacted_by program database ≡ Ok relation →
      events_by program (Transact ∷ []) database ≡ Commit (with_named program.relation.name relation database) ∷ []
  transacted-events relation done = ap (λ (result : Result Value Trap). (by_transaction result (transacts [])).events) done

  pub transacted-ended :
      (relation : Value) → transacted_by program database ≡ Ok relation → standing_by program (Transact ∷ []) database ≡ Ended
  transacted-ended relation done = ap (λ (result : Result Value Trap). (by_transaction result (transacts [])).stands) done

  pub trapped-events :
      (trap : Trap) → transacted_by program database ≡ Err trap → events_by program (Transact ∷ []) database ≡ []
  trapped-events trap done = ap (λ (result : Result Value Trap). (by_transaction result (transacts [])).events) done

  pub trapped-stands :
      (trap : Trap) → transacted_by program database ≡ Err trap → standing_by program (Transact ∷ []) database ≡ Trapped trap
  trapped-stands trap done = ap (λ (result : Result Value Trap). (by_transaction result (transacts [])).stands) done
