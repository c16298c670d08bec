-- A transaction that was done in memory, and its commit.
use Rattle.std.proofs.Common.{◌≡◌, ◌∙◌, List, [], ◌∷◌, Result, Ok, Err, Some, ap, append-nil, subst, sym}
use Rattle.dbpl_core.specs.Events.{Commit, Event, last}
use Rattle.dbpl_stored_program.specs.Meaning.{Ended, with_named}
use Rattle.dbpl_stored_program.specs.Whole.{transacted_by}
use Rattle.dbpl_stored_program.specs.declared.action.Action.TheVariants.{Transact}
use Rattle.dbpl_stored_program.specs.declared.run_err.RunErr.{RunErr}
use Rattle.dbpl_stored_program.specs.declared.run_err.RunErr.TheVariants as run_errors
use Rattle.dbpl_stored_program.specs.declared.stored_program.StoredProgram.{StoredProgram}
use Rattle.dbpl_core.specs.declared.trap.Trap.{Trap}
use Rattle.dbpl_store.specs.Stands.{IsEither, LeavesDatabase}
use Rattle.dbpl_store.specs.Stores.{IsOpen, committed_of, database_in}
use Rattle.dbpl_store.specs.declared.store.Store.{Store}
use Rattle.dbpl_stored_run.proofs.Answering.{err-inside}
use Rattle.dbpl_stored_run.proofs.Steps.{trapped-events, transacted-ended, transacted-events}
use Rattle.dbpl_stored_run.proofs.Stores.{open-stands}
use Rattle.dbpl_stored_run.proofs.Tying.{made-none, moments-commit}
use Rattle.dbpl_stored_run.specs.Errors.{of_transaction}
use Rattle.dbpl_stored_run.specs.Headline.{HasMade, HasMadeSome, LeavesTied, StandsFor}
use Rattle.dbpl_stored_run.specs.Statements.{events_by, standing_by}
use Rattle.dbpl_stored_run.specs.declared.body_err.BodyErr.{BodyErr}
use Rattle.dbpl_stored_run.specs.declared.body_err.BodyErr.TheVariants as body_errors
use Rattle.dbpl_value.specs.declared.bound.Bound.{Bound}
use Rattle.dbpl_value.specs.declared.value.Value.{Value}
use Rattle.dbpl_world.proofs.Moments.{moments_last}
use Rattle.dbpl_world.specs.History.{History, State, now}
use Rattle.dbpl_world.specs.Moments.{EachMoment}

-- a commit that is done
pub committed-made :
    (changed later : Store) (database : List Bound) (h0 h1 : History) →
    EachMoment (LeavesDatabase (IsEither (committed_of changed) (database_in changed)) (now h0)) h0 h1 →
    IsOpen (now h1) later → committed_of later ≡ database_in changed →
    HasMade (Commit (database_in changed) ∷ []) database (now h0) (now h1)
committed-made changed later database h0 h1 run opened committed =
    let here = moments_last (LeavesDatabase (IsEither (committed_of changed) (database_in changed)) (now h0)) h0 h1 run in
    record {
      printed = ap (λ (s : State). s.said) here.others ∙ sym (append-nil (now h0).said);
      stored = λ log pages image torn.
          open-stands (now h1) later opened log pages image torn ∙ ap (λ (d : List Bound). Some d) committed;
    }

-- the store has what the transaction makes of what stood there before
abbrev pub IsDone : StoredProgram → Store → Store → Type 0
IsDone program before changed =
    (relation : Value) × (transacted_by program (database_in before) ≡ Ok relation)
    × (database_in changed ≡ with_named program.relation.name relation (database_in before))

module _ (program : StoredProgram) (before changed : Store) (done : IsDone program before changed) where
  -- its events are one commit of what the store has
  events-done : events_by program (Transact ∷ []) (database_in before) ≡ Commit (database_in changed) ∷ []
  events-done =
      transacted-events program (database_in before) done.0 done.1
      ∙ ap (λ (d : List Bound). Commit d ∷ []) (sym done.2)

  pub done-ended : standing_by program (Transact ∷ []) (database_in before) ≡ Ended
  done-ended = transacted-ended program (database_in before) done.0 done.1

  pub done-last :
      (database other : List Bound) → database ≡ database_in changed →
      database ≡ last (events_by program (Transact ∷ []) (database_in before)) other
  done-last database other is = is ∙ ap (λ (events : List Event). last events other) (sym events-done)

  module _ (h0 h1 : History) (kept : committed_of changed ≡ committed_of before) where
    pub done-moments :
        EachMoment (LeavesDatabase (IsEither (committed_of changed) (database_in changed)) (now h0)) h0 h1 →
        EachMoment (LeavesTied (events_by program (Transact ∷ []) (database_in before)) (committed_of before) (now h0)) h0 h1
    done-moments run =
        subst (λ (d : List Bound). EachMoment (LeavesTied (events_by program (Transact ∷ []) (database_in before)) d (now h0)) h0 h1) kept
        (subst (λ (events : List Event). EachMoment (LeavesTied events (committed_of changed) (now h0)) h0 h1) (sym events-done)
        (moments-commit (committed_of changed) (database_in changed) h0 h1 run))

    pub done-made :
        (later : Store) → EachMoment (LeavesDatabase (IsEither (committed_of changed) (database_in changed)) (now h0)) h0 h1 →
        IsOpen (now h1) later → committed_of later ≡ database_in changed →
        HasMade (events_by program (Transact ∷ []) (database_in before)) (committed_of before) (now h0) (now h1)
    done-made later run opened committed =
        subst (λ (events : List Event). HasMade events (committed_of before) (now h0) (now h1)) (sym events-done)
        (committed-made changed later (committed_of before) h0 h1 run opened committed)

    pub done-some :
        HasMadeSome (Commit (database_in changed) ∷ []) (committed_of changed) (now h0) (now h1) →
        HasMadeSome (events_by program (Transact ∷ []) (database_in before)) (committed_of before) (now h0) (now h1)
    done-some some =
        subst (λ (d : List Bound). HasMadeSome (events_by program (Transact ∷ []) (database_in before)) d (now h0) (now h1)) kept
        (subst (λ (events : List Event). HasMadeSome events (committed_of changed) (now h0) (now h1)) (sym events-done) some)

-- ---- a transaction that was not done

pub was-trap :
    {T : Type 0} (answer : Result T BodyErr) (why : RunErr) → answer ≡ Err (of_transaction why) → (trap : Trap) →
    answer ≡ Err (body_errors.Trapped trap) → why ≡ run_errors.Trap trap
was-trap answer why is trap other = by_why why (err-inside answer (of_transaction why) (body_errors.Trapped trap) is other)
  where
    by_why : (why : RunErr) → of_transaction why ≡ body_errors.Trapped trap → why ≡ run_errors.Trap trap
    by_why (run_errors.Trap other) e = cc
    by_why run_errors.Memory e = absurd cc

pub was-no_disk_fault :
    {A T : Type 0} (answer : Result T BodyErr) (why : RunErr) → answer ≡ Err (of_transaction why) →
    answer ≡ Err body_errors.DiskFault → A
was-no_disk_fault {A = A} answer why is other = by_why why (err-inside answer (of_transaction why) body_errors.DiskFault is other)
  where
    by_why : (why : RunErr) → of_transaction why ≡ body_errors.DiskFault → A
    by_why (run_errors.Trap trap) e = absurd cc
    by_why run_errors.Memory e = absurd cc

pub was-no_out_fault :
    {A T : Type 0} (answer : Result T BodyErr) (why : RunErr) → answer ≡ Err (of_transaction why) →
    answer ≡ Err body_errors.OutFault → A
was-no_out_fault {A = A} answer why is other = by_why why (err-inside answer (of_transaction why) body_errors.OutFault is other)
  where
    by_why : (why : RunErr) → of_transaction why ≡ body_errors.OutFault → A
    by_why (run_errors.Trap trap) e = absurd cc
    by_why run_errors.Memory e = absurd cc

-- nothing was made by it
pub trapped-made :
    (program : StoredProgram) (before : Store) (trap : Trap) (s : State) →
    transacted_by program (database_in before) ≡ Err trap → StandsFor (committed_of before) s →
    HasMade (events_by program (Transact ∷ []) (database_in before)) (committed_of before) s s
trapped-made program before trap s trapped stood =
    subst (λ (events : List Event). HasMade events (committed_of before) s s)
    (sym (trapped-events program (database_in before) trap trapped)) (made-none (committed_of before) s stood)
