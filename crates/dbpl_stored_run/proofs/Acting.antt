-- One statement that prints, over an open store.
use Rattle.std.proofs.Common.{◌≡◌, ◌∙◌, ℕ, List, [], ◌∷◌, Result, ap, map, refl, subst, sym}
use Rattle.std.specs.Prelude.{OnOk}
use Rattle.dbpl_core.proofs.Events.{last-outs}
use Rattle.dbpl_core.specs.Events.{Event, Out, last}
use Rattle.dbpl_stored_program.specs.Meaning.{Ended, before_zero}
use Rattle.dbpl_stored_program.specs.declared.action.Action.{Action}
use Rattle.dbpl_stored_program.specs.declared.action.Action.TheVariants.{WriteLn, WriteString}
use Rattle.dbpl_stored_program.specs.declared.stored_program.StoredProgram.{StoredProgram}
use Rattle.dbpl_store.specs.Stores.{IsOpen, committed_of, database_in}
use Rattle.dbpl_store.specs.declared.store.Store.{Store}
use Rattle.dbpl_stored_run.proofs.Steps.{written-events}
use Rattle.dbpl_stored_run.proofs.Stores.{open-kept, open-stands}
use Rattle.dbpl_stored_run.specs.Headline.{HasMade, HasMadeSome, LeavesTied, StandsFor}
use Rattle.dbpl_stored_run.specs.Statements.{events_by, standing_by}
use Rattle.dbpl_stored_run.specs.declared.body_err.BodyErr.{BodyErr}
use Rattle.dbpl_value.specs.declared.bound.Bound.{Bound}
use Rattle.dbpl_world.specs.History.{History, now}
use Rattle.dbpl_world.specs.Moments.{EachMoment}

-- a statement that prints these bytes and does nothing else
pub record Prints (program : StoredProgram) (action : Action) (bytes : List ℕ) : Type 0 where
  pub events : (database : List Bound) → events_by program (action ∷ []) database ≡ map Out bytes
  pub ends : (database : List Bound) → standing_by program (action ∷ []) database ≡ Ended

pub prints-line : (program : StoredProgram) (action : Action) (bytes : List ℕ) → action ≡ WriteLn → bytes ≡ 10 ∷ [] → Prints program action bytes
prints-line program action bytes is line = record {
  events = λ database. ap (λ (a : Action). events_by program (a ∷ []) database) is ∙ ap (λ (b : List ℕ). map Out b) (sym line);
  ends = λ database. ap (λ (a : Action). standing_by program (a ∷ []) database) is;
}

pub prints-text :
    (program : StoredProgram) (action : Action) (text bytes : List ℕ) → action ≡ WriteString text → bytes ≡ before_zero text →
    Prints program action bytes
prints-text program action text bytes is front = record {
  events = λ database. ap (λ (a : Action). events_by program (a ∷ []) database) is ∙ written-events program database text
      ∙ ap (λ (b : List ℕ). map Out b) (sym front);
  ends = λ database. ap (λ (a : Action). standing_by program (a ∷ []) database) is;
}

module _ (program : StoredProgram) (action : Action) (bytes : List ℕ) (prints : Prints program action bytes) (store : Store) where
  pub printed-last :
      (database other : List Bound) → other ≡ last (events_by program (action ∷ []) database) other
  printed-last database other =
      sym (ap (λ (events : List Event). last events other) (prints.events database) ∙ last-outs bytes other)

  module _ (h0 h1 : History) (opened : IsOpen (now h0) store) where
    pub printed-moments :
        ((database : List Bound) → StandsFor database (now h0) → EachMoment (LeavesTied (map Out bytes) database (now h0)) h0 h1) →
        EachMoment (LeavesTied (events_by program (action ∷ []) (database_in store)) (committed_of store) (now h0)) h0 h1
    printed-moments moments =
        subst (λ (events : List Event). EachMoment (LeavesTied events (committed_of store) (now h0)) h0 h1)
        (sym (prints.events (database_in store)))
        (moments (committed_of store) (open-stands (now h0) store opened))

    pub printed-made :
        {T : Type 0} (answer : Result T BodyErr) →
        ((database : List Bound) → StandsFor database (now h0) → OnOk answer (HasMade (map Out bytes) database (now h0) (now h1))) →
        OnOk answer (HasMade (events_by program (action ∷ []) (database_in store)) (committed_of store) (now h0) (now h1))
    printed-made answer made =
        subst (λ (events : List Event). OnOk answer (HasMade events (committed_of store) (now h0) (now h1)))
        (sym (prints.events (database_in store)))
        (made (committed_of store) (open-stands (now h0) store opened))

    pub printed-some :
        ((database : List Bound) → StandsFor database (now h0) → HasMadeSome (map Out bytes) database (now h0) (now h1)) →
        HasMadeSome (events_by program (action ∷ []) (database_in store)) (committed_of store) (now h0) (now h1)
    printed-some some =
        subst (λ (events : List Event). HasMadeSome events (committed_of store) (now h0) (now h1))
        (sym (prints.events (database_in store)))
        (some (committed_of store) (open-stands (now h0) store opened))

    pub printed-open : (now h1).disk ≡ (now h0).disk → IsOpen (now h1) store
    printed-open disk = open-kept (now h0) (now h1) store store disk refl refl opened
