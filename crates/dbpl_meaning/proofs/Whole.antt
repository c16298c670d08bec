-- What the laws of phrases say of whole programs.
use Rattle.std.proofs.Common.{◌≡◌, ◌+◌, ◌≤◌, ℕ, List, ◌++◌, arith, refl}
use Rattle.dbpl_core.specs.Events.{Event}
use Rattle.dbpl_core.specs.declared.program.Program.{Program}
use Rattle.dbpl_meaning.proofs.Goes.{Goes, goes-here}
use Rattle.dbpl_meaning.proofs.Steady.{Follows}
use Rattle.dbpl_meaning.proofs.Trees.{steady_bodies}
use Rattle.dbpl_meaning.specs.Meaning.{Ended, Going, ProgramOutcome, bodies, begun, meaning, outcome_at, outcome_of, runs, standing}
use Rattle.dbpl_meaning.specs.State as phrase
use Rattle.dbpl_meaning.specs.State.{Doing, Done, Ran, State, Stop, Stops, state_in}
use Rattle.dbpl_value.specs.declared.bound.Bound.{Bound}

-- An outcome goes on to another; and where it is no longer going, it is the other.
pub record GoesOn (less further : ProgramOutcome) : Type 0 where
  pub rest : List Event
  pub events : further.events ≡ less.events ++ rest
  pub taken : List ℕ
  pub input : less.input ≡ taken ++ further.input
  pub works : less.work ≤ further.work
  pub stays : (less.stands ≡ Going → ⊥) → further ≡ less

further-state : (ran : Ran (Unit {0})) (state : State) → Goes state.work state.store (state_in ran) →
    GoesOn (outcome_at Going state) (outcome_of ran)
further-state (Done done further) state goes = record {
  rest = goes.rest;
  events = goes.events;
  taken = goes.taken;
  input = goes.input;
  works = goes.works;
  stays = λ h. absurd (h refl);
}
further-state (Stops why further) state goes = record {
  rest = goes.rest;
  events = goes.events;
  taken = goes.taken;
  input = goes.input;
  works = goes.works;
  stays = λ h. absurd (h refl);
}

same-outcome : (outcome : ProgramOutcome) (state : State) → outcome.events ≡ state.store.events → outcome.input ≡ state.store.input →
    outcome.work ≡ state.work → GoesOn outcome outcome
same-outcome outcome state events input work =
    let here = goes-here state in
    record {
      rest = here.rest;
      events = rw (events) here.events;
      taken = here.taken;
      input = rw (input) here.input;
      works = omega arith;
      stays = λ h. refl;
    }

outcomes-on :
    (others : ℕ) (ran further : Ran (Unit {0})) → Follows others ran further → GoesOn (outcome_of ran) (outcome_of further)
outcomes-on others (Done done state) further follows =
    rw follows.2 (same-outcome (outcome_at Ended state) state refl refl refl)
outcomes-on others (Stops phrase.Going state) further follows = further-state further state follows
outcomes-on others (Stops why state) further follows =
    rw follows.2 (same-outcome (outcome_at (standing why) state) state refl refl refl)

pub meaning-goes_on :
    (program : Program) (database : List Bound) (input : List ℕ) (turns others : ℕ) →
    GoesOn (meaning program database input turns) (meaning program database input (turns + others))
unfolding meaning runs
meaning-goes_on program database input turns others =
    let start = begun program database input turns in
    outcomes-on others (bodies program program.order start)
    (bodies program program.order (record start { left = turns + others }))
    ((steady_bodies program program.order).on others (turns + others) start refl)

pub runs-paid :
    (program : Program) (database : List Bound) (input : List ℕ) (turns : ℕ) →
    turns ≤ (state_in (runs program database input turns)).left + (state_in (runs program database input turns)).work
unfolding runs
runs-paid program database input turns =
    let paid = (steady_bodies program program.order).keeps.paid (begun program database input turns) in omega (arith, paid)

pub runs-fewer :
    (program : Program) (database : List Bound) (input : List ℕ) (turns : ℕ) →
    (state_in (runs program database input turns)).left ≤ turns
unfolding runs
runs-fewer program database input turns =
    (steady_bodies program program.order).keeps.fewer (begun program database input turns)
