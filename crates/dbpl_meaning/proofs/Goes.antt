-- How a run goes on: events are only added, input is only taken, work is only done, and turns are only used.
use Rattle.std.proofs.Common.{◌≡◌, ◌+◌, ◌≤◌, ℕ, List, [], ◌++◌, ap, append_assoc, arith, refl, sym, ◌∙◌}
use Rattle.std.proofs.lemmas.List.{append-nil}
use Rattle.dbpl_core.specs.Events.{Event}
use Rattle.dbpl_core.specs.Stores.{Store}
use Rattle.dbpl_meaning.specs.State.{Doing, State, state_in}

-- a state goes on from this work and this store
pub record Goes (work : ℕ) (store : Store) (further : State) : Type 0 where
  pub rest : List Event
  pub events : further.store.events ≡ store.events ++ rest
  pub taken : List ℕ
  pub input : store.input ≡ taken ++ further.store.input
  pub works : work ≤ further.work

pub goes-on : (work : ℕ) (store : Store) (state further : State) → Goes work store state → Goes state.work state.store further → Goes work store further
goes-on work store state further one other = record {
  rest = one.rest ++ other.rest;
  events = other.events ∙ ap (λ (events : List Event). events ++ other.rest) one.events ∙ append_assoc store.events one.rest other.rest;
  taken = one.taken ++ other.taken;
  input = one.input ∙ ap (λ (input : List ℕ). one.taken ++ input) other.input ∙ sym (append_assoc one.taken other.taken further.store.input);
  works = omega (arith, one.works, other.works);
}

-- no event and no input, and work that is no less
pub goes-same :
    (work : ℕ) (store : Store) (further : State) → further.store.events ≡ store.events → further.store.input ≡ store.input →
    work ≤ further.work → Goes work store further
goes-same work store further events input works = record {
  rest = [];
  events = events ∙ sym (append-nil store.events);
  taken = [];
  input = sym input;
  works = works;
}

pub goes-here : (state : State) → Goes state.work state.store state
goes-here state = goes-same state.work state.store state refl refl (omega arith)

-- THE law of a phrase by itself: from each state it goes on, has no more turns left afterwards, and has done at least one work
-- for each turn that it used
pub record Keeps {A : Type 0} (phrase : Doing A) : Type 0 where
  pub goes : (state : State) → Goes state.work state.store (state_in (phrase state))
  pub fewer : (state : State) → (state_in (phrase state)).left ≤ state.left
  pub paid : (state : State) → state.left + state.work ≤ (state_in (phrase state)).left + (state_in (phrase state)).work
