-- How far the body of a program has come: the events that its statements made, and those to come.
use Rattle.std.proofs.Common.{◌≡◌, ◌∙◌, ◌+◌, ◌<◌, ◌≤◌, ℕ, List, [], ◌∷◌, ◌++◌, Bool, IsTrue, add-one, ap, append_assoc, append-nil, drop, get_or, length, refl, subst, sym, Some}
use Rattle.std.proofs.Math.Seq.{drop-cons}
use Rattle.std.proofs.lemmas.List.{drop_all}
use Rattle.dbpl_core.proofs.Events.{last-append}
use Rattle.dbpl_core.specs.Events.{Event, last, prints}
use Rattle.dbpl_stored_program.specs.Meaning.{Ended, Trapped}
use Rattle.dbpl_stored_program.specs.Whole.{Course, after_events, comes_to}
use Rattle.dbpl_stored_program.specs.declared.action.Action.{Action}
use Rattle.dbpl_stored_program.specs.declared.stored_program.StoredProgram.{StoredProgram}
use Rattle.dbpl_core.specs.declared.trap.Trap.{Trap}
use Rattle.dbpl_store.specs.Stores.{IsOpen, committed_of, database_in}
use Rattle.dbpl_store.specs.declared.store.Store.{Store}
use Rattle.dbpl_stored_run.proofs.Steps.{step-ended, step-front, step-trapped}
use Rattle.dbpl_stored_run.proofs.Stores.{open-stands}
use Rattle.dbpl_stored_run.proofs.Tying.{made-behind, moments-behind, moments-front, moments-still, some-all, some-behind, some-front}
use Rattle.dbpl_stored_run.specs.Headline.{HasMade, HasMadeSome, LeavesTied}
use Rattle.dbpl_stored_run.specs.Statements.{events_by, standing_by}
use Rattle.dbpl_value.specs.declared.bound.Bound.{Bound}
use Rattle.dbpl_world.specs.History.{History, now}
use Rattle.dbpl_world.specs.Moments.{EachMoment}

-- where the world tells: the run so far is tied to the events so far
pub record IsTold (events : List Event) (before store : Store) (h0 h : History) : Type 0 where
  pub moments : EachMoment (LeavesTied events (committed_of before) (now h0)) h0 h
  pub said : (now h).said ≡ (now h0).said ++ prints events
  pub opened : IsOpen (now h) store

-- The statements before these have made events, the whole of the body is these events and what these statements come to,
-- and the store holds what the events left.
pub record HasCome (program : StoredProgram) (actions : List Action) (tells : Bool) (before store : Store) (h0 h : History) : Type 0 where
  pub events : List Event
  pub whole : comes_to program program.body (database_in before) ≡ after_events events (comes_to program actions (database_in store))
  pub committed : committed_of store ≡ last events (committed_of before)
  pub holds : database_in store ≡ last events (database_in before)
  pub told : IsTrue tells → IsOpen (now h0) before → IsTold events before store h0 h

-- at the beginning
pub come-start : (program : StoredProgram) (tells : Bool) (store : Store) (h : History) → HasCome program program.body tells store store h h
come-start program tells store h = record {
  events = [];
  whole = refl;
  committed = refl;
  holds = refl;
  told = λ tells opened. record {
    moments = moments-still [] (committed_of store) h (open-stands (now h) store opened);
    said = sym (append-nil (now h).said);
    opened = opened;
  };
}

-- a course behind two lists of events
twice : (first second : List Event) (course : Course) → after_events first (after_events second course) ≡ after_events (first ++ second) course
twice first second course =
    ap (λ (events : List Event). record { events = events; stands = course.stands }) (sym (append_assoc first second course.events))

module _ (program : StoredProgram) (action : Action) (actions : List Action) (tells : Bool) (before store : Store) (h0 h : History)
    (come : HasCome program (action ∷ actions) tells before store h0 h) where
  -- the events of the next statement
  abbrev next : List Event
  next = events_by program (action ∷ []) (database_in store)

  -- after one more statement that came to its end
  pub come-on :
      (later : Store) (h1 : History) → standing_by program (action ∷ []) (database_in store) ≡ Ended →
      committed_of later ≡ last next (committed_of store) → database_in later ≡ last next (database_in store) →
      (IsTrue tells → IsOpen (now h) store → EachMoment (LeavesTied next (committed_of store) (now h)) h h1) →
      (IsTrue tells → IsOpen (now h) store → HasMade next (committed_of store) (now h) (now h1)) →
      (IsTrue tells → IsOpen (now h) store → IsOpen (now h1) later) →
      HasCome program actions tells before later h0 h1
  come-on later h1 ended committed holds moments made stays = record {
    events = come.events ++ next;
    whole = come.whole
        ∙ ap (λ (course : Course). after_events come.events course)
        (step-ended program (database_in store) action actions ended
        ∙ ap (λ (d : List Bound). after_events next (comes_to program actions d)) (sym holds))
        ∙ twice come.events next (comes_to program actions (database_in later));
    committed = committed ∙ ap (last next) come.committed ∙ sym (last-append come.events next (committed_of before));
    holds = holds ∙ ap (last next) come.holds ∙ sym (last-append come.events next (database_in before));
    told = λ told opened.
        let so_far = come.told told opened in
        record {
          moments = moments-behind come.events next (committed_of before) h0 h h1 so_far.moments so_far.said
              (subst (λ (d : List Bound). EachMoment (LeavesTied next d (now h)) h h1) come.committed (moments told so_far.opened));
          said = (made-behind come.events next (committed_of before) (now h0) (now h) (now h1) so_far.said
              (subst (λ (d : List Bound). HasMade next d (now h) (now h1)) come.committed (made told so_far.opened))).printed;
          opened = stays told so_far.opened;
        };
  }

  -- all events of the body begin with those so far and those of the next statement
  body-front : (rest : List Event) × (events_by program program.body (database_in before) ≡ (come.events ++ next) ++ rest)
  body-front =
      let front = step-front program (database_in store) action actions in (
        front.0,
        ap (λ (course : Course). course.events) come.whole
            ∙ ap (λ (events : List Event). come.events ++ events) front.1
            ∙ sym (append_assoc come.events next front.0),
      )

  -- wherever the next statement stops, the run is tied to the events of the whole body
  pub stopped-moments :
      (h1 : History) → IsTrue tells → IsOpen (now h0) before →
      (IsTrue tells → IsOpen (now h) store → EachMoment (LeavesTied next (committed_of store) (now h)) h h1) →
      EachMoment (LeavesTied (events_by program program.body (database_in before)) (committed_of before) (now h0)) h0 h1
  stopped-moments h1 told opened moments =
      let so_far = come.told told opened in
      subst (λ (events : List Event). EachMoment (LeavesTied events (committed_of before) (now h0)) h0 h1) (sym body-front.1)
      (moments-front (come.events ++ next) body-front.0 (committed_of before) h0 h1
      (moments-behind come.events next (committed_of before) h0 h h1 so_far.moments so_far.said
      (subst (λ (d : List Bound). EachMoment (LeavesTied next d (now h)) h h1) come.committed (moments told so_far.opened))))

  -- wherever it stops with some of its events made, the run has made some of the body's
  pub stopped-some :
      (h1 : History) → IsTrue tells → IsOpen (now h0) before →
      (IsTrue tells → IsOpen (now h) store → HasMadeSome next (committed_of store) (now h) (now h1)) →
      HasMadeSome (events_by program program.body (database_in before)) (committed_of before) (now h0) (now h1)
  stopped-some h1 told opened some =
      let so_far = come.told told opened in
      subst (λ (events : List Event). HasMadeSome events (committed_of before) (now h0) (now h1)) (sym body-front.1)
      (some-front (come.events ++ next) body-front.0 (committed_of before) (now h0) (now h1)
      (some-behind come.events next (committed_of before) (now h0) (now h) (now h1) so_far.said
      (subst (λ (d : List Bound). HasMadeSome next d (now h) (now h1)) come.committed (some told so_far.opened))))

  -- ---- where the next statement traps

  trapped-whole :
      (trap : Trap) → standing_by program (action ∷ []) (database_in store) ≡ Trapped trap →
      comes_to program program.body (database_in before) ≡ after_events come.events (comes_to program (action ∷ []) (database_in store))
  trapped-whole trap trapped =
      come.whole ∙ ap (λ (course : Course). after_events come.events course) (step-trapped program (database_in store) action actions trap trapped)

  pub trapped-so :
      (trap : Trap) → standing_by program (action ∷ []) (database_in store) ≡ Trapped trap →
      standing_by program program.body (database_in before) ≡ Trapped trap
  trapped-so trap trapped = ap (λ (course : Course). course.stands) (trapped-whole trap trapped) ∙ trapped

  -- then the body has made all its events
  pub trapped-made :
      (h1 : History) (trap : Trap) → IsTrue tells → IsOpen (now h0) before →
      standing_by program (action ∷ []) (database_in store) ≡ Trapped trap →
      (IsTrue tells → IsOpen (now h) store → HasMade next (committed_of store) (now h) (now h1)) →
      HasMade (events_by program program.body (database_in before)) (committed_of before) (now h0) (now h1)
  trapped-made h1 trap told opened trapped made =
      let so_far = come.told told opened in
      subst (λ (events : List Event). HasMade events (committed_of before) (now h0) (now h1))
      (sym (ap (λ (course : Course). course.events) (trapped-whole trap trapped)))
      (made-behind come.events next (committed_of before) (now h0) (now h) (now h1) so_far.said
      (subst (λ (d : List Bound). HasMade next d (now h) (now h1)) come.committed (made told so_far.opened)))

-- ---- at the end

module _ (program : StoredProgram) (tells : Bool) (before store : Store) (h0 h : History)
    (come : HasCome program [] tells before store h0 h) where
  all-events : come.events ≡ events_by program program.body (database_in before)
  all-events = sym (ap (λ (course : Course). course.events) come.whole ∙ append-nil come.events)

  pub ended-so : standing_by program program.body (database_in before) ≡ Ended
  ended-so = ap (λ (course : Course). course.stands) come.whole

  pub ended-moments :
      IsTrue tells → IsOpen (now h0) before →
      EachMoment (LeavesTied (events_by program program.body (database_in before)) (committed_of before) (now h0)) h0 h
  ended-moments told opened =
      subst (λ (events : List Event). EachMoment (LeavesTied events (committed_of before) (now h0)) h0 h) all-events
      (come.told told opened).moments

  pub ended-made :
      IsTrue tells → IsOpen (now h0) before →
      HasMade (events_by program program.body (database_in before)) (committed_of before) (now h0) (now h)
  ended-made told opened =
      let so_far = come.told told opened in
      subst (λ (events : List Event). HasMade events (committed_of before) (now h0) (now h)) all-events (record {
        printed = so_far.said;
        stored = λ log pages image torn.
            open-stands (now h) store so_far.opened log pages image torn ∙ ap (λ (d : List Bound). Some d) come.committed;
      })

  pub ended-some :
      IsTrue tells → IsOpen (now h0) before →
      HasMadeSome (events_by program program.body (database_in before)) (committed_of before) (now h0) (now h)
  ended-some told opened =
      some-all (events_by program program.body (database_in before)) (committed_of before) (now h0) (now h) (ended-made told opened)

-- ---- by the index of the next statement

-- the statements from an index on are that one and those behind it
pub from-index :
    (actions : List Action) (i : ℕ) (action : Action) → i < length actions → action ≡ get_or actions i action →
    drop i actions ≡ action ∷ drop (i + 1) actions
from-index actions i action within here =
    rw (drop-cons actions i action within, ← here, add-one) refl

pub past-end : (actions : List Action) (i : ℕ) → length actions ≤ i → drop i actions ≡ []
past-end actions i past = drop_all i actions past
