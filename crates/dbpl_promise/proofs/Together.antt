-- What holds at each moment, several facts at once: from one history to another there is one list of events.
use Rattle.std.proofs.Common.{◌≡◌, ◌∙◌, List, [], ◌∷◌, ap, subst, sym}
use Rattle.std.proofs.lemmas.List.{append_cancel_left}
use Rattle.dbpl_world.specs.History.{Event, History, State, now, step}
use Rattle.dbpl_world.specs.Moments.{Always, EachMoment}

always_all : {X : Type 0} (Q : X → State → Type 0) (s : State) (events : List Event) →
    ((x : X) → Always (Q x) s events) → Always (λ t. (x : X) → Q x t) s events
always_all Q s [] each = each
always_all Q s (event ∷ events) each = (λ x. (each x).0, always_all Q (step s event) events (λ x. (each x).1))

-- the events of two such facts are the same
same_events : (Q R : State → Type 0) (old new : History) (one : EachMoment Q old new) (other : EachMoment R old new) →
    one.events ≡ other.events
same_events Q R old new one other =
    append_cancel_left old.events one.events other.events (ap (λ (h : History). h.events) (sym one.is ∙ other.is))

-- what holds for each x at each moment holds at each moment for each x
pub moments_all : {X : Type 0} (Q : X → State → Type 0) (R : State → Type 0) (old new : History) → EachMoment R old new →
    ((x : X) → EachMoment (Q x) old new) → EachMoment (λ t. (x : X) → Q x t) old new
moments_all Q R old new some each = record {
  events = some.events;
  is = some.is;
  each = always_all Q (now old) some.events
      (λ x. subst (Always (Q x) (now old)) (same_events (Q x) R old new (each x) some) (each x).each);
}

always_both : (Q R : State → Type 0) (s : State) (events : List Event) → Always Q s events → Always R s events →
    Always (λ t. Q t × R t) s events
always_both Q R s [] one other = (one, other)
always_both Q R s (event ∷ events) one other = ((one.0, other.0), always_both Q R (step s event) events one.1 other.1)

pub moments_both : (Q R : State → Type 0) (old new : History) → EachMoment Q old new → EachMoment R old new →
    EachMoment (λ t. Q t × R t) old new
moments_both Q R old new one other = record {
  events = one.events;
  is = one.is;
  each = always_both Q R (now old) one.events one.each
      (subst (Always R (now old)) (same_events R Q old new other one) other.each);
}
