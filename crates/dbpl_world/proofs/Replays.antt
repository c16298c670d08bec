-- What a list of events does to a world.
use Rattle.std.proofs.Common.{◌≡◌, ℕ, List, [], ◌∷◌, ◌++◌, map, refl, ap, sym, ◌∙◌, append_assoc, append-nil}
use Rattle.dbpl_world.specs.History.{State, Event, Said, Noted, step, replay, History, more, now}

pub replay-append : (s : State) (first second : List Event) → replay s (first ++ second) ≡ replay (replay s first) second
replay-append s [] second = refl
replay-append s (event ∷ first) second = replay-append (step s event) first second

pub now-more : (h : History) (events : List Event) → now (more h events) ≡ replay (now h) events
unfolding now
now-more h events = replay-append h.start h.events events

pub more-more : (h : History) (first second : List Event) → more (more h first) second ≡ more h (first ++ second)
more-more h first second = ap (λ events. record h { events = events }) (append_assoc h.events first second)

pub replay-said : (s : State) (bytes : List ℕ) → replay s (map Said bytes) ≡ record s { said = s.said ++ bytes }
replay-said s [] = ap (λ said. record s { said = said }) (sym (append-nil s.said))
replay-said s (byte ∷ bytes) = replay-said (step s (Said byte)) bytes ∙ ap (λ said. record s { said = said }) (append_assoc s.said (byte ∷ []) bytes)

pub replay-noted : (s : State) (bytes : List ℕ) → replay s (map Noted bytes) ≡ record s { noted = s.noted ++ bytes }
replay-noted s [] = ap (λ noted. record s { noted = noted }) (sym (append-nil s.noted))
replay-noted s (byte ∷ bytes) = replay-noted (step s (Noted byte)) bytes ∙ ap (λ noted. record s { noted = noted }) (append_assoc s.noted (byte ∷ []) bytes)
