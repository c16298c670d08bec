-- What a run comes to within some number of turns, and which events it has made by some moment. A meaning is a function of
-- the number of turns, since a run needn't end.
use Rattle.std.specs.Prelude.{◌≡◌, ◌≢◌, ℕ, ◌+◌, List, ◌++◌}
use Rattle.dbpl_base.specs.declared.status.Status.{Status}
use Rattle.dbpl_base.specs.declared.status.Status.TheVariants as status
use Rattle.dbpl_core.specs.Events.{Event}
use Rattle.dbpl_core.specs.declared.trap.Trap.{Trap}

-- How a run stands. It is going on where its turns were used up.
pub data Standing : Type 0 where
  Going : Standing
  Ended : Standing
  Trapped : Trap → Standing

-- What a run comes to within so many turns: its events, how it stands, and the input that is left.
pub record Outcome : Type 0 where
  pub events : List Event
  pub stands : Standing
  pub left : List ℕ

-- these events, and perhaps others behind them
abbrev pub IsPrefixOf : List Event → List Event → Type 0
IsPrefixOf made events = (rest : List Event) × (events ≡ made ++ rest)

-- THE events that a run may have made by some moment: a prefix of those that its meaning gives within some number of turns
abbrev pub MayHaveMade : (ℕ → Outcome) → List Event → Type 0
MayHaveMade means made = (turns : ℕ) × IsPrefixOf made (means turns).events

-- THE law of meanings: more turns only add events, and a run that has ended or trapped stays as it is.
pub record IsSteady (means : ℕ → Outcome) : Type 0 where
  pub extends : (turns others : ℕ) → IsPrefixOf (means turns).events (means (turns + others)).events
  pub stays : (turns others : ℕ) → (means turns).stands ≢ Going → means (turns + others) ≡ means turns

-- THE answer that tells how a run ended. One that goes on has none.
abbrev pub IsToldBy : Standing → Status → Type 0
IsToldBy Ended answer = answer ≡ status.Done
IsToldBy (Trapped trap) answer = answer ≡ status.Trapped trap.kind trap.place
IsToldBy Going answer = ⊥

-- the answer tells how a run ended
abbrev pub TellsOfEnd : Status → Type 0
TellsOfEnd status.Done = Unit {0}
TellsOfEnd (status.Trapped kind place) = Unit {0}
TellsOfEnd _ = ⊥
