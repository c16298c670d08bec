-- The record of a world in memory: its calls in order, and behind one another the bytes that they moved.
use Rattle.std.specs.Prelude.{◌≡◌, ℕ, ◌+◌, List, [], ◌∷◌, ◌++◌, map, take, drop}
use Rattle.dbpl_world.specs.declared.made_call.Call.{Call}
use Rattle.dbpl_world.specs.declared.made_call.Call.TheVariants.{Mount, Take, Say, Note, Size, Read, Write, Sync, Failed}
use Rattle.dbpl_world.specs.declared.made_call.MadeCall.{MadeCall}
use Rattle.dbpl_world.specs.History.{Event, Mounted, Took, Said, Noted, Wrote, Synced}

-- how many of the recorded bytes belong to a call
abbrev pub bytes_of : Call → ℕ
bytes_of (Mount count) = count
bytes_of (Take count) = 0
bytes_of (Say count) = count
bytes_of (Note count) = count
bytes_of (Size part) = 0
bytes_of (Read part at count) = 0
bytes_of (Write part at count) = count
bytes_of (Sync part) = 0
bytes_of Failed = 0

-- what happened in a call that moved these bytes
abbrev pub events_of : Call → List ℕ → List Event
events_of (Mount count) bytes = Mounted bytes ∷ []
events_of (Take count) bytes = Took count ∷ []
events_of (Say count) bytes = map Said bytes
events_of (Note count) bytes = map Noted bytes
events_of (Size part) bytes = []
events_of (Read part at count) bytes = []
events_of (Write part at count) bytes = Wrote part at bytes ∷ []
events_of (Sync part) bytes = Synced part ∷ []
events_of Failed bytes = []

abbrev pub events_in : List MadeCall → List ℕ → List Event
events_in [] bytes = []
events_in (made ∷ calls) bytes = events_of made.call (take (bytes_of made.call) bytes) ++ events_in calls (drop (bytes_of made.call) bytes)

abbrev pub total_bytes : List MadeCall → ℕ
total_bytes [] = 0
total_bytes (made ∷ calls) = bytes_of made.call + total_bytes calls

-- A call that moved no bytes that are recorded, and after which nothing has happened.
pub record ChangesNothing (call : Call) : Type 0 where
  pub bytes : bytes_of call ≡ 0
  pub events : events_of call [] ≡ []
