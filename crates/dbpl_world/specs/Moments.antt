-- The one clock of a world, and what holds at each moment of a run.
use Rattle.std.specs.Prelude.{◌≡◌, ℕ, ◌≤◌, List, [], ◌∷◌, length, take}
use Rattle.dbpl_world.specs.Images.{IsImage}
use Rattle.dbpl_world.specs.History.{State, store_of, Event, step, replay, History, more, now}

-- The moment, as a number: how many events there were. A call without an event, as a read, stands at one moment.
abbrev pub clock : History → ℕ
clock h = length h.events

-- what the world was at that moment
abbrev pub state_at : History → ℕ → State
state_at h moment = replay h.start (take moment h.events)

-- A stop at some moment since t could have left these two parts of the store of that name, with these bytes said, all
-- that were ever said.
pub record Might (h : History) (name : List ℕ) (t : ℕ) (log pages said : List ℕ) : Type 0 where
  pub moment : ℕ
  pub since : t ≤ moment
  pub until : moment ≤ clock h
  pub log_left : IsImage (store_of (state_at h moment) name).log log
  pub pages_left : IsImage (store_of (state_at h moment) name).pages pages
  pub said_is : said ≡ (state_at h moment).said

-- a state, and each one that these events lead to
abbrev pub Always : (State → Type 0) → State → List Event → Type 0
Always Q s [] = Q s
Always Q s (event ∷ events) = Q s × Always Q (step s event) events

-- each image of the mounted store, with all bytes said
abbrev pub LeavesOnly : (List ℕ → List ℕ → List ℕ → Type 0) → State → Type 0
LeavesOnly P s = (log pages : List ℕ) → IsImage s.disk.log log → IsImage s.disk.pages pages → P log pages s.said

-- each image of the store of that name, mounted or not, with the bytes said
abbrev pub LeavesOnlyAt : List ℕ → (List ℕ → List ℕ → List ℕ → Type 0) → State → Type 0
LeavesOnlyAt name P s = (log pages : List ℕ) → IsImage (store_of s name).log log → IsImage (store_of s name).pages pages → P log pages s.said

-- From old on, at each moment up to new, this holds of the world.
pub record EachMoment (Q : State → Type 0) (old new : History) : Type 0 where
  pub events : List Event
  pub is : new ≡ more old events
  pub each : Always Q (now old) events
