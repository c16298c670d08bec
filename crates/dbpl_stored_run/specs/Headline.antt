-- What was said and what a stop leaves of the store, tied to one prefix of a list of events.
use Rattle.std.specs.Prelude.{◌≡◌, ℕ, List, ◌++◌, Some}
use Rattle.dbpl_core.specs.Events.{Event, last, prints}
use Rattle.dbpl_store.specs.Stands.{stands}
use Rattle.dbpl_value.specs.declared.bound.Bound.{Bound}
use Rattle.dbpl_world.specs.History.{State}
use Rattle.dbpl_world.specs.Images.{IsImage}

-- whatever a stop leaves of the mounted store stands for this database
abbrev pub StandsFor : List Bound → State → Type 0
StandsFor database s =
    (log pages : List ℕ) → IsImage s.disk.log log → IsImage s.disk.pages pages → stands log pages ≡ Some database

-- Some prefix of the events, those made, printed what was said behind the bytes before, and the two parts stand for the
-- database of its last commit. Where there is none in it, they stand for this database.
pub record HasMadePrefix (events : List Event) (database : List Bound) (before log pages said : List ℕ) : Type 0 where
  pub made : List Event
  pub rest : List Event
  pub prefix : events ≡ made ++ rest
  pub printed : said ≡ before ++ prints made
  pub stored : stands log pages ≡ Some (last made database)

-- Whatever a stop leaves of the mounted store is tied to what was said since old. Of the world nothing else has changed.
pub record LeavesTied (events : List Event) (database : List Bound) (old s : State) : Type 0 where
  pub left : (log pages : List ℕ) → IsImage s.disk.log log → IsImage s.disk.pages pages →
      HasMadePrefix events database old.said log pages s.said
  pub others : s ≡ record old { disk = s.disk; said = s.said }

-- All of these events were made since old: what they print was said, and whatever a stop leaves of the mounted store
-- stands for the database of the last commit.
pub record HasMade (events : List Event) (database : List Bound) (old s : State) : Type 0 where
  pub printed : s.said ≡ old.said ++ prints events
  pub stored : StandsFor (last events database) s

-- Some of the events, the first ones, were made since old, and whatever a stop leaves is of these.
pub record HasMadeSome (events : List Event) (database : List Bound) (old s : State) : Type 0 where
  pub made : List Event
  pub rest : List Event
  pub prefix : events ≡ made ++ rest
  pub has : HasMade made database old s
