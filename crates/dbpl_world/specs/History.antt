-- What has happened in a world, event by event, and what the world is after it.
use Rattle.std.specs.Prelude.{ℕ, List, [], ◌∷◌, ◌++◌, drop, bytes_eq, Option, Some, None, if◌then◌else◌}
use Rattle.dbpl_world.specs.declared.part.Part.{Part}
use Rattle.dbpl_world.specs.declared.part.Part.TheVariants.{Log, Pages}
use Rattle.dbpl_world.specs.Images.{PartState, IsImage, settled, after_write, after_failed_write}

-- A store has two parts, which a stop tears each on its own.
pub record Store : Type 0 where
  pub log : PartState
  pub pages : PartState

abbrev pub part_of : Part → Store → PartState
part_of Log store = store.log
part_of Pages store = store.pages

-- the store with that part changed
abbrev pub in_part : Part → (PartState → PartState) → Store → Store
in_part Log change store = record store { log = change store.log }
in_part Pages change store = record store { pages = change store.pages }

-- a store whose parts were synced with these bytes
abbrev pub settled_store : List ℕ → List ℕ → Store
settled_store log pages = record { log = settled log; pages = settled pages }

-- A world at one moment: the input left, the bytes said and noted, the mounted store, and each other store by its name.
pub record State : Type 0 where
  pub input : List ℕ
  pub said : List ℕ
  pub noted : List ℕ
  pub mounted : Option (List ℕ)
  pub disk : Store
  pub others : List ℕ → Store

-- the store of that name where the mounted one, if any, is disk
abbrev pub store_among : Option (List ℕ) → Store → (List ℕ → Store) → List ℕ → Store
store_among None disk others name = others name
store_among (Some mounted) disk others name = if bytes_eq mounted name then disk else others name

-- the store of that name, mounted or not
abbrev pub store_of : State → List ℕ → Store
store_of s name = store_among s.mounted s.disk s.others name

-- What happens. A byte said or noted is an event of its own, so that a stop within a call is a moment like any other.
pub data Event : Type 0 where
  -- the store of this name was mounted
  Mounted : List ℕ → Event
  -- this many bytes of the input were taken
  Took : ℕ → Event
  Said : ℕ → Event
  Noted : ℕ → Event
  -- these bytes were written at that place
  Wrote : Part → ℕ → List ℕ → Event
  -- a write of so many bytes at that place failed, and a read now gives these bytes
  Smeared : Part → ℕ → ℕ → List ℕ → Event
  -- a sync succeeded
  Synced : Part → Event

abbrev pub step : State → Event → State
step s (Mounted name) = record s { mounted = Some name; disk = store_of s name; others = store_of s }
step s (Took count) = record s { input = drop count s.input }
step s (Said byte) = record s { said = s.said ++ byte ∷ [] }
step s (Noted byte) = record s { noted = s.noted ++ byte ∷ [] }
step s (Wrote part at bytes) = record s { disk = in_part part (after_write at bytes) s.disk }
step s (Smeared part at count bytes) = record s { disk = in_part part (after_failed_write at count bytes) s.disk }
step s (Synced part) = record s { disk = in_part part (λ synced. settled synced.now) s.disk }

abbrev pub replay : State → List Event → State
replay s [] = s
replay s (event ∷ events) = replay (step s event) events

-- All that has happened: where the world began, and the events since, the oldest first.
pub record History : Type 0 where
  pub start : State
  pub events : List Event

-- the same with more events behind
abbrev pub more : History → List Event → History
more h events = record { start = h.start; events = h.events ++ events }

-- what the world is now
unfoldable pub now : History → State
now h = replay h.start h.events

-- What a read gives is one of the images of each part of a store.
pub record ReadsAnImage (store : Store) : Type 0 where
  pub log : IsImage store.log store.log.now
  pub pages : IsImage store.pages store.pages.now

-- the same of each store of a world
pub record AllReadAnImage (s : State) : Type 0 where
  pub disk : ReadsAnImage s.disk
  pub others : (name : List ℕ) → ReadsAnImage (s.others name)

-- one of two by the part
abbrev pub by_part : {A : Type 0} → Part → A → A → A
by_part Log log pages = log
by_part Pages log pages = pages
