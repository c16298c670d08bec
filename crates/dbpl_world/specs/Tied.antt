-- What a world in memory holds for its calls, and that it agrees with what its history says.
use Rattle.std.specs.Prelude.{◌≡◌, ℕ, List, [], take, fold, bytes_eq, Option, Some, None, if◌then◌else◌}
use Rattle.dbpl_world.specs.declared.store_bytes.StoreBytes.{StoreBytes}
use Rattle.dbpl_world.specs.History.{Store, settled_store, State, store_of, Event, History, AllReadAnImage}

-- the log and the pages of the last store of that name, or two empty parts
abbrev pub last_contents_of : List StoreBytes → List ℕ → List ℕ × List ℕ
last_contents_of stores name = fold (λ found store. if bytes_eq store.name.items name then (store.log.items, store.pages.items) else found) ([], []) stores

-- a store whose parts were synced with these bytes
abbrev pub store_with : List ℕ × List ℕ → Store
store_with parts = settled_store parts.0 parts.1

-- a world with this input and these stores, before any call
abbrev pub start_of : List ℕ → List StoreBytes → State
start_of input stores = record { input = input; said = []; noted = []; mounted = None; disk = settled_store [] []; others = λ name. store_with (last_contents_of stores name) }

-- the history of a world that began with the first `put` of these stores
abbrev pub history_in : List ℕ → List StoreBytes → ℕ → List Event → History
history_in input stores put events = record { start = start_of input (take put stores); events = events }

-- what a read of the log and one of the pages gives
abbrev pub reads_of : Store → List ℕ × List ℕ
reads_of store = (store.log.now, store.pages.now)

-- the same of the store of that name, where the mounted one reads as `mounted_parts`
abbrev pub contents_of : Option (List ℕ) → List ℕ × List ℕ → List StoreBytes → List ℕ → List ℕ × List ℕ
contents_of None mounted_parts stores name = last_contents_of stores name
contents_of (Some mounted) mounted_parts stores name = if bytes_eq mounted name then mounted_parts else last_contents_of stores name

pub record IsHeld (s : State) (mounted : Option (List ℕ)) (input said noted log pages : List ℕ) (stores : List StoreBytes) : Type 0 where
  pub input_is : s.input ≡ input
  pub said_is : s.said ≡ said
  pub noted_is : s.noted ≡ noted
  pub mounted_is : s.mounted ≡ mounted
  pub log_is : s.disk.log.now ≡ log
  pub pages_is : s.disk.pages.now ≡ pages
  pub stores_are : (name : List ℕ) → reads_of (store_of s name) ≡ contents_of mounted (log, pages) stores name
  pub images_are : AllReadAnImage s
