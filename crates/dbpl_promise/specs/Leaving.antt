-- What is left as it was, and what is made sure of.
use Rattle.std.specs.Prelude.{◌≡◌, ℕ, List}
use Rattle.dbpl_world.specs.History.{State, Store, settled_store, store_of}
use Rattle.dbpl_world.specs.Images.{IsImage}

-- Since old a stop leaves of each store only what it could leave then, and nothing was said or taken.
pub record IsUntouched (old s : State) : Type 0 where
  pub log : (name left : List ℕ) → IsImage (store_of s name).log left → IsImage (store_of old name).log left
  pub pages : (name left : List ℕ) → IsImage (store_of s name).pages left → IsImage (store_of old name).pages left
  pub said : s.said ≡ old.said
  pub input : s.input ≡ old.input

-- the store once both parts are synced
abbrev pub made_sure : Store → Store
made_sure store = settled_store store.log.now store.pages.now
