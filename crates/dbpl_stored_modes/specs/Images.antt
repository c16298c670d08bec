-- What a stop leaves of the store of a name.
use Rattle.std.specs.Prelude.{◌≡◌, ℕ, List, Some}
use Rattle.dbpl_store.specs.Stands.{stands}
use Rattle.dbpl_value.specs.declared.bound.Bound.{Bound}
use Rattle.dbpl_world.specs.History.{State, store_of}
use Rattle.dbpl_world.specs.Images.{IsImage}

-- each image of the store of this name
abbrev pub EachImage : List ℕ → State → (List ℕ → List ℕ → Type 0) → Type 0
EachImage name s P =
    (log pages : List ℕ) → IsImage (store_of s name).log log → IsImage (store_of s name).pages pages → P log pages

-- each image of it stands for this database
abbrev pub StandsThere : List ℕ → State → List Bound → Type 0
StandsThere name s database = EachImage name s (λ log pages. stands log pages ≡ Some database)
