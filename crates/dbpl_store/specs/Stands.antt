-- Which database the two parts of a store stand for.
use Rattle.std.specs.Prelude.{◌≡◌, ◌⊎◌, ℕ, List, [], ◌∷◌, Option, Some}
use Rattle.std.specs.Option.{option_and_then}
use Rattle.dbpl_database.specs.Reading.{database_of}
use Rattle.dbpl_log.specs.Records.{records_of}
use Rattle.dbpl_value.specs.declared.bound.Bound.{Bound}
use Rattle.dbpl_world.specs.History.{State}
use Rattle.dbpl_world.specs.Images.{IsImage}

-- the database of the last record, or this one where there are none; each record has to spell a database
abbrev pub newest : List Bound → List (List ℕ) → Option (List Bound)
newest database [] = Some database
newest database (first ∷ others) = option_and_then (λ next. newest next others) (database_of first)

-- THE database that these parts stand for, if there is one. Nothing is kept in the pages.
unfoldable pub stands : List ℕ → List ℕ → Option (List Bound)
stands log pages = option_and_then (newest []) (records_of log)

-- Whatever a stop leaves of the mounted store stands for what P says. Of the world nothing but its disk has changed.
pub record LeavesDatabase (P : Option (List Bound) → Type 0) (old s : State) : Type 0 where
  pub left : (log pages : List ℕ) → IsImage s.disk.log log → IsImage s.disk.pages pages → P (stands log pages)
  pub others : s ≡ record old { disk = s.disk }

-- the one database or the other
abbrev pub IsEither : List Bound → List Bound → Option (List Bound) → Type 0
IsEither database other found = (found ≡ Some database) ⊎ (found ≡ Some other)

-- What a stop leaves of the mounted store is what it could leave at old. Of the world nothing but its disk has changed.
pub record LeavesOld (old s : State) : Type 0 where
  pub log : (left : List ℕ) → IsImage s.disk.log left → IsImage old.disk.log left
  pub pages : (left : List ℕ) → IsImage s.disk.pages left → IsImage old.disk.pages left
  pub others : s ≡ record old { disk = s.disk }
