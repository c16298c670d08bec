-- What an open store keeps of its database.
use Rattle.std.specs.Prelude.{◌≡◌, ◌<◌, ◌^◌, ℕ, List, [], length, IsTrue, Option, is_some}
use Rattle.std.specs.Option.{unwrap_or}
use Rattle.dbpl_database.specs.Reading.{database_of}
use Rattle.dbpl_database.specs.Spelling.{database_bytes, database_fits}
use Rattle.dbpl_value.specs.declared.bound.Bound.{Bound}

-- the one spelling of the database, and a log can hold it
pub record IsSpelt (database : List Bound) (bytes : List ℕ) : Type 0 where
  pub is : bytes ≡ database_bytes database
  pub fits : IsTrue (database_fits database)
  pub short : length bytes < 2 ^ 32

-- What is kept of the last commit spells a database. What is there for the next commit spells the database, and where
-- nothing is, the last commit does.
pub record IsKept (stored : List ℕ) (database : List Bound) (changed : Option (List ℕ)) : Type 0 where
  pub stored_spells : IsTrue (is_some (database_of stored))
  pub stored_is : stored ≡ database_bytes (unwrap_or (database_of stored) [])
  pub spells : IsSpelt database (unwrap_or changed stored)
