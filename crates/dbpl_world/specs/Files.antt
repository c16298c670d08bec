-- The files of a shelf, and what a fetch answers.
use Rattle.std.specs.Prelude.{◌≡◌, ℕ, ◌<◌, List, [], ◌∷◌, length, bytes_eq, Bool, true, false, Option, Some, None, Vec, map, Result, Ok, Err, if◌then◌else◌}
use Rattle.dbpl_world.specs.declared.shelf_err.ShelfErr.{ShelfErr}
use Rattle.dbpl_world.specs.declared.shelf_err.ShelfErr.TheVariants.{Failed, TooLong, Memory}

-- files by their names: a name and its bytes each
abbrev pub Files : Type 0
Files = List (List ℕ × List ℕ)

-- the bytes of the first file of that name
abbrev pub file_of : Files → List ℕ → Option (List ℕ)
file_of [] name = None
file_of (file ∷ files) name = if bytes_eq file.0 name then Some file.1 else file_of files name

-- Which answer a fetch of that name under this limit gives, by cases. The cases exclude each other.
abbrev pub Answers : Files → List ℕ → ℕ → Result Bool ShelfErr → List ℕ → Type 0
Answers files name limit (Ok true) bytes = file_of files name ≡ Some bytes
Answers files name limit (Ok false) bytes = file_of files name ≡ None
Answers files name limit (Err TooLong) bytes = (whole : List ℕ) × (file_of files name ≡ Some whole) × (limit < length whole)
Answers files name limit (Err Failed) bytes = Unit {0}
Answers files name limit (Err Memory) bytes = Unit {0}

-- the same where the files are told
abbrev pub Fetches : Option Files → List ℕ → ℕ → Result Bool ShelfErr → List ℕ → Type 0
Fetches None name limit result bytes = Unit {0}
Fetches (Some files) name limit result bytes = Answers files name limit result bytes

-- the files that a list of names and bytes holds
abbrev pub entries : {A : Type 0} → List (Vec ℕ A × Vec ℕ A) → Files
entries files = map (λ file. (file.0.items, file.1.items)) files
