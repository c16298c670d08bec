-- Why a source file could not be read.
use Rattle.std.specs.Prelude.{◌≡◌, ℕ, ◌<◌, List, length, Option, Some, None, IfSome}
use Rattle.dbpl_base.specs.declared.limits.TheConstants.{SOURCE_BYTES}
use Rattle.dbpl_world.specs.Files.{Files, file_of}

-- where the files are told, there is none of this name
abbrev pub IsAbsent : Option Files → List ℕ → Type 0
IsAbsent files name = IfSome files (λ files. file_of files name ≡ None)

-- where the files are told, the one of this name passes the limit
abbrev pub IsTooLong : Option Files → List ℕ → Type 0
IsTooLong files name =
    IfSome files (λ files. (text : List ℕ) × (file_of files name ≡ Some text) × (SOURCE_BYTES < length text))
