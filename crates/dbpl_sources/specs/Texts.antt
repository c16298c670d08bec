-- Which text a file has.
use Rattle.std.specs.Prelude.{◌≡◌, ℕ, ◌≤◌, IfSome, List, Option, Some, length}
use Rattle.dbpl_base.specs.declared.limits.TheConstants.{SOURCE_BYTES}
use Rattle.dbpl_world.specs.Files.{Files, file_of}

-- Where the files are told, this one has this text. It keeps the limit.
pub record MayHave (files : Option Files) (file text : List ℕ) : Type 0 where
  pub told : IfSome files (λ files. file_of files file ≡ Some text)
  pub within : length text ≤ SOURCE_BYTES
