-- What a shelf in memory tells.
use Rattle.std.specs.Prelude.{ℕ, ◌+◌, ◌-◌, ◌^◌, min, List, Bool, Result, Err}
use Rattle.dbpl_world.specs.declared.memory_shelf.MemoryShelf.{MemoryShelf}
use Rattle.dbpl_world.specs.declared.shelf_err.ShelfErr.{ShelfErr}
use Rattle.dbpl_world.specs.declared.shelf_err.ShelfErr.TheVariants.{Failed}
use Rattle.dbpl_world.specs.Files.{Files, entries}

abbrev pub files_in : MemoryShelf → Files
files_in shelf = entries shelf.files.items

-- the numbers of the fetches that fail, the number of the next one, and how many have failed
pub record ShelfRule : Type 0 where
  pub fails : List ℕ
  pub calls : ℕ
  pub faults : ℕ

abbrev pub shelf_rule : MemoryShelf → ShelfRule
shelf_rule shelf = record { fails = shelf.fails.items; calls = shelf.calls; faults = shelf.faults }

abbrev pub after_fetch : Result Bool ShelfErr → ShelfRule → ShelfRule
after_fetch (Err Failed) rule = record { fails = rule.fails; calls = min (rule.calls + 1) (2 ^ 64 - 1); faults = min (rule.faults + 1) (2 ^ 64 - 1) }
after_fetch _ rule = record rule { calls = min (rule.calls + 1) (2 ^ 64 - 1) }
