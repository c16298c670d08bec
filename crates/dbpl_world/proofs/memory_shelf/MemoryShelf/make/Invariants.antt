use Rattle.std.proofs.Common.{◌≡◌, take}
use Rattle.dbpl_world.specs.Files.{entries}
use Rattle.dbpl_world.proofs.memory_shelf.MemoryShelf.make.Given as goal

abbrev pub invariant-loop-name : goal.invariant-loop-name
invariant-loop-name l = entries l.copies.items ≡ entries (take l.name-index l.files)
