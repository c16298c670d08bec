use Rattle.std.proofs.Common.{◌≡◌, drop}
use Rattle.dbpl_world.specs.Files.{entries, file_of}
use Rattle.dbpl_world.proofs.memory_shelf.find.Given as goal

abbrev pub invariant-loop-known : goal.invariant-loop-known
invariant-loop-known l = file_of (entries (drop l.known-index l.files)) l.name ≡ file_of (entries l.files) l.name
