use Rattle.std.proofs.Common.{◌≡◌, take}
use Rattle.dbpl_copy.proofs.units.copy_imports.Given as goal

abbrev pub invariant-loop-import : goal.invariant-loop-import
invariant-loop-import l = l.copied ≡ take l.import-index l.imports
