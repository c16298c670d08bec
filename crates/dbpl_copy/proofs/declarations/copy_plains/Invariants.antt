use Rattle.std.proofs.Common.{◌≡◌, take}
use Rattle.dbpl_copy.proofs.declarations.copy_plains.Given as goal

abbrev pub invariant-loop-d : goal.invariant-loop-d
invariant-loop-d l = l.copied ≡ take l.d-index l.ds
