use Rattle.std.proofs.Common.{◌≡◌, take}
use Rattle.dbpl_copy.proofs.declarations.copy_params.Given as goal

abbrev pub invariant-loop-section : goal.invariant-loop-section
invariant-loop-section l = l.sections ≡ take l.section-index l.params.sections
