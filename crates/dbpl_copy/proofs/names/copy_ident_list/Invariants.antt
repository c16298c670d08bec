use Rattle.std.proofs.Common.{◌≡◌, take}
use Rattle.dbpl_copy.proofs.names.copy_ident_list.Given as goal

abbrev pub invariant-loop-other : goal.invariant-loop-other
invariant-loop-other l = l.copied ≡ take l.other-index l.others
