use Rattle.std.proofs.Common.{◌≡◌, false}
use Rattle.std.specs.List.{AllAdjacentBelow}
use Rattle.dbpl_value.specs.Types.{is_same_name}
use Rattle.dbpl_value.proofs.different.are_neighbours_different.Given as goal

abbrev pub invariant-loop-i : goal.invariant-loop-i
invariant-loop-i l = AllAdjacentBelow (λ x y. is_same_name x.now y.now ≡ false) l.names l.i
