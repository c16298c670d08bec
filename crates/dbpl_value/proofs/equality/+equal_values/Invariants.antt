use Rattle.std.proofs.Common.{◌≡◌, take}
use Rattle.dbpl_value.proofs.equality.+equal_values.Given as goal

abbrev pub invariant-all_equal-loop-i : goal.invariant-all_equal-loop-i
invariant-all_equal-loop-i l = take l.i l.parts ≡ take l.i l.others
