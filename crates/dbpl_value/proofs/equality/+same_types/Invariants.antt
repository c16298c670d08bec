use Rattle.std.proofs.Common.{◌≡◌, take}
use Rattle.dbpl_value.proofs.equality.+same_types.Given as goal

abbrev pub invariant-same_fields-loop-i : goal.invariant-same_fields-loop-i
invariant-same_fields-loop-i l = take l.i l.fields ≡ take l.i l.others
