use Rattle.std.proofs.Common.{◌≡◌, map, take}
use Rattle.dbpl_value.specs.declared.value.Value.TheVariants as value
use Rattle.dbpl_stored_program.proofs.sets.record_in.Given as goal

abbrev pub invariant-loop-number : goal.invariant-loop-number
invariant-loop-number l = l.numbers ≡ map value.Num (take l.number-index l.row)
