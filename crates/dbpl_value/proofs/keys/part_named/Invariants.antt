use Rattle.std.proofs.Common.{◌≡◌, drop}
use Rattle.dbpl_value.specs.Keys.{part_named}
use Rattle.dbpl_value.proofs.keys.part_named.Given as goal

abbrev pub invariant-loop-i : goal.invariant-loop-i
invariant-loop-i l = part_named l.fields l.parts l.name ≡ part_named (drop l.i l.fields) (drop l.i l.parts) l.name
