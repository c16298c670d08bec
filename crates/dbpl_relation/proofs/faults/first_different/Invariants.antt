use Rattle.std.proofs.Common.{◌≡◌, ℕ, ◌<◌, false, get_or}
use Rattle.std.specs.Prelude.{IsTrue}
use Rattle.dbpl_value.specs.Keys.{keys_rise}
use Rattle.dbpl_value.specs.declared.value.Value.{Value}
use Rattle.dbpl_relation.specs.Changes.{clashes, everywhere}
use Rattle.dbpl_relation.specs.declared.op.Op.TheVariants as op
use Rattle.dbpl_relation.proofs.faults.first_different.Given as goal

abbrev pub invariant-loop-i : goal.invariant-loop-i
invariant-loop-i l =
    IsTrue (keys_rise l.t l.records) → (k : ℕ) (d : Value) → k < l.i →
    clashes l.t op.Add everywhere l.records (get_or l.others k d) ≡ false
