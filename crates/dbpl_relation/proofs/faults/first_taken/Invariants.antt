use Rattle.std.proofs.Common.{◌≡◌, ℕ, ◌<◌, Bool, false, get_or}
use Rattle.std.specs.Prelude.{IsTrue}
use Rattle.dbpl_value.specs.Keys.{keys_rise}
use Rattle.dbpl_value.specs.declared.value.Value.{Value}
use Rattle.dbpl_relation.specs.Changes.{Computes, clashes}
use Rattle.dbpl_relation.specs.declared.op.Op.TheVariants as op
use Rattle.dbpl_relation.proofs.faults.first_taken.Given as goal

abbrev pub invariant-loop-i : goal.invariant-loop-i
invariant-loop-i g l =
    (test : Value → Bool) → Computes g.F.Fn test l.inside → IsTrue (keys_rise l.t l.records) → (k : ℕ) (d : Value) →
    k < l.i → clashes l.t op.Set test l.records (get_or l.others k d) ≡ false
