use Rattle.std.proofs.Common.{◌≡◌, ℕ, ◌<◌, Bool, false, not, get_or}
use Rattle.dbpl_value.specs.declared.value.Value.{Value}
use Rattle.dbpl_relation.specs.Changes.{Computes}
use Rattle.dbpl_relation.proofs.faults.first_outside.Given as goal

abbrev pub invariant-loop-i : goal.invariant-loop-i
invariant-loop-i g l =
    (test : Value → Bool) → Computes g.F.Fn test l.inside → (k : ℕ) (d : Value) → k < l.i →
    not (test (get_or l.others k d)) ≡ false
