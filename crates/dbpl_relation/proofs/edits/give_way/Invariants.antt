use Rattle.std.proofs.Common.{◌≡◌, Bool, length, reverse}
use Rattle.std.specs.Prelude.{IsTrue}
use Rattle.dbpl_value.specs.declared.value.Value.{Value}
use Rattle.dbpl_relation.specs.Changes.{Computes, replaced}
use Rattle.dbpl_relation.specs.Relations.{are_records}
use Rattle.dbpl_relation.proofs.edits.give_way.Given as goal

abbrev pub invariant-loop-element : goal.invariant-loop-element
invariant-loop-element g l = record {
  records : IsTrue (are_records l.t l.records.items);
  others : IsTrue (are_records l.t (reverse l.left));
  same :
      (test : Value → Bool) → Computes g.F.Fn test l.inside →
      replaced l.t test l.fn.records.items (reverse l.fn.from_last) ≡ replaced l.t test l.records.items (reverse l.left);
}

abbrev pub decreases-loop-element : goal.decreases-loop-element
decreases-loop-element g l = length l.left
