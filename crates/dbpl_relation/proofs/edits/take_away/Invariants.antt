use Rattle.std.proofs.Common.{◌≡◌, length}
use Rattle.std.specs.Prelude.{IsTrue}
use Rattle.dbpl_relation.specs.Changes.{everywhere, removed}
use Rattle.dbpl_relation.specs.Relations.{are_records}
use Rattle.dbpl_relation.proofs.edits.take_away.Given as goal

abbrev pub invariant-loop-other : goal.invariant-loop-other
invariant-loop-other l = record {
  sound : IsTrue (are_records l.t l.records.items);
  same : removed everywhere l.fn.records.items l.fn.others ≡ removed everywhere l.records.items l.left;
}

abbrev pub decreases-loop-other : goal.decreases-loop-other
decreases-loop-other l = length l.left
