use Rattle.std.proofs.Common.{◌≡◌, ◌+◌, ◌≤◌, length, reverse}
use Rattle.std.specs.Prelude.{IsTrue, vec_capacity, vec_len}
use Rattle.dbpl_value.specs.Keys.{keys_rise}
use Rattle.dbpl_relation.specs.Relations.{merged}
use Rattle.dbpl_relation.proofs.edits.put_all.Given as goal

abbrev pub invariant-loop-element : goal.invariant-loop-element
invariant-loop-element l = record {
  rising : IsTrue (keys_rise l.t l.records.items);
  room : vec_len l.records + length l.left ≤ vec_capacity l.records;
  same : merged l.t l.fn.records.items (reverse l.fn.from_last) ≡ merged l.t l.records.items (reverse l.left);
}

abbrev pub decreases-loop-element : goal.decreases-loop-element
decreases-loop-element l = length l.left
