use Rattle.std.proofs.Common.{◌≡◌, ◌+◌, ◌-◌, ◌*◌, ◌^◌, ◌≤◌, IsTrue, length}
use Rattle.std.specs.List.{AllWithin}
use Rattle.std.specs.declared.cmp.Ordering.TheVariants.{Greater, Less}
use Rattle.dbpl_value.specs.Keys.{key_cmp, key_from, key_of, keys_rise}
use Rattle.dbpl_relation.proofs.lookup.find_in.Given as goal

abbrev pub invariant-loop-low : goal.invariant-loop-low
invariant-loop-low g l = record {
  ordered : l.low ≤ l.high;
  within : l.high ≤ length l.records;
  started : l.fn.steps ≤ l.steps;
  halved : (l.high - l.low) * 2 ^ (l.steps - l.fn.steps) ≤ length l.records;
  taken : 2 ^ (l.steps - l.fn.steps) ≤ 2 * length l.records + 1;
  below : IsTrue (keys_rise l.t l.records) → AllWithin (λ element. key_cmp (key_of l.t element) (key_from l.key) ≡ Less) l.records 0 l.low;
  above : IsTrue (keys_rise l.t l.records) → AllWithin (λ element. key_cmp (key_of l.t element) (key_from l.key) ≡ Greater) l.records l.high (length l.records);
}

abbrev pub decreases-loop-low : goal.decreases-loop-low
decreases-loop-low g l = l.high - l.low
