use Rattle.std.proofs.Common.{◌≡◌, drop}
use Rattle.std.specs.Cmp.Lexicographic.{slice_cmp}
use Rattle.dbpl_value.proofs.KeysLemmas.{named_cmp}
use Rattle.dbpl_value.proofs.keys.key_order.Given as goal

abbrev pub invariant-loop-key : goal.invariant-loop-key
invariant-loop-key l =
    slice_cmp (named_cmp l.t l.a l.b) l.key-items l.key-items
    ≡ slice_cmp (named_cmp l.t l.a l.b) (drop l.key-index l.key-items) (drop l.key-index l.key-items)
