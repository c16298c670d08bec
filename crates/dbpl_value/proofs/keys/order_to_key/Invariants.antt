use Rattle.std.proofs.Common.{◌≡◌, drop}
use Rattle.std.specs.Cmp.Lexicographic.{slice_cmp}
use Rattle.dbpl_value.proofs.KeysLemmas.{given_cmp}
use Rattle.dbpl_value.proofs.keys.order_to_key.Given as goal

abbrev pub invariant-loop-i : goal.invariant-loop-i
invariant-loop-i l =
    slice_cmp (given_cmp l.t l.element) l.keys l.key
    ≡ slice_cmp (given_cmp l.t l.element) (drop l.i l.keys) (drop l.i l.key)
