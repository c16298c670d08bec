use Rattle.std.proofs.Common.{◌≡◌, IsSorted, drop, map, nat_cmp}
use Rattle.std.specs.Cmp.Lexicographic.{slice_cmp}
use Rattle.std.specs.List.{list_all, list_any}
use Rattle.dbpl_value.specs.Types.{is_same_name}
use Rattle.dbpl_value.proofs.key_fields.are_among.Given as goal

abbrev pub invariant-loop-key : goal.invariant-loop-key
invariant-loop-key l =
    IsSorted (λ x y. slice_cmp nat_cmp x.now y.now) l.names →
    list_all (λ key. list_any (is_same_name key) (map (λ name. name.now) l.names)) (drop l.key-index l.keys)
    ≡ list_all (λ key. list_any (is_same_name key) (map (λ name. name.now) l.names)) l.keys
