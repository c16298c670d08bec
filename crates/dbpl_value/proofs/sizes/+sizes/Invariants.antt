use Rattle.std.proofs.Common.{◌≡◌, ◌-◌, ◌^◌, min, take}
use Rattle.std.specs.Prelude.{sum_by}
use Rattle.std.specs.List.{zip}
use Rattle.dbpl_value.specs.Sizes.{size_of}
use Rattle.dbpl_value.proofs.sizes.+sizes.Given as goal

abbrev pub invariant-size_of_all-loop-part : goal.invariant-size_of_all-loop-part
invariant-size_of_all-loop-part l = l.total ≡ min (sum_by (size_of l.t) (take l.part-index l.parts)) (2 ^ 64 - 1)

abbrev pub invariant-size_of_fields-loop-i : goal.invariant-size_of_fields-loop-i
invariant-size_of_fields-loop-i l =
    l.total ≡ min (sum_by (λ pair. size_of pair.0.kind pair.1) (take l.i (zip l.fields l.parts))) (2 ^ 64 - 1)
