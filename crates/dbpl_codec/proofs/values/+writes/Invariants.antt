use Rattle.std.proofs.Common.{◌≡◌, ◌++◌, take, true}
use Rattle.std.specs.List.{flat_map, list_all, zip}
use Rattle.dbpl_codec.specs.ValueSpelling.{bytes_of, value_fits}
use Rattle.dbpl_codec.proofs.values.+writes.Given as goal

abbrev pub invariant-append_all-loop-part : goal.invariant-append_all-loop-part
invariant-append_all-loop-part l =
    (l.out.items ≡ l.fn.out.items ++ flat_map (bytes_of l.t) (take l.part-index l.parts))
    × (list_all (value_fits l.t) (take l.part-index l.parts) ≡ true)

abbrev pub invariant-append_fields-loop-i : goal.invariant-append_fields-loop-i
invariant-append_fields-loop-i l =
    (l.out.items ≡ l.fn.out.items ++ flat_map (λ pair. bytes_of pair.0.kind pair.1) (take l.i (zip l.fields l.parts)))
    × (list_all (λ pair. value_fits pair.0.kind pair.1) (take l.i (zip l.fields l.parts)) ≡ true)
