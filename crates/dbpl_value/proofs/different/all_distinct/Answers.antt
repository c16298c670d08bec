use Rattle.std.proofs.Common.{ap, map, ◌∙◌}
use Rattle.dbpl_value.specs.Types.{are_different}
use Rattle.dbpl_value.proofs.SortedNames.{different-moved}
use Rattle.dbpl_value.proofs.different.all_distinct.Goals as goal

pub returns : goal.returns
returns c =
    c.are_neighbours_different.ensures (rw c.as_slice.ensures.value c.in_ok-sort.ensures.sorted)
    ∙ ap (λ names. are_different (map (λ x. x.now) names)) c.as_slice.ensures.value
    ∙ different-moved (λ x. x.now) c.args.names.items c.sort.new.self.items c.in_ok-sort.ensures.permutation
