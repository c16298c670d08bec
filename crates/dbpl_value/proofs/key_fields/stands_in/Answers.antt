use Rattle.std.proofs.Common.{ap, map, ◌∙◌}
use Rattle.std.specs.List.{list_any}
use Rattle.dbpl_value.specs.Types.{is_same_name}
use Rattle.dbpl_value.proofs.SortedNames.{found}
use Rattle.dbpl_value.proofs.key_fields.stands_in.Goals as goal

pub returns : goal.returns
returns c = λ sorted.
    c.is_ok.ensures.value
    ∙ found (λ x. x.now) c.as_bytes.result.now c.args.names.now c.binary_search.result sorted c.binary_search.ensures.bound
    c.binary_search.ensures.position
    ∙ ap (λ name. list_any (is_same_name name) (map (λ x. x.now) c.args.names.now)) c.as_bytes.ensures
