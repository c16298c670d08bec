use Rattle.std.proofs.Common.{ap, map, ◌∙◌}
use Rattle.std.specs.List.{list_any}
use Rattle.dbpl_value.specs.Types.{is_key_field, is_same_name}
use Rattle.dbpl_value.proofs.KeyFields.{all-same, any_key}
use Rattle.dbpl_value.proofs.SortedNames.{any-moved}
use Rattle.dbpl_value.proofs.key_fields.are_key_fields.Goals as goal

pub returns : goal.returns
returns c =
    c.are_among.ensures (rw c.as_slice.ensures.value c.in_ok-sort.ensures.sorted)
    ∙ all-same (λ key. list_any (is_same_name key) (map (λ x. x.now) c.as_slice.result.now))
    (λ key. list_any (is_key_field key) c.args.fields.now)
    (λ key.
    ap (λ names. list_any (is_same_name key) (map (λ x. x.now) names)) c.as_slice.ensures.value
    ∙ any-moved (λ x. x.now) key c.in_ok-names.names.items c.sort.new.self.items c.in_ok-sort.ensures.permutation
    ∙ ap (list_any (is_same_name key)) c.in_ok-names.ensures
    ∙ any_key key c.args.fields.now)
    c.args.keys.now
