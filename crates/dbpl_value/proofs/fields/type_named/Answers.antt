use Rattle.std.proofs.Common.{◌≡◌, true, sym, ◌∙◌}
use Rattle.dbpl_value.specs.Types.{is_same_name}
use Rattle.dbpl_value.proofs.KeyTypes.{type_named-here}
use Rattle.dbpl_value.proofs.fields.type_named.Goals as goal

pub returns-then-eq : goal.returns-then-eq
returns-then-eq c =
    let same : is_same_name c.field-item.result.name c.args.name.now ≡ true = sym c.eq.ensures ∙ c.if-eq.true
    in
    sym (type_named-here c.args.t.now c.args.fields.now c.args.name.now c.loop-field.field-index c.field-item.result
    c.loop-field-test.true c.field-item.is same) ∙ c.loop-field.invariant
