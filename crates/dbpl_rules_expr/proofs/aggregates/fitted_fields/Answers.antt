use Rattle.std.proofs.Common.{map, refl, sym, ◌∙◌}
use Rattle.dbpl_rules_expr.proofs.Fitted.{none_fitted, one_counted, one_more_field}
use Rattle.dbpl_rules_expr.proofs.aggregates.fitted_fields.Goals as goal

pub loop-part-init : goal.loop-part-init
loop-part-init c = (c.new-trees.ensures ∙ sym (none_fitted (map (λ field. field.kind) c.args.fields.now)), refl, refl)

pub loop-part-preserved : goal.loop-part-preserved
loop-part-preserved c = (
  one_more_field c.args.fields.now c.loop-part.number c.loop-part.yielded c.in-Some.part c.loop-part.trees _ c.fitted_field.result
      c.loop-part.invariant.0 c.loop-part.invariant.1 c.fitted_field.ensures.fitted c.in_ok-trees.ensures,
  one_counted c.loop-part.number _ c.loop-part.yielded c.in-Some.part c.loop-part.invariant.1 c.in_ok-number.ensures,
  c.fitted_field.ensures.same ∙ c.loop-part.invariant.2,
)

pub returns-clause-same : goal.returns-clause-same
returns-clause-same c = c.loop-part.invariant.2
