use Rattle.dbpl_rules_expr.proofs.Fitted.{one_more_element}
use Rattle.dbpl_rules_expr.proofs.aggregates.fitted_elements.Goals as goal

pub loop-part-preserved : goal.loop-part-preserved
loop-part-preserved c =
    one_more_element c.args.t.now c.loop-part.yielded c.in-Some.part c.loop-part.trees _ c.fitted_element.result
    c.loop-part.invariant c.fitted_element.ensures c.in_ok-trees.ensures
