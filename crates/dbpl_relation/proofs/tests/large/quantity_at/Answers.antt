use Rattle.std.proofs.Common.{◌-◌, arith}
use Rattle.dbpl_relation.proofs.Halving.{at_most_18}
use Rattle.dbpl_relation.proofs.tests.large.quantity_at.Goals as goal

pub returns : goal.returns
returns g c =
    let few = at_most_18 _ (c.find.new.steps - c.args.steps.now) c.requires.count c.find.ensures.cost in
    omega (arith, few)
