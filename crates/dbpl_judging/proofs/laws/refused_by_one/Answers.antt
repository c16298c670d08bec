-- The first breach is kept, or a lesser one.
use Rattle.dbpl_judging.proofs.Least.{least_is_there}
use Rattle.dbpl_judging.proofs.laws.refused_by_one.Goals as goal

pub returns : goal.returns
returns c = least_is_there
