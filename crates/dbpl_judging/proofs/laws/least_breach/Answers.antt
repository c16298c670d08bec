-- By what is kept while the breaches are noted.
use Rattle.dbpl_judging.proofs.Least.{least_first, least_is_one}
use Rattle.dbpl_judging.proofs.laws.least_breach.Goals as goal

pub returns-clause-one : goal.returns-clause-one
returns-clause-one c = least_is_one

pub returns-clause-first : goal.returns-clause-first
returns-clause-first c = least_first
