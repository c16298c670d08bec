-- By the laws of each effect.
use Rattle.dbpl_core.proofs.Stores.{closes-opens, says-prints, says-says}
use Rattle.dbpl_core.proofs.laws.effects_of_stores.Goals as goal

pub returns-clause-says : goal.returns-clause-says
returns-clause-says c = says-says

pub returns-clause-printed : goal.returns-clause-printed
returns-clause-printed c = says-prints

pub returns-clause-ended : goal.returns-clause-ended
returns-clause-ended c = closes-opens
