use Rattle.dbpl_log.proofs.Creating.{nothing_begins}
use Rattle.dbpl_log.proofs.laws.nothing_may_begin.Goals as goal

pub returns : goal.returns
returns c = nothing_begins
