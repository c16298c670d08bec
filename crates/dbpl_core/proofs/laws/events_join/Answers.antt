-- By recursion on the first list.
use Rattle.dbpl_core.proofs.Events.{last-append, prints-append}
use Rattle.dbpl_core.proofs.laws.events_join.Goals as goal

pub returns-clause-prints : goal.returns-clause-prints
returns-clause-prints c = prints-append

pub returns-clause-last : goal.returns-clause-last
returns-clause-last c = last-append
