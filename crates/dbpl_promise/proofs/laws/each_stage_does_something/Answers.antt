-- Stage by stage.
use Rattle.dbpl_promise.proofs.Decided.{all_bound_decided, ended_decided, named_decided, opened_decided}
use Rattle.dbpl_promise.proofs.laws.each_stage_does_something.Goals as goal

pub returns-clause-named : goal.returns-clause-named
returns-clause-named c = named_decided

pub returns-clause-opened : goal.returns-clause-opened
returns-clause-opened c = opened_decided

pub returns-clause-bound : goal.returns-clause-bound
returns-clause-bound c = all_bound_decided

pub returns-clause-ended : goal.returns-clause-ended
returns-clause-ended c = ended_decided
