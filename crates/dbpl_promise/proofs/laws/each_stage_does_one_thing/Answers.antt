-- Stage by stage.
use Rattle.dbpl_promise.proofs.Stages.{all_bound_determined, ended_determined, named_determined, opened_determined}
use Rattle.dbpl_promise.proofs.laws.each_stage_does_one_thing.Goals as goal

pub returns-clause-named : goal.returns-clause-named
returns-clause-named c = named_determined

pub returns-clause-opened : goal.returns-clause-opened
returns-clause-opened c = opened_determined

pub returns-clause-bound : goal.returns-clause-bound
returns-clause-bound c = all_bound_determined

pub returns-clause-ended : goal.returns-clause-ended
returns-clause-ended c = ended_determined
