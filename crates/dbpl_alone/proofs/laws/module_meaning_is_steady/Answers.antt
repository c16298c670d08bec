-- By the laws over any number of turns.
use Rattle.dbpl_alone.proofs.MeaningLaws.{commits_nothing, module_steady}
use Rattle.dbpl_alone.proofs.laws.module_meaning_is_steady.Goals as goal

pub returns-clause-steady : goal.returns-clause-steady
returns-clause-steady c = module_steady

pub returns-clause-commits : goal.returns-clause-commits
returns-clause-commits c = commits_nothing
