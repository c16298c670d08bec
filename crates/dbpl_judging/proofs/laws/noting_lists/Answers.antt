-- By recursion on the first list.
use Rattle.dbpl_judging.proofs.Least.{noting-append}
use Rattle.dbpl_judging.proofs.laws.noting_lists.Goals as goal

pub returns : goal.returns
returns c = noting-append
