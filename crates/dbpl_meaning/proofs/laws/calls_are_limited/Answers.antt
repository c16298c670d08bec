-- By the definition.
use Rattle.std.proofs.Common.{refl}
use Rattle.dbpl_meaning.proofs.Trees.{no-body, no-call, no-in_out, one-body, one-call, one-in_out, whole-bodies}
use Rattle.dbpl_meaning.proofs.laws.calls_are_limited.Goals as goal
use Rattle.dbpl_meaning.specs.Meaning.{limit}

pub returns-clause-limit : goal.returns-clause-limit
unfolding limit
returns-clause-limit c = refl

pub returns-clause-none : goal.returns-clause-none
returns-clause-none c = no-call

pub returns-clause-none_of_in_out : goal.returns-clause-none_of_in_out
returns-clause-none_of_in_out c = no-in_out

pub returns-clause-one : goal.returns-clause-one
returns-clause-one c = one-call

pub returns-clause-one_of_in_out : goal.returns-clause-one_of_in_out
returns-clause-one_of_in_out c = one-in_out

pub returns-clause-whole : goal.returns-clause-whole
returns-clause-whole c = whole-bodies

pub returns-clause-no_body : goal.returns-clause-no_body
returns-clause-no_body c = no-body

pub returns-clause-body : goal.returns-clause-body
returns-clause-body c = one-body
