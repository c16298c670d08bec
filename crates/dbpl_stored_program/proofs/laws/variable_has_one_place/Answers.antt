-- By recursion on the database.
use Rattle.dbpl_stored_program.proofs.Databases.{bound-is_there, named-at, with_relation-at}
use Rattle.dbpl_stored_program.proofs.laws.variable_has_one_place.Goals as goal

pub returns-clause-found : goal.returns-clause-found
returns-clause-found c = named-at

pub returns-clause-put : goal.returns-clause-put
returns-clause-put c = with_relation-at

pub returns-clause-there : goal.returns-clause-there
returns-clause-there c = bound-is_there
