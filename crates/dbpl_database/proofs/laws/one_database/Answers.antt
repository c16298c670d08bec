use Rattle.dbpl_database.proofs.DatabaseLaws.{database_of-completes}
use Rattle.dbpl_database.proofs.laws.one_database.Goals as goal

pub returns : goal.returns
returns c = database_of-completes
