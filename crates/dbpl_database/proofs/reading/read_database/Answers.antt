use Rattle.std.proofs.Common.{arith}
use Rattle.dbpl_database.proofs.DatabaseLaws.{database_found}
use Rattle.dbpl_database.proofs.reading.read_database.Goals as goal

pub returns-clause-found : goal.returns-clause-found
returns-clause-found c =
    database_found c.args.bytes.now c.risen_database.result (λ i. omega (arith, c.type_inv.bytes i)) c.risen_database.ensures
