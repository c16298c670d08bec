use Rattle.std.proofs.Common.{arith}
use Rattle.dbpl_database.proofs.Given.{type_given}
use Rattle.dbpl_database.proofs.reading.type_from.Goals as goal

pub returns-clause-reads : goal.returns-clause-reads
returns-clause-reads c =
    type_given c.args.bytes.now c.read_type.result (λ i. omega (arith, c.type_inv.bytes i)) c.read_type.ensures.found
    c.read_type.ensures.only
