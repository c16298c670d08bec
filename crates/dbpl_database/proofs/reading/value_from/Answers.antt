use Rattle.std.proofs.Common.{arith}
use Rattle.dbpl_database.proofs.Given.{value_given}
use Rattle.dbpl_database.proofs.reading.value_from.Goals as goal

pub returns-clause-reads : goal.returns-clause-reads
returns-clause-reads c =
    value_given c.args.t.now c.args.bytes.now c.read_value.result (λ i. omega (arith, c.type_inv.bytes i)) c.requires.typed
    c.read_value.ensures.found (c.read_value.ensures.only c.requires.typed)
