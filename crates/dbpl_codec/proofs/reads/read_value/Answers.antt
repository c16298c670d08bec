use Rattle.std.proofs.Common.{arith}
use Rattle.dbpl_codec.proofs.WholeLaws.{value_found, value_only}
use Rattle.dbpl_codec.proofs.reads.read_value.Goals as goal

pub returns-clause-found : goal.returns-clause-found
returns-clause-found c =
    value_found c.args.t.now c.args.bytes.now c.read_whole.result (λ i. omega (arith, c.type_inv.bytes i)) c.read_whole.ensures

pub returns-clause-only : goal.returns-clause-only
returns-clause-only c = λ type v typed fits e. value_only c.args.t.now c.args.bytes.now c.read_whole.result c.read_whole.ensures type v typed fits e
