use Rattle.std.proofs.Common.{◌<◌, length, arith}
use Rattle.std.proofs.lemmas.Result.{err_from_is_err_and}
use Rattle.dbpl_world.specs.History.{Said}
use Rattle.dbpl_world.proofs.Fronts.{one_byte, adds_more}
use Rattle.dbpl_world.proofs.whole.say_all.Goals as goal

pub returns-in_err-say-clause-err : goal.returns-in_err-say-clause-err
returns-in_err-say-clause-err g c told =
    let step = c.in_err-say.ensures.err told in
    let within : c.loop-byte.byte-index < length c.args.bytes.now = omega arith in
    let p = err_from_is_err_and c.from_residual.result c.from_residual.ensures.1 in
    rw p.1 (_, adds_more Said c.args.bytes.now c.loop-byte.byte-index 1 step.0 _ _ _ _ (one_byte c.args.bytes.now c.loop-byte.byte-index within) (c.loop-byte.invariant.said told) step.1)
