-- Sixteen bytes of the log, and fewer.
use Rattle.std.proofs.Common.{rules, ◌≡◌, min, length, refl, arith}
use Rattle.dbpl_world.specs.History.{now}
use Rattle.dbpl_log.proofs.Heads.{head_literal, head_compared, head_too_short}
use Rattle.dbpl_log.proofs.head.has_head.Goals as goal

pub returns-then-count-eq16-clause-ok : goal.returns-then-count-eq16-clause-ok
returns-then-count-eq16-clause-ok g c told =
    head_compared c.read_at.new.into _ _ c.in_ok-count.count c.eq.result (search rules) head_literal c.eq.ensures c.if-count-eq16.true (c.in_ok-count.ensures.bytes told)

pub returns-else-count-eq16-clause-ok : goal.returns-else-count-eq16-clause-ok
returns-else-count-eq16-clause-ok g c told =
    let log = (now (g.W.World.history c.args.world.now)).disk.log.now in
    let count_is : c.in_ok-count.count ≡ min 16 (length log) = omega (arith, c.in_ok-count.ensures.ok told) in
    head_too_short log c.in_ok-count.count _ c.if-count-eq16.false count_is refl
