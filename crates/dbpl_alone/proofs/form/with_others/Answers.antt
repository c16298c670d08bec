-- Each turn puts one statement behind those so far, or finds one of another form.
use Rattle.std.proofs.Common.{Some, sym, ap, ◌∙◌}
use Rattle.dbpl_alone.proofs.TurnLaw.{turn_more, turn_none}
use Rattle.dbpl_alone.proofs.form.with_others.Goals as goal

pub returns-in_default : goal.returns-in_default
returns-in_default c =
    sym (turn_none c.args.first c.args.others.now c.loop-statement.statement-index c.statement-item.result c.statement-item.is
    c.loop-statement-test.true (sym c.in_ok-next.ensures ∙ c.in_default.is))

pub loop-statement-preserved : goal.loop-statement-preserved
loop-statement-preserved c =
    turn_more c.args.first c.args.others.now c.loop-statement.statement-index c.statement-item.result c.loop-statement.all c.in-Some.next
    c.statement-item.is c.loop-statement-test.true c.loop-statement.invariant (sym c.in_ok-next.ensures ∙ c.in-Some.is)
    ∙ ap Some (sym c.in_ok-push-2.ensures.ok)
