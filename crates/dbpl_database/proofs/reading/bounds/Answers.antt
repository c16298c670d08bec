use Rattle.std.proofs.Common.{sym, ◌∙◌}
use Rattle.std.proofs.lemmas.Result.{err_from_is_err_and}
use Rattle.dbpl_database.specs.Reading.{bound_at}
use Rattle.dbpl_codec.proofs.ReadingSteps.{fails, passes, repeat-done, repeat-step}
use Rattle.dbpl_database.proofs.reading.bounds.Goals as goal

pub returns-in_err-bound : goal.returns-in_err-bound
returns-in_err-bound c =
    let p = err_from_is_err_and c.from_residual.result c.from_residual.ensures.1 in
    rw (p.1, p.2) (λ ne. sym c.loop-at.invariant ∙ fails _ (bound_at c.loop-at.rest.now) _ (repeat-step bound_at c.args.count c.loop-at._at c.loop-at.database c.loop-at.rest.now c.loop-at-test.true) (c.in_err-bound.ensures ne))

pub loop-at-preserved : goal.loop-at-preserved
loop-at-preserved c =
    rw c.in_ok-push.ensures.ok
    (sym (passes _ (bound_at c.loop-at.rest.now) _ (c.in_ok-bound.bound, c.in_ok-bound.after.now) (repeat-step bound_at c.args.count c.loop-at._at c.loop-at.database c.loop-at.rest.now c.loop-at-test.true) c.in_ok-bound.ensures) ∙ c.loop-at.invariant)

pub returns : goal.returns
returns c =
    sym c.loop-at.invariant
    ∙ repeat-done bound_at c.args.count c.loop-at._at c.loop-at.database c.loop-at.rest.now c.loop-at-test.false
