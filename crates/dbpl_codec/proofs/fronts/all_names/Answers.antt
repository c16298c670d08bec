use Rattle.std.proofs.Common.{sym, ◌∙◌}
use Rattle.std.proofs.lemmas.Result.{err_from_is_err_and}
use Rattle.dbpl_codec.specs.TypeReading.{name_at}
use Rattle.dbpl_codec.proofs.ReadingSteps.{fails, passes, repeat-done, repeat-step}
use Rattle.dbpl_codec.proofs.fronts.all_names.Goals as goal

pub returns-in_err-one : goal.returns-in_err-one
returns-in_err-one c =
    let p = err_from_is_err_and c.from_residual.result c.from_residual.ensures.1 in
    rw (p.1, p.2) (λ ne. sym c.loop-at.invariant ∙ fails _ (name_at c.loop-at.rest.now) _ (repeat-step name_at c.args.count c.loop-at._at c.loop-at.found c.loop-at.rest.now c.loop-at-test.true) (c.in_err-one.ensures ne))

pub loop-at-preserved : goal.loop-at-preserved
loop-at-preserved c =
    rw c.in_ok-push.ensures.ok
    (sym (passes _ (name_at c.loop-at.rest.now) _ (c.in_ok-one.one, c.in_ok-one.after.now) (repeat-step name_at c.args.count c.loop-at._at c.loop-at.found c.loop-at.rest.now c.loop-at-test.true) c.in_ok-one.ensures) ∙ c.loop-at.invariant)

pub returns : goal.returns
returns c =
    sym c.loop-at.invariant
    ∙ repeat-done name_at c.args.count c.loop-at._at c.loop-at.found c.loop-at.rest.now c.loop-at-test.false
