use Rattle.std.proofs.Common.{rules, ◌≡◌, ◌+◌, ◌≤◌, ◌-◌, ◌∙◌, ap, min, map, take, length, refl, arith}
use Rattle.std.proofs.lemmas.Result.{err_from_is_err_and}
use Rattle.dbpl_world.specs.History.{Noted, more}
use Rattle.dbpl_world.proofs.Fronts.{adds_more, moved_within}
use Rattle.dbpl_world.proofs.CountLaws.{note_then}
use Rattle.dbpl_world.proofs.whole.note_all.Goals as goal

pub returns-in_err-done-clause-err : goal.returns-in_err-done-clause-err
returns-in_err-done-clause-err g c told =
    let step = c.in_err-done.ensures.err told in
    let p = err_from_is_err_and c.from_residual.result c.from_residual.ensures.1 in
    rw p.1 (_, adds_more Noted c.args.bytes.now c.loop-done.done _ step.0 _ _ _ _ refl (c.loop-done.invariant.noted told) step.1)

pub loop-done-preserved : goal.loop-done-preserved
loop-done-preserved g c =
    let room = length c.args.bytes.now - c.loop-done.done in
    let within : c.loop-done.done + c.in_ok-done.field-0 ≤ length c.args.bytes.now = moved_within _ _ _ c.loop-done.invariant.within c.in_ok-done.ensures.count.0 in
    let whole : min c.in_ok-done.field-0 room ≡ c.in_ok-done.field-0 = omega arith in
    record {
      within = within;
      noted = λ told. adds_more Noted c.args.bytes.now c.loop-done.done room c.in_ok-done.field-0 _ _ _ _ refl (c.loop-done.invariant.noted told) (c.in_ok-done.ensures.ok told) ∙ ap (λ n. more (g.W.World.history c.args.world.now) (map Noted (take (c.loop-done.done + n) c.args.bytes.now))) whole;
      same = search rules;
      counts = note_then c.loop-done.invariant.counts c.in_ok-done.ensures.counts;
    }
