-- One statement after another.
use Rattle.std.proofs.Common.{◌+◌, ◌∷◌, ◌∙◌, List, drop, inr, refl, subst, sym}
use Rattle.dbpl_stored_program.specs.declared.action.Action.{Action}
use Rattle.dbpl_stored_run.proofs.Answering.{counts-same, counts-then, handed, no-ok}
use Rattle.dbpl_stored_run.proofs.Progress.{HasCome, come-on, come-start, ended-made, ended-moments, ended-so, ended-some, from-index, past-end, stopped-moments, stopped-some, trapped-made, trapped-so}
use Rattle.dbpl_stored_run.proofs.Tying.{only-none, only-then}
use Rattle.dbpl_stored_run.proofs.WrittenOut.{fine-since, fine-where}
use Rattle.dbpl_world.proofs.CountLaws.{rose_since}
use Rattle.dbpl_stored_run.proofs.statements.act_all.Goals as goal

pub loop-action-init : goal.loop-action-init
loop-action-init g c = record {
  come = subst (λ (actions : List Action). HasCome c.args.program.now actions g.W.World.tells c.args.store.now c.args.store.now
      (g.W.World.history c.args.world.now) (g.W.World.history c.args.world.now)) (sym c.as_slice-action-items.ensures)
      (come-start c.args.program.now g.W.World.tells c.args.store.now (g.W.World.history c.args.world.now));
  bound = c.requires.bound;
  still = c.requires.still;
  only = λ told. only-none (g.W.World.history c.args.world.now);
  same = refl;
  counts = counts-same (g.W.World.counts c.args.world.now);
  fine = refl;
  disk = refl;
}

pub loop-action-preserved : goal.loop-action-preserved
loop-action-preserved g c =
    let items = c.as_slice-action-items.result.now in
    let i = c.loop-action.action-index in
    let h0 = g.W.World.history c.args.world.now in
    let h = g.W.World.history c.loop-action.world in
    let come : HasCome c.args.program.now (c.action-item.result ∷ drop (i + 1) items) g.W.World.tells c.args.store.now c.loop-action.store h0 h =
    subst (λ (actions : List Action). HasCome c.args.program.now actions g.W.World.tells c.args.store.now c.loop-action.store h0 h)
    (from-index items i c.action-item.result c.loop-action-test.true c.action-item.is) c.loop-action.invariant.come
    in
    record {
      come = come-on c.args.program.now c.action-item.result (drop (i + 1) items) g.W.World.tells c.args.store.now
          c.loop-action.store h0 h come c.act.new.store (g.W.World.history c.act.new.world) c.in_ok-act.ensures.ended
          c.in_ok-act.ensures.committed c.in_ok-act.ensures.database c.act.ensures.moments c.in_ok-act.ensures.made
          c.in_ok-act.ensures.opened;
      bound = c.in_ok-act.ensures.bound;
      still = c.in_ok-act.ensures.still;
      only = λ told. only-then h0 h (g.W.World.history c.act.new.world) (c.loop-action.invariant.only told) (c.act.ensures.only told);
      same = c.act.ensures.same ∙ c.loop-action.invariant.same;
      counts = counts-then _ _ _ c.loop-action.invariant.counts c.act.ensures.counts;
      fine = fine-where c.act.result _ c.in_ok-act.was c.act.ensures.out_fault_where ∙ c.loop-action.invariant.fine;
      disk = fine-where c.act.result _ c.in_ok-act.was c.act.ensures.disk_fault_where ∙ c.loop-action.invariant.disk;
    }

pub returns-in_err-act-clause-moments : goal.returns-in_err-act-clause-moments
returns-in_err-act-clause-moments g c = λ told opened.
    let items = c.as_slice-action-items.result.now in
    let i = c.loop-action.action-index in
    let h0 = g.W.World.history c.args.world.now in
    let h = g.W.World.history c.loop-action.world in
    let come : HasCome c.args.program.now (c.action-item.result ∷ drop (i + 1) items) g.W.World.tells c.args.store.now c.loop-action.store h0 h =
    subst (λ (actions : List Action). HasCome c.args.program.now actions g.W.World.tells c.args.store.now c.loop-action.store h0 h)
    (from-index items i c.action-item.result c.loop-action-test.true c.action-item.is) c.loop-action.invariant.come
    in
    stopped-moments c.args.program.now c.action-item.result (drop (i + 1) items) g.W.World.tells c.args.store.now
    c.loop-action.store h0 h come (g.W.World.history c.act.new.world) told opened c.act.ensures.moments

pub returns-in_err-act-clause-trapped : goal.returns-in_err-act-clause-trapped
returns-in_err-act-clause-trapped g c = λ trap is.
    let items = c.as_slice-action-items.result.now in
    let i = c.loop-action.action-index in
    let h0 = g.W.World.history c.args.world.now in
    let h = g.W.World.history c.loop-action.world in
    let come : HasCome c.args.program.now (c.action-item.result ∷ drop (i + 1) items) g.W.World.tells c.args.store.now c.loop-action.store h0 h =
    subst (λ (actions : List Action). HasCome c.args.program.now actions g.W.World.tells c.args.store.now c.loop-action.store h0 h)
    (from-index items i c.action-item.result c.loop-action-test.true c.action-item.is) c.loop-action.invariant.come
    in
    let same = c.in_err-act.was ∙ sym (handed c.from_residual.result _ c.from_residual.ensures.1) in
    trapped-so c.args.program.now c.action-item.result (drop (i + 1) items) g.W.World.tells c.args.store.now
    c.loop-action.store h0 h come trap (c.act.ensures.trapped trap (same ∙ is))

pub returns-in_err-act-clause-made_trapped : goal.returns-in_err-act-clause-made_trapped
returns-in_err-act-clause-made_trapped g c = λ told opened trap is.
    let items = c.as_slice-action-items.result.now in
    let i = c.loop-action.action-index in
    let h0 = g.W.World.history c.args.world.now in
    let h = g.W.World.history c.loop-action.world in
    let come : HasCome c.args.program.now (c.action-item.result ∷ drop (i + 1) items) g.W.World.tells c.args.store.now c.loop-action.store h0 h =
    subst (λ (actions : List Action). HasCome c.args.program.now actions g.W.World.tells c.args.store.now c.loop-action.store h0 h)
    (from-index items i c.action-item.result c.loop-action-test.true c.action-item.is) c.loop-action.invariant.come
    in
    let same = c.in_err-act.was ∙ sym (handed c.from_residual.result _ c.from_residual.ensures.1) in
    trapped-made c.args.program.now c.action-item.result (drop (i + 1) items) g.W.World.tells c.args.store.now
    c.loop-action.store h0 h come (g.W.World.history c.act.new.world) trap told opened (c.act.ensures.trapped trap (same ∙ is))
    (λ t o. c.act.ensures.made_trapped t o trap (same ∙ is))

pub returns-in_err-act-clause-at_rest : goal.returns-in_err-act-clause-at_rest
returns-in_err-act-clause-at_rest g c = λ told opened fine.
    let items = c.as_slice-action-items.result.now in
    let i = c.loop-action.action-index in
    let h0 = g.W.World.history c.args.world.now in
    let h = g.W.World.history c.loop-action.world in
    let come : HasCome c.args.program.now (c.action-item.result ∷ drop (i + 1) items) g.W.World.tells c.args.store.now c.loop-action.store h0 h =
    subst (λ (actions : List Action). HasCome c.args.program.now actions g.W.World.tells c.args.store.now c.loop-action.store h0 h)
    (from-index items i c.action-item.result c.loop-action-test.true c.action-item.is) c.loop-action.invariant.come
    in
    let same = c.in_err-act.was ∙ sym (handed c.from_residual.result _ c.from_residual.ensures.1) in
    stopped-some c.args.program.now c.action-item.result (drop (i + 1) items) g.W.World.tells c.args.store.now
    c.loop-action.store h0 h come (g.W.World.history c.act.new.world) told opened
    (λ t o. c.act.ensures.at_rest t o (λ is. fine (sym same ∙ is)))

pub returns-in_err-act-clause-only : goal.returns-in_err-act-clause-only
returns-in_err-act-clause-only g c = λ told.
    only-then (g.W.World.history c.args.world.now) (g.W.World.history c.loop-action.world) (g.W.World.history c.act.new.world)
    (c.loop-action.invariant.only told) (c.act.ensures.only told)

pub returns-in_err-act-clause-counts : goal.returns-in_err-act-clause-counts
returns-in_err-act-clause-counts g c = counts-then _ _ _ c.loop-action.invariant.counts c.act.ensures.counts

pub returns-clause-moments : goal.returns-clause-moments
returns-clause-moments g c = λ told opened.
    ended-moments c.args.program.now g.W.World.tells c.args.store.now c.loop-action.store (g.W.World.history c.args.world.now)
    (g.W.World.history c.loop-action.world)
    (subst (λ (actions : List Action). HasCome c.args.program.now actions g.W.World.tells c.args.store.now c.loop-action.store
    (g.W.World.history c.args.world.now) (g.W.World.history c.loop-action.world))
    (past-end c.as_slice-action-items.result.now c.loop-action.action-index c.loop-action-test.false) c.loop-action.invariant.come)
    told opened

pub returns-clause-made : goal.returns-clause-made
returns-clause-made g c = λ told opened.
    ended-made c.args.program.now g.W.World.tells c.args.store.now c.loop-action.store (g.W.World.history c.args.world.now)
    (g.W.World.history c.loop-action.world)
    (subst (λ (actions : List Action). HasCome c.args.program.now actions g.W.World.tells c.args.store.now c.loop-action.store
    (g.W.World.history c.args.world.now) (g.W.World.history c.loop-action.world))
    (past-end c.as_slice-action-items.result.now c.loop-action.action-index c.loop-action-test.false) c.loop-action.invariant.come)
    told opened

pub returns-clause-at_rest : goal.returns-clause-at_rest
returns-clause-at_rest g c = λ told opened fine.
    ended-some c.args.program.now g.W.World.tells c.args.store.now c.loop-action.store (g.W.World.history c.args.world.now)
    (g.W.World.history c.loop-action.world)
    (subst (λ (actions : List Action). HasCome c.args.program.now actions g.W.World.tells c.args.store.now c.loop-action.store
    (g.W.World.history c.args.world.now) (g.W.World.history c.loop-action.world))
    (past-end c.as_slice-action-items.result.now c.loop-action.action-index c.loop-action-test.false) c.loop-action.invariant.come)
    told opened

pub returns-clause-ended : goal.returns-clause-ended
returns-clause-ended g c =
    ended-so c.args.program.now g.W.World.tells c.args.store.now c.loop-action.store (g.W.World.history c.args.world.now)
    (g.W.World.history c.loop-action.world)
    (subst (λ (actions : List Action). HasCome c.args.program.now actions g.W.World.tells c.args.store.now c.loop-action.store
    (g.W.World.history c.args.world.now) (g.W.World.history c.loop-action.world))
    (past-end c.as_slice-action-items.result.now c.loop-action.action-index c.loop-action-test.false) c.loop-action.invariant.come)

pub returns-in_err-act-clause-disk_fault : goal.returns-in_err-act-clause-disk_fault
returns-in_err-act-clause-disk_fault g c = λ is.
    let same = c.in_err-act.was ∙ sym (handed c.from_residual.result _ c.from_residual.ensures.1) in
    rose_since _ _ _ c.loop-action.invariant.counts.disk_later (c.act.ensures.disk_fault (same ∙ is))

pub returns-in_err-act-clause-out_fault : goal.returns-in_err-act-clause-out_fault
returns-in_err-act-clause-out_fault g c = λ is.
    let same = c.in_err-act.was ∙ sym (handed c.from_residual.result _ c.from_residual.ensures.1) in
    rose_since _ _ _ c.loop-action.invariant.counts.say_later (c.act.ensures.out_fault (same ∙ is))

pub returns-in_err-act-clause-out_fault_where : goal.returns-in_err-act-clause-out_fault_where
returns-in_err-act-clause-out_fault_where g c =
    let same = c.in_err-act.was ∙ sym (handed c.from_residual.result _ c.from_residual.ensures.1) in
    rw same at (fine-since c.act.result _ _ _ c.loop-action.invariant.fine c.act.ensures.out_fault_where)

pub returns-in_err-act-clause-disk_fault_where : goal.returns-in_err-act-clause-disk_fault_where
returns-in_err-act-clause-disk_fault_where g c =
    let same = c.in_err-act.was ∙ sym (handed c.from_residual.result _ c.from_residual.ensures.1) in
    rw same at (fine-since c.act.result _ _ _ c.loop-action.invariant.disk c.act.ensures.disk_fault_where)

pub returns-in_err-act-clause-made : goal.returns-in_err-act-clause-made
returns-in_err-act-clause-made g c = λ told opened. no-ok _ c.from_residual.result _ (handed c.from_residual.result _ c.from_residual.ensures.1)

pub returns-in_err-act-clause-ended : goal.returns-in_err-act-clause-ended
returns-in_err-act-clause-ended g c = no-ok _ c.from_residual.result _ (handed c.from_residual.result _ c.from_residual.ensures.1)

pub returns-in_err-act-clause-same : goal.returns-in_err-act-clause-same
returns-in_err-act-clause-same g c = c.act.ensures.same ∙ c.loop-action.invariant.same

pub returns-clause-only : goal.returns-clause-only
returns-clause-only g c = c.loop-action.invariant.only

pub returns-clause-same : goal.returns-clause-same
returns-clause-same g c = c.loop-action.invariant.same

pub returns-clause-counts : goal.returns-clause-counts
returns-clause-counts g c = c.loop-action.invariant.counts

pub returns-clause-out_fault_where : goal.returns-clause-out_fault_where
returns-clause-out_fault_where g c = inr c.loop-action.invariant.fine

pub returns-clause-disk_fault_where : goal.returns-clause-disk_fault_where
returns-clause-disk_fault_where g c = inr c.loop-action.invariant.disk
