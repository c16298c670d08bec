-- The statements, and then what they printed is written out.
use Rattle.std.proofs.Common.{◌∙◌, subst, sym}
use Rattle.std.specs.Prelude.{OnOk}
use Rattle.dbpl_store.specs.Stores.{committed_of, database_in}
use Rattle.dbpl_stored_run.proofs.Answering.{counts-then, say-counts}
use Rattle.dbpl_stored_run.proofs.WrittenOut.{end-fault, end-held, end-ok, end-other, end-where, say-held}
use Rattle.dbpl_stored_run.specs.Headline.{HasMade, HasMadeSome, LeavesTied}
use Rattle.dbpl_stored_run.specs.Leaving.{ChangesStore}
use Rattle.dbpl_stored_run.specs.Statements.{events_by}
use Rattle.dbpl_stored_run.specs.declared.body_err.BodyErr.TheVariants as body_errors
use Rattle.dbpl_world.proofs.CountLaws.{rose_until}
use Rattle.dbpl_world.specs.History.{History, now}
use Rattle.dbpl_world.specs.Moments.{EachMoment}
use Rattle.dbpl_stored_run.proofs.statements.run_body.Goals as goal

pub returns-clause-moments : goal.returns-clause-moments
returns-clause-moments g c = λ told opened.
    let h0 = g.W.World.history c.args.world.now in
    let events = events_by c.args.program.now c.args.program.now.body (database_in c.args.store.now) in
    subst (λ (h : History). EachMoment (LeavesTied events (committed_of c.args.store.now) (now h0)) h0 h)
    (sym (c.written_out.ensures.unchanged told)) (c.act_all-went.ensures.moments told opened)

pub returns-clause-made : goal.returns-clause-made
returns-clause-made g c = λ told opened.
    let h0 = g.W.World.history c.args.world.now in
    let events = events_by c.args.program.now c.args.program.now.body (database_in c.args.store.now) in
    end-ok c.act_all-went.result c.written_out.result _ _ c.written_out.ensures.answer _
    (subst (λ (h : History). OnOk c.act_all-went.result (HasMade events (committed_of c.args.store.now) (now h0) (now h)))
    (sym (c.written_out.ensures.unchanged told)) (c.act_all-went.ensures.made told opened))

pub returns-clause-ended : goal.returns-clause-ended
returns-clause-ended g c =
    end-ok c.act_all-went.result c.written_out.result _ _ c.written_out.ensures.answer _ c.act_all-went.ensures.ended

pub returns-clause-trapped : goal.returns-clause-trapped
returns-clause-trapped g c = λ trap is.
    c.act_all-went.ensures.trapped trap
    (end-other c.act_all-went.result c.written_out.result _ _ c.written_out.ensures.answer (body_errors.Trapped trap) (λ e. absurd cc) is)

pub returns-clause-made_trapped : goal.returns-clause-made_trapped
returns-clause-made_trapped g c = λ told opened trap is.
    let h0 = g.W.World.history c.args.world.now in
    let events = events_by c.args.program.now c.args.program.now.body (database_in c.args.store.now) in
    subst (λ (h : History). HasMade events (committed_of c.args.store.now) (now h0) (now h))
    (sym (c.written_out.ensures.unchanged told))
    (c.act_all-went.ensures.made_trapped told opened trap
    (end-other c.act_all-went.result c.written_out.result _ _ c.written_out.ensures.answer (body_errors.Trapped trap) (λ e. absurd cc) is))

pub returns-clause-at_rest : goal.returns-clause-at_rest
returns-clause-at_rest g c = λ told opened fine.
    let h0 = g.W.World.history c.args.world.now in
    let events = events_by c.args.program.now c.args.program.now.body (database_in c.args.store.now) in
    subst (λ (h : History). HasMadeSome events (committed_of c.args.store.now) (now h0) (now h))
    (sym (c.written_out.ensures.unchanged told))
    (c.act_all-went.ensures.at_rest told opened (λ is. fine (c.written_out.ensures.disk_fault is)))

pub returns-clause-only : goal.returns-clause-only
returns-clause-only g c = λ told.
    let h0 = g.W.World.history c.args.world.now in
    subst (λ (h : History). EachMoment (ChangesStore (now h0)) h0 h) (sym (c.written_out.ensures.unchanged told))
    (c.act_all-went.ensures.only told)

pub returns-clause-same : goal.returns-clause-same
returns-clause-same g c = c.written_out.ensures.same ∙ c.act_all-went.ensures.same

pub returns-clause-counts : goal.returns-clause-counts
returns-clause-counts g c = counts-then _ _ _ c.act_all-went.ensures.counts (say-counts _ _ c.written_out.ensures.counts)

pub returns-clause-disk_fault : goal.returns-clause-disk_fault
returns-clause-disk_fault g c = λ is.
    let later = say-counts _ _ c.written_out.ensures.counts in
    rose_until _ _ _
    (c.act_all-went.ensures.disk_fault
    (end-other c.act_all-went.result c.written_out.result _ _ c.written_out.ensures.answer body_errors.DiskFault (λ e. absurd cc) is))
    later.disk_later

pub returns-clause-out_fault : goal.returns-clause-out_fault
returns-clause-out_fault g c =
    end-fault c.act_all-went.result c.written_out.result _ _ c.written_out.ensures.answer _ c.act_all-went.ensures.counts.say_later
    c.act_all-went.ensures.out_fault

pub returns-clause-out_fault_where : goal.returns-clause-out_fault_where
returns-clause-out_fault_where g c =
    end-where c.act_all-went.result c.written_out.result _ _ c.written_out.ensures.answer _ c.act_all-went.ensures.out_fault_where

pub returns-clause-disk_fault_where : goal.returns-clause-disk_fault_where
returns-clause-disk_fault_where g c =
    end-held c.act_all-went.result c.written_out.result _ _ _ c.written_out.ensures.disk_fault
    (say-held _ _ c.written_out.ensures.counts) c.act_all-went.ensures.disk_fault_where
