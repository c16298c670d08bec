use Rattle.std.proofs.Common.{Err, ap, inr, sym, ◌∙◌}
use Rattle.dbpl_log.proofs.RecordLaws.{records_head}
use Rattle.dbpl_log.specs.Rest.{records_in}
use Rattle.dbpl_store.proofs.Openings.{err_is, log-damaged, log-fault, log-refused, opened-anyway, opened-damaged, opened-damaged_where, opened-fine, opened-read, opened-stood, opening-moments}
use Rattle.dbpl_world.specs.History.{now}
use Rattle.dbpl_store.proofs.opening.open.Goals as goal

pub returns-in-Ok-clause-stood : goal.returns-in-Ok-clause-stood
returns-in-Ok-clause-stood g c = λ told database stood.
    let s = now (g.W.World.history c.args.world.now) in
    let reads = g.met.W.World.reads_an_image c.args.world.now told in
    opened-stood s.disk.log.now s.disk.pages.now (records_in c.in-Ok.opened) database c.store_of.result
    (c.in-Ok.ensures.records told) (stood s.disk.log.now s.disk.pages.now reads.disk.log reads.disk.pages)
    c.store_of.ensures.newest

pub returns-in-Ok-clause-read : goal.returns-in-Ok-clause-read
returns-in-Ok-clause-read g c = λ told.
    let s = now (g.W.World.history c.args.world.now) in
    opened-read s.disk.log.now s.disk.pages.now (records_in c.in-Ok.opened) c.store_of.result
    (c.in-Ok.ensures.records told) c.store_of.ensures.newest

pub returns-in-Ok-clause-synced : goal.returns-in-Ok-clause-synced
returns-in-Ok-clause-synced g c = λ told. opened-anyway c.store_of.result (c.in-Ok.ensures.synced told)

pub returns-in-Ok-clause-moments : goal.returns-in-Ok-clause-moments
returns-in-Ok-clause-moments g c = λ told.
    opening-moments (g.W.World.history c.args.world.now) (g.W.World.history c.open.new.world) (c.open.ensures.moments told)

pub returns-in-Ok-clause-damaged : goal.returns-in-Ok-clause-damaged
returns-in-Ok-clause-damaged g c = λ told page e.
    let s = now (g.W.World.history c.args.world.now) in
    let head = records_head s.disk.log.now (records_in c.in-Ok.opened) (c.in-Ok.ensures.records told) in
    opened-damaged s.disk.log.now s.disk.pages.now (records_in c.in-Ok.opened) c.store_of.result page
    (c.in-Ok.ensures.records told) head.0 c.store_of.ensures.damaged e

pub returns-in-Ok-clause-damaged_where : goal.returns-in-Ok-clause-damaged_where
returns-in-Ok-clause-damaged_where g c = λ told head none.
    let s = now (g.W.World.history c.args.world.now) in
    opened-damaged_where s.disk.log.now s.disk.pages.now (records_in c.in-Ok.opened) c.store_of.result
    (c.in-Ok.ensures.records told) c.store_of.ensures.newest c.store_of.ensures.damaged none

pub returns-in-Err-clause-moments : goal.returns-in-Err-clause-moments
returns-in-Err-clause-moments g c = λ told.
    opening-moments (g.W.World.history c.args.world.now) (g.W.World.history c.open.new.world) (c.open.ensures.moments told)

pub returns-in-Err-clause-damaged : goal.returns-in-Err-clause-damaged
returns-in-Err-clause-damaged g c = λ told page e.
    let s = now (g.W.World.history c.args.world.now) in
    log-damaged s.disk.log.now s.disk.pages.now c.in-Err.err page
    (λ f. c.open.ensures.damaged told (c.in-Err.is ∙ ap (λ e. Err e) f)) (sym c.store_err.ensures ∙ err_is _ _ e)

pub returns-in-Ok-clause-settled : goal.returns-in-Ok-clause-settled
returns-in-Ok-clause-settled g c = λ told refused. c.in-Ok.ensures.synced told

pub returns-in-Err-clause-settled : goal.returns-in-Err-clause-settled
returns-in-Err-clause-settled g c = λ told refused.
    c.open.ensures.settled told (log-refused c.in-Err.err _ c.open.result c.in-Err.is c.store_err.ensures refused)

pub returns-in-Ok-clause-fine : goal.returns-in-Ok-clause-fine
returns-in-Ok-clause-fine g c = inr (opened-fine c.open.result _ c.in-Ok.is c.open.ensures.fine)

pub returns-in-Err-clause-fine : goal.returns-in-Err-clause-fine
returns-in-Err-clause-fine g c = log-fault c.in-Err.err _ c.open.result c.in-Err.is c.store_err.ensures c.open.ensures.fine
