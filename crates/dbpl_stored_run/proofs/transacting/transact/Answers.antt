-- What the store has in memory is what its commit leaves.
use Rattle.std.proofs.Common.{[], ◌∷◌, ◌∙◌, Err, ap, inr, refl}
use Rattle.std.proofs.lemmas.Result.{on_ok_weaker}
use Rattle.dbpl_stored_program.specs.declared.action.Action.TheVariants.{Transact}
use Rattle.dbpl_store.specs.Stores.{committed_of, database_in}
use Rattle.dbpl_stored_run.proofs.Answering.{after-ok, both-ok, counts-same, handed, no-ok}
use Rattle.dbpl_stored_run.proofs.Steps.{trapped-stands}
use Rattle.dbpl_stored_run.proofs.Stores.{open-kept, open-stands, still-bound}
use Rattle.dbpl_stored_run.proofs.Commits.{done-ended, done-last, done-made, done-moments, done-some, trapped-made, was-no_disk_fault, was-no_out_fault, was-trap}
use Rattle.dbpl_stored_run.proofs.Tying.{moments-still, only-log, only-none, some-none}
use Rattle.dbpl_stored_run.specs.Statements.{events_by}
use Rattle.dbpl_world.specs.History.{now}
use Rattle.dbpl_stored_run.proofs.transacting.transact.Goals as goal

-- ---- it was not done

pub returns-in_err-change-clause-moments : goal.returns-in_err-change-clause-moments
returns-in_err-change-clause-moments g c = λ told opened.
    let h = g.W.World.history c.args.world.now in
    moments-still (events_by c.args.program.now (Transact ∷ []) (database_in c.args.store.now)) (committed_of c.args.store.now) h
    (open-stands (now h) c.args.store.now opened)

pub returns-in_err-change-clause-trapped : goal.returns-in_err-change-clause-trapped
returns-in_err-change-clause-trapped g c = λ trap is.
    let why = was-trap c.from_residual.result _ (handed c.from_residual.result _ c.from_residual.ensures.1) trap is in
    trapped-stands c.args.program.now (database_in c.args.store.now) trap
    (c.change.ensures.trap trap (c.in_err-change.was ∙ ap (λ e. Err e) why))

pub returns-in_err-change-clause-made_trapped : goal.returns-in_err-change-clause-made_trapped
returns-in_err-change-clause-made_trapped g c = λ told opened trap is.
    let h = g.W.World.history c.args.world.now in
    let why = was-trap c.from_residual.result _ (handed c.from_residual.result _ c.from_residual.ensures.1) trap is in
    trapped-made c.args.program.now c.args.store.now trap (now h)
    (c.change.ensures.trap trap (c.in_err-change.was ∙ ap (λ e. Err e) why)) (open-stands (now h) c.args.store.now opened)

pub returns-in_err-change-clause-at_rest : goal.returns-in_err-change-clause-at_rest
returns-in_err-change-clause-at_rest g c = λ told opened fine.
    let h = g.W.World.history c.args.world.now in
    some-none (events_by c.args.program.now (Transact ∷ []) (database_in c.args.store.now)) (committed_of c.args.store.now) (now h)
    (open-stands (now h) c.args.store.now opened)

pub returns-in_err-change-clause-unwritten : goal.returns-in_err-change-clause-unwritten
returns-in_err-change-clause-unwritten g c = λ told is. refl

pub returns-in_err-change-clause-only : goal.returns-in_err-change-clause-only
returns-in_err-change-clause-only g c = λ told. only-none (g.W.World.history c.args.world.now)

pub returns-in_err-change-clause-disk_fault : goal.returns-in_err-change-clause-disk_fault
returns-in_err-change-clause-disk_fault g c = λ is.
    was-no_disk_fault c.from_residual.result _ (handed c.from_residual.result _ c.from_residual.ensures.1) is

pub returns-in_err-change-clause-out_fault : goal.returns-in_err-change-clause-out_fault
returns-in_err-change-clause-out_fault g c = λ is.
    was-no_out_fault c.from_residual.result _ (handed c.from_residual.result _ c.from_residual.ensures.1) is

pub returns-in_err-change-clause-out_fault_where : goal.returns-in_err-change-clause-out_fault_where
returns-in_err-change-clause-out_fault_where g c = inr refl

pub returns-in_err-change-clause-disk_fault_where : goal.returns-in_err-change-clause-disk_fault_where
returns-in_err-change-clause-disk_fault_where g c = inr refl

pub returns-in_err-change-clause-counts : goal.returns-in_err-change-clause-counts
returns-in_err-change-clause-counts g c = counts-same (g.W.World.counts c.args.world.now)

pub returns-in_err-change-clause-made : goal.returns-in_err-change-clause-made
returns-in_err-change-clause-made g c = λ told opened. no-ok _ c.from_residual.result _ (handed c.from_residual.result _ c.from_residual.ensures.1)

pub returns-in_err-change-clause-opened : goal.returns-in_err-change-clause-opened
returns-in_err-change-clause-opened g c = λ told opened. no-ok _ c.from_residual.result _ (handed c.from_residual.result _ c.from_residual.ensures.1)

pub returns-in_err-change-clause-ended : goal.returns-in_err-change-clause-ended
returns-in_err-change-clause-ended g c = no-ok _ c.from_residual.result _ (handed c.from_residual.result _ c.from_residual.ensures.1)

pub returns-in_err-change-clause-committed : goal.returns-in_err-change-clause-committed
returns-in_err-change-clause-committed g c = no-ok _ c.from_residual.result _ (handed c.from_residual.result _ c.from_residual.ensures.1)

pub returns-in_err-change-clause-database : goal.returns-in_err-change-clause-database
returns-in_err-change-clause-database g c = no-ok _ c.from_residual.result _ (handed c.from_residual.result _ c.from_residual.ensures.1)

pub returns-in_err-change-clause-bound : goal.returns-in_err-change-clause-bound
returns-in_err-change-clause-bound g c = no-ok _ c.from_residual.result _ (handed c.from_residual.result _ c.from_residual.ensures.1)

pub returns-in_err-change-clause-still : goal.returns-in_err-change-clause-still
returns-in_err-change-clause-still g c = no-ok _ c.from_residual.result _ (handed c.from_residual.result _ c.from_residual.ensures.1)

-- ---- it is committed, or a fault came

pub returns-clause-moments : goal.returns-clause-moments
returns-clause-moments g c = λ told opened.
    let h = g.W.World.history c.args.world.now in
    done-moments c.args.program.now c.args.store.now c.change.new.store c.in_ok-change.ensures.ok h
    (g.W.World.history c.commit.new.world) c.change.ensures.committed
    (c.commit.ensures.moments told
    (open-kept (now h) (now h) c.args.store.now c.change.new.store refl c.change.ensures.log c.change.ensures.committed opened))

pub returns-clause-made : goal.returns-clause-made
returns-clause-made g c = λ told opened.
    let h = g.W.World.history c.args.world.now in
    let stays =
    open-kept (now h) (now h) c.args.store.now c.change.new.store refl c.change.ensures.log c.change.ensures.committed opened
    in
    both-ok c.commit.result (c.commit.ensures.«open» told stays) c.commit.ensures.committed
    (λ later committed.
    done-made c.args.program.now c.args.store.now c.change.new.store c.in_ok-change.ensures.ok h
    (g.W.World.history c.commit.new.world) c.change.ensures.committed c.commit.new.store (c.commit.ensures.moments told stays)
    later committed)

pub returns-clause-ended : goal.returns-clause-ended
returns-clause-ended g c =
    after-ok c.commit.result (done-ended c.args.program.now c.args.store.now c.change.new.store c.in_ok-change.ensures.ok)

pub returns-clause-trapped : goal.returns-clause-trapped
returns-clause-trapped g c = λ trap is. absurd (c.commit.ensures.untrapped trap is)

pub returns-clause-made_trapped : goal.returns-clause-made_trapped
returns-clause-made_trapped g c = λ told opened trap is. absurd (c.commit.ensures.untrapped trap is)

pub returns-clause-at_rest : goal.returns-clause-at_rest
returns-clause-at_rest g c = λ told opened fine.
    let h = g.W.World.history c.args.world.now in
    done-some c.args.program.now c.args.store.now c.change.new.store c.in_ok-change.ensures.ok h
    (g.W.World.history c.commit.new.world) c.change.ensures.committed
    (c.commit.ensures.at_rest told
    (open-kept (now h) (now h) c.args.store.now c.change.new.store refl c.change.ensures.log c.change.ensures.committed opened)
    fine)

pub returns-clause-opened : goal.returns-clause-opened
returns-clause-opened g c = λ told opened.
    let h = g.W.World.history c.args.world.now in
    c.commit.ensures.«open» told
    (open-kept (now h) (now h) c.args.store.now c.change.new.store refl c.change.ensures.log c.change.ensures.committed opened)

pub returns-clause-committed : goal.returns-clause-committed
returns-clause-committed g c =
    on_ok_weaker c.commit.result
    (done-last c.args.program.now c.args.store.now c.change.new.store c.in_ok-change.ensures.ok
    (committed_of c.commit.new.store) (committed_of c.args.store.now))
    c.commit.ensures.committed

pub returns-clause-database : goal.returns-clause-database
returns-clause-database g c =
    after-ok c.commit.result
    (done-last c.args.program.now c.args.store.now c.change.new.store c.in_ok-change.ensures.ok
    (database_in c.commit.new.store) (database_in c.args.store.now) c.commit.ensures.database)

pub returns-clause-bound : goal.returns-clause-bound
returns-clause-bound g c =
    after-ok c.commit.result
    (still-bound c.args.program.now.relation c.change.new.store c.commit.new.store c.commit.ensures.bound
    c.in_ok-change.ensures.bound)

pub returns-clause-only : goal.returns-clause-only
returns-clause-only g c = λ told.
    only-log (g.W.World.history c.args.world.now) (g.W.World.history c.commit.new.world) (c.commit.ensures.only_log told)
