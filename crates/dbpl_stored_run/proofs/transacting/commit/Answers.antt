-- The commit comes once what was printed is written out, which changes nothing.
use Rattle.std.proofs.Common.{[], ◌∷◌, ◌∙◌, inr, refl, subst, sym}
use Rattle.dbpl_core.specs.Events.{Commit}
use Rattle.dbpl_store.specs.Stores.{committed_of, database_in}
use Rattle.dbpl_stored_run.proofs.Answering.{counts-then, disk-counts, handed, no-ok, on-this, printed-no_disk_fault, printed-no_trap, say-counts}
use Rattle.dbpl_stored_run.proofs.Commits.{committed-made}
use Rattle.dbpl_stored_run.proofs.Stores.{open-stands}
use Rattle.dbpl_stored_run.proofs.Tying.{some-all, some-none}
use Rattle.dbpl_stored_run.proofs.WrittenOut.{disk-fine, open-still, print-where, say-held, unwritten-log, unwritten-moments, written-log, written-moments}
use Rattle.dbpl_world.proofs.CountLaws.{rose_since}
use Rattle.dbpl_stored_run.specs.Headline.{HasMadeSome}
use Rattle.dbpl_world.specs.History.{History, now}
use Rattle.dbpl_stored_run.proofs.transacting.commit.Goals as goal

-- ---- what was printed could not be written out

pub returns-in_err-write_out-clause-moments : goal.returns-in_err-write_out-clause-moments
returns-in_err-write_out-clause-moments g c = λ told opened.
    let h = g.W.World.history c.args.world.now in
    unwritten-moments (committed_of c.args.store.now) (database_in c.args.store.now) h (g.W.World.history c.write_out.new.world)
    (c.write_out.ensures.unchanged told) (open-stands (now h) c.args.store.now opened)

pub returns-in_err-write_out-clause-open : goal.returns-in_err-write_out-clause-open
returns-in_err-write_out-clause-open g c = λ told opened. no-ok _ c.from_residual.result _ (handed c.from_residual.result _ c.from_residual.ensures.1)

pub returns-in_err-write_out-clause-committed : goal.returns-in_err-write_out-clause-committed
returns-in_err-write_out-clause-committed g c = no-ok _ c.from_residual.result _ (handed c.from_residual.result _ c.from_residual.ensures.1)

pub returns-in_err-write_out-clause-ended : goal.returns-in_err-write_out-clause-ended
returns-in_err-write_out-clause-ended g c = no-ok _ c.from_residual.result _ (handed c.from_residual.result _ c.from_residual.ensures.1)

pub returns-in_err-write_out-clause-unwritten : goal.returns-in_err-write_out-clause-unwritten
returns-in_err-write_out-clause-unwritten g c = λ told is. c.write_out.ensures.unchanged told

pub returns-in_err-write_out-clause-only_log : goal.returns-in_err-write_out-clause-only_log
returns-in_err-write_out-clause-only_log g c = λ told.
    unwritten-log (committed_of c.args.store.now) (database_in c.args.store.now) (g.W.World.history c.args.world.now)
    (g.W.World.history c.write_out.new.world) (c.write_out.ensures.unchanged told)

pub returns-in_err-write_out-clause-counts : goal.returns-in_err-write_out-clause-counts
returns-in_err-write_out-clause-counts g c = say-counts _ _ c.write_out.ensures.counts

pub returns-in_err-write_out-clause-at_rest : goal.returns-in_err-write_out-clause-at_rest
returns-in_err-write_out-clause-at_rest g c = λ told opened fine.
    let h = g.W.World.history c.args.world.now in
    let events = Commit (database_in c.args.store.now) ∷ [] in
    subst (λ (h1 : History). HasMadeSome events (committed_of c.args.store.now) (now h) (now h1))
    (sym (c.write_out.ensures.unchanged told))
    (some-none events (committed_of c.args.store.now) (now h) (open-stands (now h) c.args.store.now opened))

pub returns-in_err-write_out-clause-untrapped : goal.returns-in_err-write_out-clause-untrapped
returns-in_err-write_out-clause-untrapped g c = λ trap is.
    let same = c.in_err-write_out.was ∙ sym (handed c.from_residual.result _ c.from_residual.ensures.1) in
    printed-no_trap c.write_out.result c.write_out.ensures.err trap (same ∙ is)

pub returns-in_err-write_out-clause-disk_fault : goal.returns-in_err-write_out-clause-disk_fault
returns-in_err-write_out-clause-disk_fault g c = λ is.
    let same = c.in_err-write_out.was ∙ sym (handed c.from_residual.result _ c.from_residual.ensures.1) in
    printed-no_disk_fault c.write_out.result c.write_out.ensures.err (same ∙ is)

pub returns-in_err-write_out-clause-out_fault : goal.returns-in_err-write_out-clause-out_fault
returns-in_err-write_out-clause-out_fault g c = λ is.
    let same = c.in_err-write_out.was ∙ sym (handed c.from_residual.result _ c.from_residual.ensures.1) in
    on-this c.write_out.result _ c.write_out.ensures.cause (same ∙ is)

pub returns-in_err-write_out-clause-out_fault_where : goal.returns-in_err-write_out-clause-out_fault_where
returns-in_err-write_out-clause-out_fault_where g c =
    let same = c.in_err-write_out.was ∙ sym (handed c.from_residual.result _ c.from_residual.ensures.1) in
    rw same at (print-where c.write_out.result c.write_out.ensures.err c.write_out.ensures.fine)

pub returns-in_err-write_out-clause-disk_fault_where : goal.returns-in_err-write_out-clause-disk_fault_where
returns-in_err-write_out-clause-disk_fault_where g c = inr (say-held _ _ c.write_out.ensures.counts)

-- ---- it is committed

pub returns-in-Ok-clause-moments : goal.returns-in-Ok-clause-moments
returns-in-Ok-clause-moments g c = λ told opened.
    let same = c.write_out.ensures.unchanged told in
    written-moments (committed_of c.args.store.now) (database_in c.args.store.now) _ _ same _
    (c.commit.ensures.moments told
    (open-still (committed_of c.args.store.now) (database_in c.args.store.now) _ _ same c.args.store.now opened))

pub returns-in-Ok-clause-open : goal.returns-in-Ok-clause-open
returns-in-Ok-clause-open g c = λ told opened.
    c.in-Ok.ensures.«open» told
    (open-still (committed_of c.args.store.now) (database_in c.args.store.now) _ _ (c.write_out.ensures.unchanged told)
    c.args.store.now opened)

pub returns-in-Ok-clause-at_rest : goal.returns-in-Ok-clause-at_rest
returns-in-Ok-clause-at_rest g c = λ told opened fine.
    let h = g.W.World.history c.args.world.now in
    let same = c.write_out.ensures.unchanged told in
    let stays = open-still (committed_of c.args.store.now) (database_in c.args.store.now) _ _ same c.args.store.now opened in
    some-all (Commit (database_in c.args.store.now) ∷ []) (committed_of c.args.store.now) (now h)
    (now (g.W.World.history c.commit.new.world))
    (committed-made c.args.store.now c.commit.new.self (committed_of c.args.store.now) h (g.W.World.history c.commit.new.world)
    (written-moments (committed_of c.args.store.now) (database_in c.args.store.now) _ _ same _ (c.commit.ensures.moments told stays))
    (c.in-Ok.ensures.«open» told stays) c.in-Ok.ensures.committed)

pub returns-in-Ok-clause-only_log : goal.returns-in-Ok-clause-only_log
returns-in-Ok-clause-only_log g c = λ told.
    written-log (committed_of c.args.store.now) (database_in c.args.store.now) _ _ (c.write_out.ensures.unchanged told) _
    (c.commit.ensures.only_log told)

pub returns-in-Ok-clause-counts : goal.returns-in-Ok-clause-counts
returns-in-Ok-clause-counts g c =
    counts-then _ _ _ (say-counts _ _ c.write_out.ensures.counts) (disk-counts _ _ c.commit.ensures.counts)

pub returns-in-Ok-clause-out_fault_where : goal.returns-in-Ok-clause-out_fault_where
returns-in-Ok-clause-out_fault_where g c =
    inr (disk-fine _ _ c.commit.ensures.counts ∙ c.in_ok-write_out.ensures.fine)

pub returns-in-Ok-clause-disk_fault_where : goal.returns-in-Ok-clause-disk_fault_where
returns-in-Ok-clause-disk_fault_where g c = inr (c.in-Ok.ensures.fine ∙ say-held _ _ c.write_out.ensures.counts)

-- ---- its commit failed

pub returns-in-Err-clause-moments : goal.returns-in-Err-clause-moments
returns-in-Err-clause-moments g c = λ told opened.
    let same = c.write_out.ensures.unchanged told in
    written-moments (committed_of c.args.store.now) (database_in c.args.store.now) _ _ same _
    (c.commit.ensures.moments told
    (open-still (committed_of c.args.store.now) (database_in c.args.store.now) _ _ same c.args.store.now opened))

pub returns-in-Err-clause-at_rest : goal.returns-in-Err-clause-at_rest
returns-in-Err-clause-at_rest g c = λ told opened fine. absurd (fine refl)

pub returns-in-Err-clause-only_log : goal.returns-in-Err-clause-only_log
returns-in-Err-clause-only_log g c = λ told.
    written-log (committed_of c.args.store.now) (database_in c.args.store.now) _ _ (c.write_out.ensures.unchanged told) _
    (c.commit.ensures.only_log told)

pub returns-in-Err-clause-counts : goal.returns-in-Err-clause-counts
returns-in-Err-clause-counts g c =
    counts-then _ _ _ (say-counts _ _ c.write_out.ensures.counts) (disk-counts _ _ c.commit.ensures.counts)

pub returns-in-Err-clause-disk_fault : goal.returns-in-Err-clause-disk_fault
returns-in-Err-clause-disk_fault g c = λ is.
    let before = say-counts _ _ c.write_out.ensures.counts in rose_since _ _ _ before.disk_later c.in-Err.ensures.cause

pub returns-in-Err-clause-out_fault_where : goal.returns-in-Err-clause-out_fault_where
returns-in-Err-clause-out_fault_where g c =
    inr (disk-fine _ _ c.commit.ensures.counts ∙ c.in_ok-write_out.ensures.fine)
