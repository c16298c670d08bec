use Rattle.dbpl_world.proofs.WriteMoments.{moments_synced, moments_not_synced, moments_not_written, one_image}
use Rattle.dbpl_world.proofs.durable.write_and_sync.Goals as goal

pub returns-in_err-write_at-clause-moments : goal.returns-in_err-write_at-clause-moments
returns-in_err-write_at-clause-moments g c told = moments_not_written c.args.part c.args.at c.args.bytes.now _ _ (c.in_err-write_at.ensures.err told)

pub returns-in_err-sync-clause-moments : goal.returns-in_err-sync-clause-moments
returns-in_err-sync-clause-moments g c told = moments_not_synced c.args.part c.args.at c.args.bytes.now _ _ _ (c.in_ok-write_at.ensures.ok told) (c.in_err-sync.ensures.err told)

pub returns-clause-images : goal.returns-clause-images
returns-clause-images g c told = one_image c.args.part c.args.at c.args.bytes.now _ _ _ (c.in_ok-write_at.ensures.ok told) (c.in_ok-sync.ensures.ok told)

pub returns-clause-moments : goal.returns-clause-moments
returns-clause-moments g c told = moments_synced c.args.part c.args.at c.args.bytes.now _ _ _ (g.met.W.World.reads_an_image c.args.world.now told).disk (c.in_ok-write_at.ensures.ok told) (c.in_ok-sync.ensures.ok told)
