use Rattle.std.proofs.Common.{refl}
use Rattle.dbpl_store.proofs.Creations.{are_none, creation-made, creation-moments, logs-may-begin}
use Rattle.dbpl_store.proofs.Openings.{opening-moments}
use Rattle.dbpl_world.specs.History.{now}
use Rattle.dbpl_store.proofs.creation.create.Goals as goal

pub returns-clause-moments : goal.returns-clause-moments
returns-clause-moments g c = λ told may.
    creation-moments (g.W.World.history c.args.world.now) (g.W.World.history c.create.new.world)
    (c.create.ensures.moments told are_none refl
    (logs-may-begin (now (g.W.World.history c.args.world.now)) (g.met.W.World.reads_an_image c.args.world.now told).disk may))

pub returns-clause-made : goal.returns-clause-made
returns-clause-made g c = λ told.
    creation-made (now (g.W.World.history c.create.new.world)) c.create.result (c.create.ensures.made told)

pub returns-clause-refused : goal.returns-clause-refused
returns-clause-refused g c = λ told why.
    opening-moments (g.W.World.history c.args.world.now) (g.W.World.history c.create.new.world)
    (c.create.ensures.refused told why)

pub returns-clause-kept : goal.returns-clause-kept
returns-clause-kept g c = λ told none.
    opening-moments (g.W.World.history c.args.world.now) (g.W.World.history c.create.new.world)
    (c.create.ensures.kept told none)
