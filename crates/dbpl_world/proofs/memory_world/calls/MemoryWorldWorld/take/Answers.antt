use Rattle.dbpl_world.proofs.Standing.{tied_took}
use Rattle.dbpl_world.proofs.memory_world.calls.MemoryWorldWorld.take.Goals as goal

pub invariant_of-self-2-clause-tied : goal.invariant_of-self-2-clause-tied
invariant_of-self-2-clause-tied c = tied_took c.args.self.now.input.items c.args.self.now.stores.items c.args.self.now.put _ _ c.args.self.now.taken c.read_into-count.result c.args.self.now.tied c.keep.ensures.events
