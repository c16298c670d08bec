use Rattle.std.proofs.Common.{rules}
use Rattle.dbpl_world.proofs.Standing.{tied_said}
use Rattle.dbpl_world.proofs.memory_world.calls.MemoryWorldWorld.say.Goals as goal

pub invariant_of-self-2-clause-tied : goal.invariant_of-self-2-clause-tied
invariant_of-self-2-clause-tied c = tied_said c.args.self.now.input.items c.args.self.now.stores.items c.args.self.now.put _ _ _ c.args.piece.now _ c.args.self.now.tied c.keep.ensures.events (search rules)
