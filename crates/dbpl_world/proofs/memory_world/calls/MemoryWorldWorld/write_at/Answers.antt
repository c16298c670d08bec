use Rattle.dbpl_world.proofs.Standing.{tied_wrote}
use Rattle.dbpl_world.proofs.memory_world.calls.MemoryWorldWorld.write_at.Goals as goal

pub invariant_of-self-2-clause-tied : goal.invariant_of-self-2-clause-tied
invariant_of-self-2-clause-tied c = tied_wrote c.args.self.now.input.items c.args.self.now.stores.items c.args.self.now.put _ _ c.args.part c.args.at c.args.bytes.now _ _ c.args.self.now.tied c.keep.ensures.events c.overwrite_part.ensures.log c.overwrite_part.ensures.pages
