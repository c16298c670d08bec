use Rattle.std.proofs.Common.{rules}
use Rattle.dbpl_world.proofs.Standing.{tied_made}
use Rattle.dbpl_world.proofs.memory_world.MemoryWorld.make.Goals as goal

pub invariant_of-result-clause-tied : goal.invariant_of-result-clause-tied
invariant_of-result-clause-tied c = tied_made c.extend_from_slice.new.self.items _ _ _ _ _ _ (search rules) c.in_ok-new.ensures.events (search rules) (search rules) (search rules) (search rules)
