use Rattle.std.proofs.Common.{length}
use Rattle.dbpl_symbols.proofs.HeldLaws.{rise_entered}
use Rattle.dbpl_symbols.proofs.scope.Scope.enter.Goals as goal

pub invariant_of-self : goal.invariant_of-self
invariant_of-self c = record {
  indexed = c.self.invariant.indexed;
  rise =
      rise_entered c.push.result c.self.inside.starts c.push.new.self (length c.self.inside.held) c.len.result c.len.ensures
      c.push.ensures.ok c.push.ensures.err c.self.invariant.rise;
}
