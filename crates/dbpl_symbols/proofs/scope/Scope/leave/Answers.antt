use Rattle.dbpl_symbols.proofs.HeldLaws.{left_held, rise_left}
use Rattle.dbpl_symbols.proofs.scope.Scope.leave.Goals as goal

pub invariant_of-self : goal.invariant_of-self
invariant_of-self c = record {
  indexed = c.cut.ensures.indexed;
  rise =
      rise_left c.self.inside.held c.cut.new.held c.self.inside.starts c.pop.new.self c.in-Some.start c.in-Some.ensures
      c.cut.ensures.front c.self.invariant.rise;
}

pub returns-in-Some : goal.returns-in-Some
returns-in-Some c =
    left_held c.self.inside.held c.cut.new.held c.self.inside.starts c.pop.new.self c.in-Some.start c.args.self.now
    c.in-Some.ensures c.cut.ensures.front c.self.view_is
