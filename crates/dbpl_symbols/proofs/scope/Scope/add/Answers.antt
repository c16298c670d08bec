use Rattle.dbpl_symbols.proofs.HeldLaws.{rise_added}
use Rattle.dbpl_symbols.specs.declared.pair.Pair.{Pair}
use Rattle.dbpl_symbols.proofs.scope.Scope.add.Goals as goal

pub invariant_of-self : goal.invariant_of-self
invariant_of-self c =
    let pair : Pair = record { name = c.in_ok-name.name; decl = c.args.decl; origin = c.args.origin } in
    record {
      indexed = c.add.ensures.indexed;
      rise =
          rise_added c.add.result c.self.inside.held c.add.new.held c.self.inside.starts pair c.add.ensures.ok c.add.ensures.err
          c.self.invariant.rise;
    }
