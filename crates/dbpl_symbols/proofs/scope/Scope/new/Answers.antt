use Rattle.dbpl_symbols.proofs.HeldLaws.{empty_held}
use Rattle.dbpl_symbols.proofs.scope.Scope.new.Goals as goal

pub invariant_of-result : goal.invariant_of-result
invariant_of-result c =
    empty_held c.new-held.result c.new-starts.result c.new-places.result c.new-held.ensures c.new-starts.ensures
    c.new-places.ensures.empty
