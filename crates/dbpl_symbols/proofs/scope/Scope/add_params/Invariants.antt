-- The parameters so far.
use Rattle.std.proofs.Common.{◌≡◌, take}
use Rattle.dbpl_symbols.specs.Parameters.{params_from}
use Rattle.dbpl_symbols.specs.Scopes.{with_pairs}
use Rattle.dbpl_symbols.proofs.scope.Scope.add_params.Given as goal

abbrev pub invariant-loop-param : goal.invariant-loop-param
invariant-loop-param l =
    (l.self ≡ with_pairs (params_from 0 (take l.param-index l.head.params)) l.fn.self) × (l.number ≡ l.param-index)
