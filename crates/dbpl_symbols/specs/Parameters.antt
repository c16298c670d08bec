-- What the parameters of a routine are in its scope.
use Rattle.std.specs.Prelude.{ℕ, ◌+◌, List, [], ◌∷◌}
use Rattle.dbpl_symbols.specs.Scopes.{Declarations, with_pairs}
use Rattle.dbpl_symbols.specs.StandardNames.{own}
use Rattle.dbpl_symbols.specs.declared.decl.Decl.TheVariants as decls
use Rattle.dbpl_symbols.specs.declared.pair.Pair.{Pair}
use Rattle.dbpl_symbols.specs.declared.sort.Sort.TheVariants as sorts
use Rattle.dbpl_value.specs.declared.head.Head.{Head}
use Rattle.dbpl_value.specs.declared.param.Param.{Param}

-- the parameter of this number
abbrev pub param_pair : ℕ → Param → Pair
param_pair number param = own param.name (decls.Variable param.kind (sorts.Param number))

-- parameters with their numbers, from this one on
abbrev pub params_from : ℕ → List Param → List Pair
params_from number [] = []
params_from number (param ∷ params) = param_pair number param ∷ params_from (number + 1) params

-- THE scope with the parameters of a routine, numbered from 0
abbrev pub with_params : Head → Declarations → Declarations
with_params head scope = with_pairs (params_from 0 head.params) scope
