-- The contract of a function that goes on along the parts of a designator: it has the steps, and beside them the type to which
-- they lead.
use Rattle.std.specs.Prelude.{◌≡◌, List, Option, Result, IfOk, option_map}
use Rattle.dbpl_base.specs.declared.memory.Memory.{Memory}
use Rattle.dbpl_core.specs.declared.expr.CoreExpr.{CoreExpr}
use Rattle.dbpl_core.specs.declared.step_of.CoreStepOf.{CoreStepOf}
use Rattle.dbpl_judging.specs.Checking.{Checking, noting}
use Rattle.dbpl_judging.specs.Judgements.{Judged}
use Rattle.dbpl_rules_expr.specs.declared.reached.Reached.{Reached}
use Rattle.dbpl_value.specs.declared.db_type.DbType.{DbType}

-- what these steps reach, where there are any
abbrev pub reach : DbType → Option (List (CoreStepOf CoreExpr)) → Option Reached
reach t steps = option_map (λ known. record { steps = known; kind = t }) steps

-- THE contract: as that of a function that judges, with this type beside the answer
abbrev pub Reaches :
    Judged Reached → DbType → Result (Option (List (CoreStepOf CoreExpr))) Memory → Checking → Checking → Type 0
Reaches judged t result old new =
    IfOk result (λ steps. (reach t steps ≡ judged.core) × (new ≡ noting judged.breaches old))
