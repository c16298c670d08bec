-- What is answered where a phrase is checked: what it resolves to, or the least of its breaches.
use Rattle.std.specs.Prelude.{◌≡◌, [], Option, Some, None, Result, Ok, Err}
use Rattle.dbpl_base.specs.declared.refusal.Refusal.{Refusal}
use Rattle.dbpl_core.specs.declared.expr.CoreExpr.{CoreExpr}
use Rattle.dbpl_judging.specs.Checking.{Checking, least, noting}
use Rattle.dbpl_judging.specs.Judgements.{Judged, made}
use Rattle.dbpl_judging.specs.Stages.{Staged, in_scope}
use Rattle.dbpl_judging.specs.declared.setting.Setting.{Setting}
use Rattle.dbpl_rules_expr.specs.Expressions.{judge_expr}
use Rattle.dbpl_rules_expr.specs.declared.rule_err.RuleErr.{RuleErr}
use Rattle.dbpl_rules_expr.specs.declared.rule_err.RuleErr.TheVariants as errors
use Rattle.dbpl_tree.specs.declared.expr.ExprOf.{ExprOf}
use Rattle.dbpl_tree.specs.declared.factor.Factor.{Factor}

-- THE contract of a function that checks a phrase to which nothing was noted before. Unless memory is wanted, it answers what the
-- phrase resolves to where that breaks no rule, and else the least of its breaches. The checker is then `behind` with all of them
-- noted, which is `behind` where no rule is broken.
abbrev pub IsChecked : {A : Type 0} → Judged A → Checking → Result A RuleErr → Checking → Type 0
IsChecked judged behind (Ok found) new = (judged.breaches ≡ []) × (judged.core ≡ Some found) × (new ≡ behind)
IsChecked judged behind (Err (errors.Breach breach)) new =
    (least judged.breaches ≡ Some breach) × (new ≡ noting judged.breaches behind)
IsChecked judged behind (Err errors.Memory) new = Unit {0}

-- THE same of what declares: where it breaks no rule the checker is in the scope that it leaves
abbrev pub IsCheckedStage : {A : Type 0} → Staged A → Result A RuleErr → Checking → Checking → Type 0
IsCheckedStage staged result old new =
    IsChecked (record { breaches = staged.breaches; core = staged.core }) (in_scope staged.scope old) result new

-- an expression, as it goes on from the rules: its tree
abbrev pub checked_expr : Setting → ExprOf Factor → Judged CoreExpr
checked_expr setting e = made (λ typed. typed.tree) (judge_expr setting e)

-- ---- the last step of a check

-- the least breach, or what was found where there is none
abbrev pub Answers : {A : Type 0} → Option Refusal → Option A → Result A RuleErr → Type 0
Answers (Some breach) found result = result ≡ Err (errors.Breach breach)
Answers None (Some found) result = result ≡ Ok found
Answers None None result = ⊥
