-- By the laws of the phrases.
use Rattle.dbpl_rules_expr.proofs.ExactPhrases.{changed_exact, expression_exact, given_arguments_exact, qual_named_exact, routine_exact, type_exact, variable_exact}
use Rattle.dbpl_rules_expr.proofs.laws.exact_expressions.Goals as goal

pub returns-clause-expr : goal.returns-clause-expr
returns-clause-expr c = expression_exact

pub returns-clause-variable : goal.returns-clause-variable
returns-clause-variable c = variable_exact

pub returns-clause-target : goal.returns-clause-target
returns-clause-target c = changed_exact

pub returns-clause-kind : goal.returns-clause-kind
returns-clause-kind c = type_exact

pub returns-clause-callee : goal.returns-clause-callee
returns-clause-callee c = routine_exact

pub returns-clause-name : goal.returns-clause-name
returns-clause-name c = λ setting known q. qual_named_exact setting q known

pub returns-clause-arguments : goal.returns-clause-arguments
returns-clause-arguments c = given_arguments_exact
