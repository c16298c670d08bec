-- By the law of the last step of a check, since no expression is refused without a breach.
use Rattle.std.proofs.Common.{Ok, subst, sym}
use Rattle.dbpl_judging.specs.declared.typed.Typed.{Typed}
use Rattle.dbpl_rules_expr.proofs.Checks.{checked, found_or_noted, made_of_accepted}
use Rattle.dbpl_rules_expr.proofs.ExactPhrases.{expression_exact}
use Rattle.dbpl_rules_expr.specs.Checked.{IsChecked, checked_expr}
use Rattle.dbpl_rules_expr.specs.Expressions.{judge_expr}
use Rattle.dbpl_rules_expr.proofs.check.check_expr.Goals as goal

pub answered-requires : goal.answered-requires
answered-requires c =
    found_or_noted (judge_expr c.args.checker.now.setting c.args.e.now) c.in_ok-found.found c.args.checker.now
    c.judge_expr.new.checker c.requires.first (expression_exact c.args.checker.now.setting c.requires.known c.args.e.now).speaks
    c.in_ok-found.ensures

pub returns : goal.returns
returns c =
    subst (λ tree. IsChecked (checked_expr c.args.checker.now.setting c.args.e.now) c.args.checker.now (Ok tree) c.judge_expr.new.checker)
    (sym c.tree_of.ensures)
    (made_of_accepted (λ (one : Typed). one.tree) (judge_expr c.args.checker.now.setting c.args.e.now) c.in_ok-e.e
    c.args.checker.now c.judge_expr.new.checker
    (checked (judge_expr c.args.checker.now.setting c.args.e.now) c.in_ok-found.found c.args.checker.now
    c.judge_expr.new.checker (Ok c.in_ok-e.e) c.requires.first c.in_ok-found.ensures c.in_ok-e.ensures))
