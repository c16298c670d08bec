-- By the laws of what is read.
use Rattle.std.proofs.Common.{◌-◌, ℕ, drop}
use Rattle.dbpl_base.specs.declared.limits.TheConstants.{PHRASE_DEPTH}
use Rattle.dbpl_grammar.specs.Expressions.{at_depth}
use Rattle.dbpl_tree.specs.Depths.{expr_depth, factor_depth}
use Rattle.dbpl_tree.specs.Expressions.{expr_marks}
use Rattle.dbpl_tree.specs.Factors.{factor_marks}
use Rattle.dbpl_parse_expr.proofs.CallLaw.{PhraseLaws, is_answer}
use Rattle.dbpl_parse_expr.proofs.calls.parse_expr.Goals as goal

pub returns : goal.returns
returns c =
    let law = c.reads_expressions.ensures in
    let laws : PhraseLaws (expr_marks factor_marks) (expr_depth factor_depth) (λ (limit : ℕ). (at_depth limit).expr) = record { found = law.found; only = law.only; refused = law.refused; begun = law.begun; named = law.named } in
    let tokens = c.args.tokens.now in
    let is = is_answer laws (PHRASE_DEPTH - c.args.depth) c.saturating_sub.result tokens (drop c.args.at tokens) c.expr.result c.answered.result c.saturating_sub.ensures c.expr.ensures c.answered.ensures in
    record { reads = is.reads; found = is.found; only = is.only; refused = is.refused; placed = is.placed }
