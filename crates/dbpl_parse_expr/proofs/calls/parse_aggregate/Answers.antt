-- By the laws of what is read.
use Rattle.std.proofs.Common.{◌-◌, ℕ, drop}
use Rattle.dbpl_base.specs.declared.limits.TheConstants.{PHRASE_DEPTH}
use Rattle.dbpl_grammar.specs.Expressions.{aggregate, at_depth}
use Rattle.dbpl_tree.specs.Depths.{aggregate_depth}
use Rattle.dbpl_tree.specs.Factors.{aggregate_marks}
use Rattle.dbpl_parse_expr.proofs.CallLaw.{PhraseLaws, is_answer}
use Rattle.dbpl_parse_expr.proofs.calls.parse_aggregate.Goals as goal

pub returns : goal.returns
returns c =
    let law = c.reads_aggregates.ensures in
    let laws : PhraseLaws aggregate_marks aggregate_depth (λ (limit : ℕ). aggregate (at_depth limit)) = record { found = law.found; only = law.only; refused = law.refused; begun = law.begun; named = law.named } in
    let tokens = c.args.tokens.now in
    let is = is_answer laws (PHRASE_DEPTH - c.args.depth) c.saturating_sub.result tokens (drop c.args.at tokens) c.aggregate.result c.answered.result c.saturating_sub.ensures c.aggregate.ensures c.answered.ensures in
    record { reads = is.reads; found = is.found; only = is.only; refused = is.refused; placed = is.placed }
