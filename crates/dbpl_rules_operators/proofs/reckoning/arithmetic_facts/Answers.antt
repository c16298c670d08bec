use Rattle.std.proofs.Common.{sym, ◌∙◌}
use Rattle.dbpl_rules_operators.proofs.Behind.{broken_behind, unlawful}
use Rattle.dbpl_rules_operators.proofs.reckoning.arithmetic_facts.Goals as goal
use Rattle.dbpl_rules_operators.specs.Constants.{reckoned as reckoned_of}
use Rattle.dbpl_rules_operators.specs.Operators.{arithmetic_facts, arithmetic_rules as judged_rules}
use Rattle.dbpl_rules_operators.specs.Rules.{S15}

-- the rules on the operands are kept, and what is reckoned of them lies in no whole host
pub returns-in_default : goal.returns-in_default
unfolding arithmetic_facts
returns-in_default c =
    let number = reckoned_of c.args.operator c.args.a.now.number c.args.b.now.number in
    broken_behind (judged_rules c.args.place c.args.operator c.args.a.now c.args.b.now) 15 c.args.place (S15 number) _
    c.args.checker.now c.arithmetic_rules.new.checker c.breaks.new.self
    (sym c.if-not-arithmetic_rules.ensures.answer) c.arithmetic_rules.ensures.noted
    (unlawful number (sym c.reckoned.ensures ∙ c.in_default.is)) c.breaks.ensures
