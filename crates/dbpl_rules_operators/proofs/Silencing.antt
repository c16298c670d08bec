-- That what is resolved of operands and constants breaks no rule.
use Rattle.std.proofs.Common.{ℕ, List}
use Rattle.dbpl_base.specs.declared.place.Place.{Place}
use Rattle.dbpl_core.specs.declared.arithmetic_operator.ArithmeticOperator.{ArithmeticOperator}
use Rattle.dbpl_core.specs.declared.logical_operator.LogicalOperator.{LogicalOperator}
use Rattle.dbpl_core.specs.declared.relation.Relation.{Relation}
use Rattle.dbpl_core.specs.declared.sign.Sign.{Sign}
use Rattle.dbpl_judging.proofs.Silencing.{after_silences, asks_silences, both_silences, good_silences, then_silences}
use Rattle.dbpl_judging.specs.Silences.{Silences}
use Rattle.dbpl_judging.specs.declared.facts.Facts.{Facts}
use Rattle.dbpl_judging.specs.declared.typed.Typed.{Typed}
use Rattle.dbpl_rules_operators.specs.Literals.{character, number, text}
use Rattle.dbpl_rules_operators.specs.Operators.{arithmetic, arithmetic_facts, arithmetic_rules, beside, compared, compared_facts, compared_rules, logical, logical_facts, negated, negated_facts, signed, signed_facts}

-- ---- literals

pub number_silences : (place : Place) (n : ℕ) → Silences (number place n)
number_silences place n = search (after_silences, asks_silences, good_silences)

pub character_silences : (place : Place) (code : ℕ) → Silences (character place code)
character_silences place code = search (after_silences, asks_silences, good_silences)

pub text_silences : (place : Place) (bytes : List ℕ) → Silences (text place bytes)
text_silences place bytes = search (good_silences)

-- ---- operators

pub signed_silences : (place : Place) (sign : Sign) (a : Typed) → Silences (signed place sign a)
unfolding signed signed_facts
signed_silences place sign a = search (then_silences, after_silences, asks_silences, good_silences)

beside_silences : (a b : Facts) → Silences (beside a b)
unfolding beside
beside_silences a b = search (both_silences, asks_silences)

arithmetic_rules_silences :
    (place : Place) (operator : ArithmeticOperator) (a b : Facts) → Silences (arithmetic_rules place operator a b)
unfolding arithmetic_rules
arithmetic_rules_silences place operator a b = search (both_silences, asks_silences, beside_silences)

pub arithmetic_silences :
    (place : Place) (operator : ArithmeticOperator) (a b : Typed) → Silences (arithmetic place operator a b)
unfolding arithmetic arithmetic_facts
arithmetic_silences place operator a b =
    search (then_silences, after_silences, arithmetic_rules_silences, asks_silences, good_silences)

pub logical_silences : (place : Place) (operator : LogicalOperator) (a b : Typed) → Silences (logical place operator a b)
unfolding logical logical_facts
logical_silences place operator a b = search (then_silences, after_silences, asks_silences, good_silences)

pub negated_silences : (place : Place) (a : Typed) → Silences (negated place a)
unfolding negated negated_facts
negated_silences place a = search (then_silences, after_silences, asks_silences, good_silences)

compared_rules_silences : (place : Place) (relation : Relation) (a b : Facts) → Silences (compared_rules place relation a b)
unfolding compared_rules
compared_rules_silences place relation a b = search (both_silences, asks_silences, beside_silences)

pub compared_silences : (place : Place) (relation : Relation) (a b : Typed) → Silences (compared place relation a b)
unfolding compared compared_facts
compared_silences place relation a b = search (then_silences, after_silences, compared_rules_silences, good_silences)
