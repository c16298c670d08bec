-- That no operand or constant is refused without a breach.
use Rattle.std.proofs.Common.{ℕ, List}
use Rattle.dbpl_base.specs.declared.place.Place.{Place}
use Rattle.dbpl_core.specs.declared.arithmetic_operator.ArithmeticOperator.{ArithmeticOperator}
use Rattle.dbpl_core.specs.declared.logical_operator.LogicalOperator.{LogicalOperator}
use Rattle.dbpl_core.specs.declared.relation.Relation.{Relation}
use Rattle.dbpl_core.specs.declared.sign.Sign.{Sign}
use Rattle.dbpl_judging.proofs.Speaking.{after_speaks, asks_speaks, both_speaks, good_speaks, then_speaks}
use Rattle.dbpl_judging.specs.Speaks.{Speaks}
use Rattle.dbpl_judging.specs.declared.facts.Facts.{Facts}
use Rattle.dbpl_judging.specs.declared.typed.Typed.{Typed}
use Rattle.dbpl_rules_operators.specs.Literals.{character, number, text}
use Rattle.dbpl_rules_operators.specs.Operators.{arithmetic, arithmetic_facts, arithmetic_rules, beside, compared, compared_facts, compared_rules, logical, logical_facts, negated, negated_facts, signed, signed_facts}

-- ---- literals

pub number_speaks : (place : Place) (n : ℕ) → Speaks (number place n)
number_speaks place n = search (after_speaks, asks_speaks, good_speaks)

pub character_speaks : (place : Place) (code : ℕ) → Speaks (character place code)
character_speaks place code = search (after_speaks, asks_speaks, good_speaks)

pub text_speaks : (place : Place) (bytes : List ℕ) → Speaks (text place bytes)
text_speaks place bytes = search (good_speaks)

-- ---- operators

pub signed_speaks : (place : Place) (sign : Sign) (a : Typed) → Speaks (signed place sign a)
unfolding signed signed_facts
signed_speaks place sign a = search (then_speaks, after_speaks, asks_speaks, good_speaks)

beside_speaks : (a b : Facts) → Speaks (beside a b)
unfolding beside
beside_speaks a b = search (both_speaks, asks_speaks)

arithmetic_rules_speaks :
    (place : Place) (operator : ArithmeticOperator) (a b : Facts) → Speaks (arithmetic_rules place operator a b)
unfolding arithmetic_rules
arithmetic_rules_speaks place operator a b = search (both_speaks, asks_speaks, beside_speaks)

pub arithmetic_speaks :
    (place : Place) (operator : ArithmeticOperator) (a b : Typed) → Speaks (arithmetic place operator a b)
unfolding arithmetic arithmetic_facts
arithmetic_speaks place operator a b =
    search (then_speaks, after_speaks, arithmetic_rules_speaks, asks_speaks, good_speaks)

pub logical_speaks : (place : Place) (operator : LogicalOperator) (a b : Typed) → Speaks (logical place operator a b)
unfolding logical logical_facts
logical_speaks place operator a b = search (then_speaks, after_speaks, asks_speaks, good_speaks)

pub negated_speaks : (place : Place) (a : Typed) → Speaks (negated place a)
unfolding negated negated_facts
negated_speaks place a = search (then_speaks, after_speaks, asks_speaks, good_speaks)

compared_rules_speaks : (place : Place) (relation : Relation) (a b : Facts) → Speaks (compared_rules place relation a b)
unfolding compared_rules
compared_rules_speaks place relation a b = search (both_speaks, asks_speaks, beside_speaks)

pub compared_speaks : (place : Place) (relation : Relation) (a b : Typed) → Speaks (compared place relation a b)
unfolding compared compared_facts
compared_speaks place relation a b = search (then_speaks, after_speaks, compared_rules_speaks, good_speaks)
