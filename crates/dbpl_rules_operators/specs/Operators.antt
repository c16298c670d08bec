-- Operators: which rules are asked of their operands, at which place, and what they make of operands that keep them. Rules
-- that are broken independently stand side by side (`both`); behind `>>` stands what needs them kept.
use Rattle.std.specs.Prelude.{ℕ, ℤ, Bool, ◌&&◌, ◌||◌, if◌then◌else◌, Option}
use Rattle.dbpl_base.specs.declared.place.Place.{Place}
use Rattle.dbpl_core.specs.declared.arithmetic_operator.ArithmeticOperator.{ArithmeticOperator}
use Rattle.dbpl_core.specs.declared.comparison.Comparison.{Comparison}
use Rattle.dbpl_core.specs.declared.comparison.Comparison.TheVariants as comparisons
use Rattle.dbpl_core.specs.declared.expr.CoreExpr.{CoreExpr}
use Rattle.dbpl_core.specs.declared.expr.CoreExpr.TheVariants as trees
use Rattle.dbpl_core.specs.declared.logical_operator.LogicalOperator.{LogicalOperator}
use Rattle.dbpl_core.specs.declared.relation.Relation.{Relation}
use Rattle.dbpl_core.specs.declared.relation.Relation.TheVariants as relation
use Rattle.dbpl_core.specs.declared.sign.Sign.{Sign}
use Rattle.dbpl_judging.specs.Judgements.{Judged, asks, both, good, ◌>>=◌, ◌>>◌}
use Rattle.dbpl_judging.specs.declared.facts.Facts.{Facts}
use Rattle.dbpl_judging.specs.declared.kind.Kind.{Kind}
use Rattle.dbpl_judging.specs.declared.kind.Kind.TheVariants as phrases
use Rattle.dbpl_judging.specs.declared.typed.Typed.{Typed}
use Rattle.dbpl_rules_operators.specs.Constants.{reckoned, reckoned_logic, reckoned_not, reckoned_relation, reckoned_sign}
use Rattle.dbpl_rules_operators.specs.Fitting.{as_ordinal, as_type}
use Rattle.dbpl_rules_operators.specs.Hosts.{host, is_other, joined, result_host, whole_kind}
use Rattle.dbpl_rules_operators.specs.Rules.{S15, S15_divisor, S25, S26, S27, S28, S29, S30}
use Rattle.dbpl_value.specs.declared.db_type.DbType.TheVariants as types

-- a phrase by its facts and its tree
abbrev pub typed : CoreExpr → Facts → Typed
typed tree facts = record { facts = facts; tree = tree }

-- what is known of a phrase that is TRUE or FALSE
abbrev pub boolean : Place → Option ℤ → Facts
boolean place number = record { place = place; kind = phrases.Of types.Bool; number = number }

-- each of two operands beside the other: a whole constant lies in the other one's host
unfoldable pub beside : Facts → Facts → Judged (Unit {0} × Unit {0})
beside a b = both (asks 29 a.place (S29 a (host b.kind))) (asks 29 b.place (S29 b (host a.kind)))

-- ---- signs

unfoldable pub signed_facts : Place → Sign → Facts → Judged Facts
signed_facts place sign a =
    asks 30 place (S30 (host a.kind)) >>
    asks 15 place (S15 (reckoned_sign sign a.number)) >>
    good (record {
      place = place;
      kind = whole_kind (host a.kind);
      number = reckoned_sign sign a.number;
    })

-- THE judgement of a sign, which stands at this place, before an operand
unfoldable pub signed : Place → Sign → Typed → Judged Typed
signed place sign a =
    signed_facts place sign a.facts >>= λ facts.
    good (typed (trees.Signed place sign (result_host (host a.facts.kind)) a.tree) facts)

-- ---- arithmetic

-- what the operands keep
unfoldable pub arithmetic_rules :
    Place → ArithmeticOperator → Facts → Facts → Judged (Unit {0} × (Unit {0} × (Unit {0} × Unit {0})))
arithmetic_rules place operator a b =
    both (asks 25 place (S25 (host a.kind) (host b.kind)))
    (both (asks 15 place (S15_divisor operator (host a.kind) (host b.kind) b.number)) (beside a b))

unfoldable pub arithmetic_facts : Place → ArithmeticOperator → Facts → Facts → Judged Facts
arithmetic_facts place operator a b =
    arithmetic_rules place operator a b >>
    asks 15 place (S15 (reckoned operator a.number b.number)) >>
    good (record {
      place = a.place;
      kind = whole_kind (joined (host a.kind) (host b.kind));
      number = reckoned operator a.number b.number;
    })

-- THE judgement of an arithmetic operator, which stands at this place, between two operands
unfoldable pub arithmetic : Place → ArithmeticOperator → Typed → Typed → Judged Typed
arithmetic place operator a b =
    arithmetic_facts place operator a.facts b.facts >>= λ facts.
    good
    (typed
    (trees.Arithmetic a.facts.place place operator
    (result_host (joined (host a.facts.kind) (host b.facts.kind))) a.tree b.tree)
    facts)

-- ---- AND, OR and NOT

unfoldable pub logical_facts : Place → LogicalOperator → Facts → Facts → Judged Facts
logical_facts place operator a b =
    asks 26 place (S26 (host a.kind) && S26 (host b.kind)) >>
    good (boolean a.place (reckoned_logic operator a.number b.number))

-- THE judgement of AND or OR
unfoldable pub logical : Place → LogicalOperator → Typed → Typed → Judged Typed
logical place operator a b =
    logical_facts place operator a.facts b.facts >>= λ facts.
    good (typed (trees.Logical a.facts.place operator a.tree b.tree) facts)

unfoldable pub negated_facts : Place → Facts → Judged Facts
negated_facts place a =
    asks 26 place (S26 (host a.kind)) >> good (boolean place (reckoned_not a.number))

-- THE judgement of NOT
unfoldable pub negated : Place → Typed → Judged Typed
negated place a = negated_facts place a.facts >>= λ facts. good (typed (trees.Not place a.tree) facts)

-- ---- comparisons

-- the rule that a relation asks of its operands
abbrev pub relation_rule : Relation → ℕ
relation_rule relation.Equal = 27
relation_rule relation.Unequal = 27
relation_rule _ = 28

abbrev pub may_compare : Relation → Kind → Kind → Bool
may_compare relation.Equal one other = S27 one other
may_compare relation.Unequal one other = S27 one other
may_compare _ one other = S28 one other

-- what the operands keep
unfoldable pub compared_rules : Place → Relation → Facts → Facts → Judged (Unit {0} × (Unit {0} × Unit {0}))
compared_rules place relation a b =
    both (asks (relation_rule relation) place (may_compare relation a.kind b.kind)) (beside a b)

unfoldable pub compared_facts : Place → Relation → Facts → Facts → Judged Facts
compared_facts place relation a b =
    compared_rules place relation a b >>
    good (boolean a.place (reckoned_relation relation a.number b.number))

-- by their numbers where both are ordinal, else as values
abbrev pub compared_as : Kind → Kind → Comparison
compared_as one other =
    if is_other (host one) || is_other (host other) then comparisons.Values else comparisons.Numbers

-- an operand beside one of this kind: a string has the array's type beside an array, and is its character beside a CHAR
unfoldable pub operand : Kind → Typed → CoreExpr
operand (phrases.Of t) e = as_type t e
operand _ e = as_ordinal e

unfoldable pub compared_tree : Place → Relation → Typed → Typed → CoreExpr
compared_tree place relation a b =
    trees.Compared a.facts.place place relation (compared_as a.facts.kind b.facts.kind)
    (operand b.facts.kind a) (operand a.facts.kind b)

-- THE judgement of a relation between two operands
unfoldable pub compared : Place → Relation → Typed → Typed → Judged Typed
compared place relation a b =
    compared_facts place relation a.facts b.facts >>= λ facts. good (typed (compared_tree place relation a b) facts)
