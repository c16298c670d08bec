-- THE judgement of expressions: the productions, with the judgement of the factors in them.
use Rattle.std.specs.Prelude.{ℕ, if◌then◌else◌, List, Option, Some, None}
use Rattle.dbpl_base.specs.declared.place.Place.{Place}
use Rattle.dbpl_judging.specs.Judgements.{Judged, each, made, ◌>>=◌}
use Rattle.dbpl_judging.specs.declared.setting.Setting.{Setting}
use Rattle.dbpl_judging.specs.declared.typed.Typed.{Typed}
use Rattle.dbpl_rules_calls.specs.Asking.{asked_by}
use Rattle.dbpl_rules_calls.specs.declared.argument.Argument.{Argument}
use Rattle.dbpl_rules_calls.specs.declared.argument.Argument.TheVariants as arguments
use Rattle.dbpl_rules_calls.specs.declared.asked.Asked.{Asked}
use Rattle.dbpl_rules_calls.specs.declared.denoted.Denoted.{Denoted}
use Rattle.dbpl_rules_expr.specs.Calls.{Given, argument, asked_of, call_by, callee_named, given_by, is_lone, of_nothing, or_breaks}
use Rattle.dbpl_rules_expr.specs.Designators.{alone, at_part, changed_by, denoted, denoted_by, kind_named, operand_named, part_indices, reached, target, unasked}
use Rattle.dbpl_rules_expr.specs.Names.{Named, named}
use Rattle.dbpl_rules_expr.specs.Productions.{Judging, aggregate_value, element_value, factor_given, placed, signed_term, simple, term, value}
use Rattle.dbpl_rules_expr.specs.declared.reached.Reached.{Reached}
use Rattle.dbpl_rules_operators.specs.Operators.{negated}
use Rattle.dbpl_symbols.specs.declared.decl.Decl.{Decl}
use Rattle.dbpl_tree.specs.FirstTokens.{designator_place}
use Rattle.dbpl_tree.specs.declared.aggregate.Aggregate.{Aggregate, fold-Aggregate}
use Rattle.dbpl_tree.specs.declared.designator.DesignatorOf.{DesignatorOf}
use Rattle.dbpl_tree.specs.declared.designator.PartOf.{PartOf}
use Rattle.dbpl_tree.specs.declared.element.Element.{Element, fold-Element, out-Element}
use Rattle.dbpl_tree.specs.declared.element.Element.TheOpen as forms
use Rattle.dbpl_tree.specs.declared.expr.ExprOf.{ExprOf}
use Rattle.dbpl_tree.specs.declared.factor.Factor.{Factor, Factor-F, fold-Factor, out-Factor}
use Rattle.dbpl_tree.specs.declared.simple.SimpleOf.{SimpleOf}
use Rattle.dbpl_tree.specs.declared.term.TermOf.{TermOf}
use Rattle.dbpl_value.specs.declared.db_type.DbType.{DbType}

-- for a level whose parts are judged already: each as it is
abbrev pub judged : Judging (Setting → Judged Typed) (Setting → Given) (Setting → Judged Typed)
judged = record {
  element = λ judgement. judgement;
  factor = λ judgement. judgement;
  aggregate = λ judgement. judgement;
}

unfoldable pub judge_factor : Factor → Setting → Given
judge_factor f =
    fold-Factor (Setting → Judged Typed) (Setting → Given) (Unit {0}) (Setting → Judged Typed) (Unit {0}) (element_value judged)
    (factor_given judged) (λ range. tt) (aggregate_value judged) (λ each. tt) f

unfoldable pub judge_aggregate : Aggregate → Setting → Judged Typed
judge_aggregate a =
    fold-Aggregate (Setting → Judged Typed) (Setting → Given) (Unit {0}) (Setting → Judged Typed) (Unit {0})
    (element_value judged) (factor_given judged) (λ range. tt) (aggregate_value judged) (λ each. tt) a

unfoldable pub judge_element : Element → Setting → Judged Typed
judge_element e =
    fold-Element (Setting → Judged Typed) (Setting → Given) (Unit {0}) (Setting → Judged Typed) (Unit {0}) (element_value judged)
    (factor_given judged) (λ range. tt) (aggregate_value judged) (λ each. tt) e

-- how the phrases of a tree are judged
abbrev pub judging : Judging Element Factor Aggregate
judging = record { element = judge_element; factor = judge_factor; aggregate = judge_aggregate }

abbrev pub factor_judged : Setting → Factor → Given
factor_judged setting f = judge_factor f setting

-- THE judgement of an expression in a setting
unfoldable pub judge_expr : Setting → ExprOf Factor → Judged Typed
judge_expr setting e = value (factor_judged setting) e

-- ---- the judgements of the phrases in it

abbrev pub factor_value : Setting → Factor → Judged Typed
factor_value setting f = (judge_factor f setting).value

-- the same, one level of it
abbrev pub factor_opened : Setting → Factor → Judged Typed
factor_opened setting f = (factor_given judging (out-Factor f) setting).value

abbrev pub element_opened : Setting → Element → Judged Typed
element_opened setting e = element_value judging (out-Element e) setting

abbrev pub negated_judged : Setting → Place → Factor → Judged Typed
negated_judged setting place f = factor_value setting f >>= negated place

abbrev pub parenthesized_judged : Setting → Place → ExprOf Factor → Judged Typed
parenthesized_judged setting place e = made (placed place) (judge_expr setting e)

abbrev pub term_judged : Setting → TermOf Factor → Judged Typed
term_judged setting t = term (factor_value setting) t

-- the first term of a sum, with its sign
abbrev pub first_judged : Setting → SimpleOf Factor → Judged Typed
first_judged setting s = signed_term s.place s.sign (term_judged setting s.first)

abbrev pub simple_judged : Setting → SimpleOf Factor → Judged Typed
simple_judged setting s = simple (factor_value setting) s

abbrev pub elements_judged : Setting → List Element → Judged (List Typed)
elements_judged setting es = each (λ e. judge_element e setting) es

abbrev pub exprs_judged : Setting → List (ExprOf Factor) → Judged (List Typed)
exprs_judged setting es = each (judge_expr setting) es

-- ---- designators

abbrev pub named_by : Setting → DesignatorOf Factor → Named Factor
named_by setting d = named setting d.head d.parts

abbrev pub part_judged : Setting → PartOf Factor → Option Reached → Judged Reached
part_judged setting part before = at_part (judge_expr setting) part before

abbrev pub parts_judged : Setting → Judged Reached → List (PartOf Factor) → Judged Reached
parts_judged setting start parts = reached (judge_expr setting) start parts

abbrev pub whole_judged : Setting → List (PartOf Factor) → Option Denoted → Judged Denoted
whole_judged setting parts whole = denoted_by (judge_expr setting) parts whole

abbrev pub variable_judged : Setting → DesignatorOf Factor → Judged Denoted
variable_judged setting d = denoted (judge_expr setting) (designator_place d) (named_by setting d)

abbrev pub changed_judged : Setting → List (PartOf Factor) → Option Denoted → Judged Denoted
changed_judged setting parts whole = changed_by (judge_expr setting) parts whole

abbrev pub target_judged : Setting → DesignatorOf Factor → Judged Denoted
target_judged setting d = target (judge_expr setting) (designator_place d) (named_by setting d)

abbrev pub operand_judged : Setting → DesignatorOf Factor → Judged Typed
operand_judged setting d = operand_named (judge_expr setting) (designator_place d) (named_by setting d)

abbrev pub indices_judged : Setting → PartOf Factor → Judged (List Typed)
indices_judged setting part = part_indices (judge_expr setting) part

abbrev pub alone_judged : Setting → DesignatorOf Factor → Judged Decl
alone_judged setting d = alone (judge_expr setting) (designator_place d) (named_by setting d)

abbrev pub kind_judged : Setting → DesignatorOf Factor → Judged DbType
kind_judged setting d = kind_named (judge_expr setting) (designator_place d) (named_by setting d)

abbrev pub callee_judged : Setting → DesignatorOf Factor → Judged Decl
callee_judged setting d = callee_named (judge_expr setting) (designator_place d) (named_by setting d)

abbrev pub unasked_judged : Setting → DesignatorOf Factor → Judged Argument
unasked_judged setting d =
    made (λ none. arguments.Nothing) (unasked (judge_expr setting) (designator_place d) (named_by setting d))

-- ---- arguments

abbrev pub lone_level : {E F R A C : Type 0} → Factor-F E F R A C → Option (DesignatorOf F)
lone_level (forms.Factor::Designator d None) = Some d
lone_level _ = None

-- the designator without parentheses that an expression is, if it is one and nothing else
abbrev pub lone_designator : ExprOf Factor → Option (DesignatorOf Factor)
lone_designator e = if is_lone e then lone_level (out-Factor e.left.first.first) else None

abbrev pub given_judged : Setting → ExprOf Factor → Given
given_judged setting e = given_by (factor_judged setting) (judge_expr setting) e

abbrev pub variable_given : Setting → ExprOf Factor → Judged Denoted
variable_given setting e = or_breaks 38 e.place (λ designated. designated.variable) (given_judged setting e)

abbrev pub target_given : Setting → ExprOf Factor → Judged Denoted
target_given setting e = or_breaks 53 e.place (λ designated. designated.target) (given_judged setting e)

abbrev pub kind_given : Setting → ExprOf Factor → Judged DbType
kind_given setting e = or_breaks 40 e.place (λ designated. designated.kind) (given_judged setting e)

abbrev pub nothing_given : Setting → ExprOf Factor → Judged Argument
nothing_given setting e = made (λ none. arguments.Nothing) (of_nothing (given_judged setting e))

abbrev pub argument_judged : Setting → Asked → ExprOf Factor → Judged Argument
argument_judged setting asked e = argument asked e.place (given_judged setting e)

-- the argument of this number, of so many
abbrev pub argument_at : Option Decl → ℕ → Setting → ℕ → ExprOf Factor → Judged Argument
argument_at decl count setting number e = argument_judged setting (asked_of (asked_by decl count) number) e

abbrev pub call_judged : Setting → Place → List (ExprOf Factor) → Option Decl → Judged Typed
call_judged setting place es decl = call_by (given_judged setting) place es decl
