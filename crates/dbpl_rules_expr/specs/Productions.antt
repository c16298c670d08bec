-- THE judgements of the productions of an expression, each by what a factor gives.
use Rattle.std.specs.Prelude.{Option, Some, None, length}
use Rattle.dbpl_base.specs.declared.place.Place.{Place}
use Rattle.dbpl_core.specs.declared.arithmetic_operator.ArithmeticOperator.TheVariants as arithmetic_operators
use Rattle.dbpl_core.specs.declared.logical_operator.LogicalOperator.TheVariants as logical_operators
use Rattle.dbpl_core.specs.declared.relation.Relation.{Relation as CoreRelation}
use Rattle.dbpl_core.specs.declared.relation.Relation.TheVariants as core_relations
use Rattle.dbpl_core.specs.declared.sign.Sign.{Sign}
use Rattle.dbpl_core.specs.declared.sign.Sign.TheVariants as core_signs
use Rattle.dbpl_judging.specs.Judgements.{Judged, both, each, folded, made, unbuilt, ◌>>=◌}
use Rattle.dbpl_judging.specs.declared.setting.Setting.{Setting}
use Rattle.dbpl_judging.specs.declared.typed.Typed.{Typed}
use Rattle.dbpl_rules_expr.specs.Aggregates.{brace_named, counted_kind, packed}
use Rattle.dbpl_rules_expr.specs.Calls.{Designated, Given, call, given_by, only_value}
use Rattle.dbpl_rules_expr.specs.Designators.{denoted, kind_named, operand_named, target, unasked}
use Rattle.dbpl_rules_expr.specs.Names.{Named, named}
use Rattle.dbpl_rules_operators.specs.Literals.{character, number, text}
use Rattle.dbpl_rules_operators.specs.Operators.{arithmetic, compared, logical, negated, signed}
use Rattle.dbpl_tree.specs.FirstTokens.{designator_place, qual_place}
use Rattle.dbpl_tree.specs.Plain.{arguments_in}
use Rattle.dbpl_tree.specs.declared.aggregate.Aggregate.{Aggregate-F}
use Rattle.dbpl_tree.specs.declared.designator.ArgumentsOf.{ArgumentsOf}
use Rattle.dbpl_tree.specs.declared.designator.DesignatorOf.{DesignatorOf}
use Rattle.dbpl_tree.specs.declared.element.Element.{Element-F}
use Rattle.dbpl_tree.specs.declared.element.Element.TheOpen as forms
use Rattle.dbpl_tree.specs.declared.expr.ComparedOf.{ComparedOf}
use Rattle.dbpl_tree.specs.declared.expr.ExprOf.{ExprOf}
use Rattle.dbpl_tree.specs.declared.factor.Factor.{Factor-F}
use Rattle.dbpl_tree.specs.declared.operators.AddingOperator.{AddingOperator}
use Rattle.dbpl_tree.specs.declared.operators.AddingOperator.TheVariants as adding
use Rattle.dbpl_tree.specs.declared.operators.MultiplyingOperator.{MultiplyingOperator}
use Rattle.dbpl_tree.specs.declared.operators.MultiplyingOperator.TheVariants as multiplying
use Rattle.dbpl_tree.specs.declared.operators.Relation.{Relation}
use Rattle.dbpl_tree.specs.declared.operators.Relation.TheVariants as relations
use Rattle.dbpl_tree.specs.declared.operators.SignOperator.{SignOperator}
use Rattle.dbpl_tree.specs.declared.operators.SignOperator.TheVariants as signs
use Rattle.dbpl_tree.specs.declared.simple.SimpleOf.{SimpleOf}
use Rattle.dbpl_tree.specs.declared.term.TermOf.{TermOf}

-- ---- which operator a spelling is

abbrev pub multiplied : Place → MultiplyingOperator → Typed → Typed → Judged Typed
multiplied place multiplying.Times a b = arithmetic place arithmetic_operators.Times a b
multiplied place multiplying.Div a b = arithmetic place arithmetic_operators.Div a b
multiplied place multiplying.Mod a b = arithmetic place arithmetic_operators.Mod a b
multiplied place multiplying.And a b = logical place logical_operators.And a b
multiplied place multiplying.Ampersand a b = logical place logical_operators.And a b

abbrev pub summed : Place → AddingOperator → Typed → Typed → Judged Typed
summed place adding.Plus a b = arithmetic place arithmetic_operators.Plus a b
summed place adding.Minus a b = arithmetic place arithmetic_operators.Minus a b
summed place adding.Or a b = logical place logical_operators.Or a b

abbrev pub sign_of : SignOperator → Sign
sign_of signs.Plus = core_signs.Plus
sign_of signs.Minus = core_signs.Minus

abbrev pub relation_of : Relation → CoreRelation
relation_of relations.Equal = core_relations.Equal
relation_of relations.Hash = core_relations.Unequal
relation_of relations.Unequal = core_relations.Unequal
relation_of relations.Less = core_relations.Less
relation_of relations.LessEqual = core_relations.LessEqual
relation_of relations.Greater = core_relations.Greater
relation_of relations.GreaterEqual = core_relations.GreaterEqual

-- ---- expressions, over what a factor is as an operand

abbrev pub term : {F : Type 0} → (F → Judged Typed) → TermOf F → Judged Typed
term factor t = folded (λ m. factor m.factor) (λ m. multiplied m.place m.operator) (factor t.first) t.others

abbrev pub signed_term : Place → Option SignOperator → Judged Typed → Judged Typed
signed_term place None first = first
signed_term place (Some sign) first = first >>= signed place (sign_of sign)

abbrev pub simple : {F : Type 0} → (F → Judged Typed) → SimpleOf F → Judged Typed
simple factor s =
    folded (λ a. term factor a.term) (λ a. summed a.place a.operator) (signed_term s.place s.sign (term factor s.first)) s.others

-- a left side, and what is compared with it
abbrev pub with_right : {F : Type 0} → (F → Judged Typed) → Judged Typed → Option (ComparedOf F) → Judged Typed
with_right factor left None = left
with_right factor left (Some c) =
    both left (simple factor c.right) >>= λ sides. compared c.place (relation_of c.relation) sides.0 sides.1

abbrev pub expr : {F : Type 0} → (F → Judged Typed) → ExprOf F → Judged Typed
expr factor e = with_right factor (simple factor e.left) e.right

-- ---- what each kind of factor is

-- in parentheses a phrase begins at `(`
abbrev pub placed : Place → Typed → Typed
placed place e = record e { facts = record e.facts { place = place } }

abbrev pub given_value : {F : Type 0} → (F → Given) → F → Judged Typed
given_value factor f = (factor f).value

abbrev pub value : {F : Type 0} → (F → Given) → ExprOf F → Judged Typed
value factor e = expr (given_value factor) e

abbrev pub designated : {F : Type 0} → (ExprOf F → Judged Typed) → Place → Named F → Designated
designated expr place name = record {
  variable = denoted expr place name;
  target = target expr place name;
  kind = kind_named expr place name;
  unasked = unasked expr place name;
}

abbrev pub designator_named : {F : Type 0} → (ExprOf F → Judged Typed) → Place → Named F → Given
designator_named expr place name = record {
  value = operand_named expr place name;
  designated = Some (designated expr place name);
}

abbrev pub designator : {F : Type 0} → (F → Given) → Setting → DesignatorOf F → Given
designator factor setting d = designator_named (value factor) (designator_place d) (named setting d.head d.parts)

abbrev pub called_or_not : {F : Type 0} → (F → Given) → Setting → DesignatorOf F → Option (ArgumentsOf F) → Given
called_or_not factor setting d None = designator factor setting d
called_or_not factor setting d (Some a) =
    only_value (call (given_by factor (value factor)) (designator_place d) (named setting d.head d.parts) (arguments_in a))

-- ---- one level of a factor, an aggregate and an element, over what the phrases in it are

-- how a factor, an element and an aggregate are judged in a setting, whatever they are held as
pub record Judging (E F A : Type 0) : Type 0 where
  pub element : E → Setting → Judged Typed
  pub factor : F → Setting → Given
  pub aggregate : A → Setting → Judged Typed

abbrev pub factor_given : {E F R A C : Type 0} → Judging E F A → Factor-F E F R A C → Setting → Given
factor_given j (forms.Number place n) setting = only_value (number place n)
factor_given j (forms.CharCode place code) setting = only_value (character place code)
factor_given j (forms.Text place bytes) setting = only_value (text place bytes)
factor_given j (forms.Factor::Aggregate a) setting = only_value (j.aggregate a setting)
factor_given j (forms.Factor::Designator d a) setting = called_or_not (λ f. j.factor f setting) setting d a
factor_given j (forms.Parenthesized place e) setting = only_value (made (placed place) (value (λ f. j.factor f setting) e))
factor_given j (forms.Not place operator f) setting = only_value ((j.factor f setting).value >>= negated place)
factor_given j (forms.Quantified place quantifier x r e) setting = only_value unbuilt

-- EACH and OF aren't built yet
abbrev pub element_value : {E F R A C : Type 0} → Judging E F A → Element-F E F R A C → Setting → Judged Typed
element_value j (forms.Plain e) setting = value (λ f. j.factor f setting) e
element_value j _ setting = unbuilt

-- The elements are judged whatever the name before the brace is, and their number is asked whatever they break.
abbrev pub aggregate_value : {E F R A C : Type 0} → Judging E F A → Aggregate-F E F R A C → Setting → Judged Typed
aggregate_value j a setting =
    both (brace_named setting a.kind >>= counted_kind (qual_place a.kind) (length a.elements))
    (each (λ e. j.element e setting) a.elements) >>= λ found.
    packed (qual_place a.kind) found.0 found.1
