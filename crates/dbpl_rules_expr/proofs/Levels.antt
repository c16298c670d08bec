-- THE law of a level: the judgement of a factor is one level of it, over the judgement of the phrases in it.
use Rattle.std.proofs.Common.{◌≡◌, List, [], map, Option, Some, None, option_map, refl, ap, ◌∙◌}
use lib.ListN.{length-map}
use Rattle.dbpl_base.specs.declared.place.Place.{Place}
use Rattle.dbpl_judging.specs.Judgements.{Judged, both, made, ◌>>=◌}
use Rattle.dbpl_judging.specs.declared.setting.Setting.{Setting}
use Rattle.dbpl_judging.specs.declared.typed.Typed.{Typed}
use Rattle.dbpl_rules_expr.proofs.Mapped.{call-with, designator-with as by_name, each-with, expr-with, given-with, named-with}
use Rattle.dbpl_rules_expr.specs.Aggregates.{brace_named, counted_kind, packed}
use Rattle.dbpl_rules_expr.specs.Calls.{Given, call, given_by, only_value}
use Rattle.dbpl_rules_expr.specs.Expressions.{judge_aggregate, judge_element, judge_factor, judged, judging}
use Rattle.dbpl_rules_expr.specs.Names.{Named, named}
use Rattle.dbpl_rules_expr.specs.Productions.{Judging, aggregate_value, called_or_not, designator, designator_named, element_value, factor_given, given_value, placed, value}
use Rattle.dbpl_tree.proofs.Folds.{aggregate-out as aggregate-fold, aggregate-roll as aggregate-fold-roll, element-out as element-fold, element-roll as element-fold-roll, factor-out as factor-fold, factor-roll as factor-fold-roll, folded}
use Rattle.dbpl_tree.specs.FirstTokens.{qual_place}
use Rattle.dbpl_tree.specs.Maps.{Making, aggregate_with, arguments_with, designator_with, element_with, expr_with, factor_with, part_with}
use Rattle.dbpl_tree.specs.Plain.{exprs_in}
use Rattle.dbpl_tree.specs.declared.aggregate.Aggregate.{Aggregate, Aggregate-F, out-Aggregate, roll-Aggregate}
use Rattle.dbpl_tree.specs.declared.designator.ArgumentsOf.{ArgumentsOf}
use Rattle.dbpl_tree.specs.declared.designator.DesignatorOf.{DesignatorOf}
use Rattle.dbpl_tree.specs.declared.each.Each.{Each}
use Rattle.dbpl_tree.specs.declared.element.Element.{Element, Element-F, out-Element, roll-Element}
use Rattle.dbpl_tree.specs.declared.element.Element.TheOpen as forms
use Rattle.dbpl_tree.specs.declared.expr.ExprOf.{ExprOf}
use Rattle.dbpl_tree.specs.declared.expr.ExprsOf.{ExprsOf}
use Rattle.dbpl_tree.specs.declared.factor.Factor.{Factor, Factor-F, out-Factor, roll-Factor}
use Rattle.dbpl_tree.specs.declared.range.Range.{Range}

-- ---- what a factor gives, with other things in its place

module _ {F G : Type 0} (h : F → G) (factor : G → Given) where
  abbrev by : F → Given
  by f = factor (h f)

  value-with : (e : ExprOf F) → value factor (expr_with h e) ≡ value by e
  value-with e = expr-with h (given_value factor) e

  designator-with :
      (setting : Setting) (d : DesignatorOf F) → designator factor setting (designator_with h d) ≡ designator by setting d
  designator-with setting d =
      ap (designator_named (value factor) d.head.place) (named-with h setting d.head d.parts)
      ∙ by_name h (value factor) (value by) value-with d.head.place (named setting d.head d.parts)

  call-by :
      (setting : Setting) (d : DesignatorOf F) (es : List (ExprOf F)) →
      call (given_by factor (value factor)) d.head.place (named setting d.head (map (part_with h) d.parts)) (map (expr_with h) es)
      ≡ call (given_by by (value by)) d.head.place (named setting d.head d.parts) es
  call-by setting d es =
      ap (λ (name : Named G). call (given_by factor (value factor)) d.head.place name (map (expr_with h) es))
      (named-with h setting d.head d.parts)
      ∙ call-with h (given_by factor (value factor)) (given_by by (value by))
      (given-with h factor (value factor) (value by) value-with) d.head.place (named setting d.head d.parts) es

  some-called-with :
      (setting : Setting) (d : DesignatorOf F) (place : Place) (es : Option (ExprsOf F)) →
      called_or_not factor setting (designator_with h d) (Some (arguments_with h (record { place = place; exprs = es })))
      ≡ called_or_not by setting d (Some (record { place = place; exprs = es }))
  some-called-with setting d place None = ap only_value (call-by setting d [])
  some-called-with setting d place (Some es) = ap only_value (call-by setting d (exprs_in es))

  pub called-with :
      (setting : Setting) (d : DesignatorOf F) (a : Option (ArgumentsOf F)) →
      called_or_not factor setting (designator_with h d) (option_map (arguments_with h) a) ≡ called_or_not by setting d a
  called-with setting d None = designator-with setting d
  called-with setting d (Some a) = some-called-with setting d a.place a.exprs

-- ---- the levels

module _ {E F R A C V W X Y Z : Type 0} (j : Judging V W Y) (m : Making E F R A C V W X Y Z) where
  -- how phrases are judged by way of others
  abbrev pub through : Judging E F A
  through = record {
    element = λ e. j.element (m.element e);
    factor = λ f. j.factor (m.factor f);
    aggregate = λ a. j.aggregate (m.aggregate a);
  }

  pub factor_given-with : (x : Factor-F E F R A C) → factor_given j (factor_with m x) ≡ factor_given through x
  factor_given-with (forms.Number place n) = refl
  factor_given-with (forms.CharCode place code) = refl
  factor_given-with (forms.Text place bytes) = refl
  factor_given-with (forms.Factor::Aggregate a) = refl
  factor_given-with (forms.Factor::Designator d a) =
      λ i setting. called-with m.factor (λ (f : W). j.factor f setting) setting d a i
  factor_given-with (forms.Parenthesized place e) =
      λ i setting. only_value (made (placed place) (value-with m.factor (λ (f : W). j.factor f setting) e i))
  factor_given-with (forms.Not place operator f) = refl
  factor_given-with (forms.Quantified place quantifier x r e) = refl

  pub element_value-with : (x : Element-F E F R A C) → element_value j (element_with m x) ≡ element_value through x
  element_value-with (forms.Each c e) = refl
  element_value-with (forms.Plain e) = λ i setting. value-with m.factor (λ (f : W). j.factor f setting) e i
  element_value-with (forms.Of target c cs e) = refl

  pub aggregate_value-with : (x : Aggregate-F E F R A C) → aggregate_value j (aggregate_with m x) ≡ aggregate_value through x
  aggregate_value-with x =
      λ i setting. both (brace_named setting x.kind >>= counted_kind (qual_place x.kind) (length-map x.elements m.element i))
      (each-with m.element (λ (v : V). j.element v setting) (λ e. j.element (m.element e) setting) (λ e. refl) x.elements i) >>=
      λ found. packed (qual_place x.kind) found.0 found.1

abbrev all_judged :
    Making Element Factor Range Aggregate Each (Setting → Judged Typed) (Setting → Given) (Unit {0}) (Setting → Judged Typed)
    (Unit {0})
all_judged =
    folded (element_value judged) (factor_given judged) (λ range. tt) (aggregate_value judged) (λ each. tt)

-- THE law of a level
pub factor-out : (x : Factor) → judge_factor x ≡ factor_given judging (out-Factor x)
unfolding judge_factor judge_aggregate judge_element
factor-out x =
    factor-fold (element_value judged) (factor_given judged) (λ range. tt) (aggregate_value judged) (λ each. tt) x
    ∙ factor_given-with judged all_judged (out-Factor x)

pub factor-roll :
    (x : Factor-F Element Factor Range Aggregate Each) → judge_factor (roll-Factor x) ≡ factor_given judging x
unfolding judge_factor judge_aggregate judge_element
factor-roll x =
    factor-fold-roll (element_value judged) (factor_given judged) (λ range. tt) (aggregate_value judged) (λ each. tt) x
    ∙ factor_given-with judged all_judged x

pub element-out : (x : Element) → judge_element x ≡ element_value judging (out-Element x)
unfolding judge_factor judge_aggregate judge_element
element-out x =
    element-fold (element_value judged) (factor_given judged) (λ range. tt) (aggregate_value judged) (λ each. tt) x
    ∙ element_value-with judged all_judged (out-Element x)

pub aggregate-out : (x : Aggregate) → judge_aggregate x ≡ aggregate_value judging (out-Aggregate x)
unfolding judge_factor judge_aggregate judge_element
aggregate-out x =
    aggregate-fold (element_value judged) (factor_given judged) (λ range. tt) (aggregate_value judged) (λ each. tt) x
    ∙ aggregate_value-with judged all_judged (out-Aggregate x)

pub element-roll :
    (x : Element-F Element Factor Range Aggregate Each) → judge_element (roll-Element x) ≡ element_value judging x
unfolding judge_factor judge_aggregate judge_element
element-roll x =
    element-fold-roll (element_value judged) (factor_given judged) (λ range. tt) (aggregate_value judged) (λ each. tt) x
    ∙ element_value-with judged all_judged x

pub aggregate-roll :
    (x : Aggregate-F Element Factor Range Aggregate Each) → judge_aggregate (roll-Aggregate x) ≡ aggregate_value judging x
unfolding judge_factor judge_aggregate judge_element
aggregate-roll x =
    aggregate-fold-roll (element_value judged) (factor_given judged) (λ range. tt) (aggregate_value judged) (λ each. tt) x
    ∙ aggregate_value-with judged all_judged x
