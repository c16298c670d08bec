-- What each level keeps holds of every tree: of what a factor is, and of the judgements of elements and aggregates.
use Rattle.std.proofs.Common.{sym, subst, ◌∙◌}
use Rattle.dbpl_judging.specs.Judgements.{Judged}
use Rattle.dbpl_judging.specs.declared.setting.Setting.{Setting}
use Rattle.dbpl_judging.specs.declared.typed.Typed.{Typed}
use Rattle.dbpl_rules_expr.proofs.Levels.{aggregate-roll, aggregate_value-with, element-roll, element_value-with, factor-roll, factor_given-with, through}
use Rattle.dbpl_rules_expr.proofs.Maps.{aggregate-map, element-map, factor-map}
use Rattle.dbpl_rules_expr.specs.Calls.{Given}
use Rattle.dbpl_rules_expr.specs.Expressions.{judge_aggregate, judge_element, judge_factor, judging}
use Rattle.dbpl_rules_expr.specs.Productions.{Judging, aggregate_value, element_value, factor_given}
use Rattle.dbpl_tree.specs.Maps.{Making}
use Rattle.dbpl_tree.specs.declared.aggregate.Aggregate.{Aggregate, Aggregate-F}
use Rattle.dbpl_tree.specs.declared.each.Each.{Each}
use Rattle.dbpl_tree.specs.declared.element.Element.{Element, Element-F}
use Rattle.dbpl_tree.specs.declared.factor.Factor.{Factor, Factor-F, ind-Factor}
use Rattle.dbpl_tree.specs.declared.range.Range.{Range}

-- each phrase keeps a law: what is judged, and what a factor is
pub record Keeps (Keep : Judged Typed → Type 0) (Gives : Given → Type 0) {E F A : Type 0} (j : Judging E F A) (setting : Setting) : Type 0 where
  pub element : (e : E) → Keep (j.element e setting)
  pub factor : (f : F) → Gives (j.factor f setting)
  pub aggregate : (a : A) → Keep (j.aggregate a setting)

-- a law that each level keeps where the phrases in it do
pub record KeepsLevels (Keep : Judged Typed → Type 0) (Gives : Given → Type 0) (setting : Setting) : Type 1 where
  pub element :
      {E F R A C : Type 0} (j : Judging E F A) → Keeps Keep Gives j setting → (x : Element-F E F R A C) →
      Keep (element_value j x setting)
  pub factor :
      {E F R A C : Type 0} (j : Judging E F A) → Keeps Keep Gives j setting → (x : Factor-F E F R A C) →
      Gives (factor_given j x setting)
  pub aggregate :
      {E F R A C : Type 0} (j : Judging E F A) → Keeps Keep Gives j setting → (x : Aggregate-F E F R A C) →
      Keep (aggregate_value j x setting)

module _
    (Keep : Judged Typed → Type 0) (Gives : Given → Type 0) (setting : Setting) (levels : KeepsLevels Keep Gives setting) where
  abbrev ElementKeeps : Element → Type 0
  ElementKeeps e = Keep (judge_element e setting)

  abbrev FactorKeeps : Factor → Type 0
  FactorKeeps f = Gives (judge_factor f setting)

  abbrev AggregateKeeps : Aggregate → Type 0
  AggregateKeeps a = Keep (judge_aggregate a setting)

  -- the phrases of a level, without what they keep
  abbrev phrases :
      Making ((e : Element) × ElementKeeps e) ((f : Factor) × FactorKeeps f) ((r : Range) × Unit {0})
      ((a : Aggregate) × AggregateKeeps a) ((c : Each) × Unit {0}) Element Factor Range Aggregate Each
  phrases = record {
    element = λ one. one.0;
    factor = λ one. one.0;
    range = λ one. one.0;
    aggregate = λ one. one.0;
    each = λ one. one.0;
  }

  all_keep : Keeps Keep Gives (through judging phrases) setting
  all_keep = record { element = λ one. one.1; factor = λ one. one.1; aggregate = λ one. one.1 }

  pub factor_keeps : (f : Factor) → Gives (judge_factor f setting)
  factor_keeps =
      ind-Factor ElementKeeps FactorKeeps (λ range. Unit {0}) AggregateKeeps (λ each. Unit {0})
      (λ x y is.
      subst (λ (judgement : Setting → Judged Typed). Keep (judgement setting)) (sym (element-roll x))
      (subst (λ (z : Element-F Element Factor Range Aggregate Each). Keep (element_value judging z setting))
      (sym (element-map phrases y) ∙ is)
      (subst (λ (judgement : Setting → Judged Typed). Keep (judgement setting)) (sym (element_value-with judging phrases y))
      (levels.element (through judging phrases) all_keep y))))
      (λ x y is.
      subst (λ (judgement : Setting → Given). Gives (judgement setting)) (sym (factor-roll x))
      (subst (λ (z : Factor-F Element Factor Range Aggregate Each). Gives (factor_given judging z setting))
      (sym (factor-map phrases y) ∙ is)
      (subst (λ (judgement : Setting → Given). Gives (judgement setting)) (sym (factor_given-with judging phrases y))
      (levels.factor (through judging phrases) all_keep y))))
      (λ x y is. tt)
      (λ x y is.
      subst (λ (judgement : Setting → Judged Typed). Keep (judgement setting)) (sym (aggregate-roll x))
      (subst (λ (z : Aggregate-F Element Factor Range Aggregate Each). Keep (aggregate_value judging z setting))
      (sym (aggregate-map phrases y) ∙ is)
      (subst (λ (judgement : Setting → Judged Typed). Keep (judgement setting)) (sym (aggregate_value-with judging phrases y))
      (levels.aggregate (through judging phrases) all_keep y))))
      (λ x y is. tt)
