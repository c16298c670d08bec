use Rattle.std.proofs.Common.{◌≡◌, ◌+◌, ◌<◌, length, get_or, Some, Ok, refl, ap, sym, subst, ◌∙◌}
use Rattle.std.specs.Option.{option_copied}
use Rattle.dbpl_judging.proofs.Sequence.{one_more, one_more_of_list, then}
use Rattle.dbpl_judging.specs.Judgements.{breaks, good, of}
use Rattle.dbpl_judging.specs.Judging.{Judges}
use Rattle.dbpl_rules_calls.specs.Arguments.{characters_argument, counted_argument, kind_argument, standard_argument, value_argument, variable_argument}
use Rattle.dbpl_rules_calls.specs.declared.asked.Asked.TheVariants as places
use Rattle.dbpl_rules_expr.proofs.Phrases.{aggregate_by, alone_by, argument_by, call_made, call_opened, callee_by, compared_by, designator_opened, element_met, factor_met, kind_by, lone_met, more_parts, next_at, next_of_list, nothing_met, other_met, signed_by, subscripts_by, target_by, unasked_met, whole_by}
use Rattle.dbpl_rules_expr.specs.Expressions.{argument_at, factor_value, first_judged, indices_judged, judge_element, kind_given, part_judged, target_given, term_judged, variable_given}
use Rattle.dbpl_rules_expr.specs.Expressions.{judge_expr as expr_judged}
use Rattle.dbpl_rules_expr.specs.Productions.{multiplied, summed}
use Rattle.dbpl_rules_expr.specs.Reaching.{reach}
use Rattle.dbpl_rules_operators.specs.Operators.{negated}
use Rattle.dbpl_tree.specs.Plain.{arguments_in}
use Rattle.dbpl_value.specs.declared.db_type.DbType
use Rattle.dbpl_rules_expr.proofs.expressions.+judged_phrases.Goals as goal

pub judge_aggregate-returns : goal.judge_aggregate-returns
judge_aggregate-returns t c =
    aggregate_by c.args.a.now c.place.result c.place-2.result c.len.result c.in_ok-t.t c.counted_kind-t.result c.in_ok-t-2.t
    c.judge_elements.result c.in_ok-t-2.parts c.packed.result c.args.checker.now c.brace_named.new.checker
    c.counted_kind-t.new.checker c.judge_elements.new.checker c.packed.new.checker c.place.ensures c.place-2.ensures c.len.ensures
    c.in_ok-t.ensures c.counted_kind-t.ensures c.judge_elements.ensures c.in_ok-t-2.ensures.ok c.packed.ensures

pub judge_all_indices-loop-part-preserved : goal.judge_all_indices-loop-part-preserved
judge_all_indices-loop-part-preserved t c =
    one_more_of_list (λ setting. indices_judged setting) c.args.parts.now c.loop-part.part-index c.part-item.result c.loop-part.list
    c.judge_indices.result c.in_ok-list.list c.args.checker.now c.loop-part.checker c.judge_indices.new.checker
    c.loop-part-test.true c.part-item.is c.loop-part.invariant c.judge_indices.ensures c.in_ok-list.ensures.ok

pub judge_alone-returns : goal.judge_alone-returns
judge_alone-returns t c =
    alone_by c.args.d.now c.setting.result.now c.parts_of-parts.result.now c.in_ok-decl.decl c.in_ok-decl-2.decl
    c.judge_all_indices.result c.in_ok-decl-2.indices c.first_of.result c.args.checker.now c.whole_name.new.checker
    c.judge_all_indices.new.checker c.setting.ensures c.parts_of-parts.ensures c.in_ok-decl.ensures c.judge_all_indices.ensures
    c.in_ok-decl-2.ensures.ok c.first_of.ensures

pub judge_argument-returns-in_ok-value-in-Value : goal.judge_argument-returns-in_ok-value-in-Value
judge_argument-returns-in_ok-value-in-Value t c =
    argument_by c.args.asked.now (places.Value c.in-Value.t) c.args.e.now (expr_judged c.args.checker.now.setting c.args.e.now)
    (value_argument c.in-Value.t) c.in_ok-value-in-Value.value c.value_argument.result c.args.checker.now
    c.judge_expr.new.checker c.value_argument.new.checker c.in-Value.is refl c.in_ok-value-in-Value.ensures
    c.value_argument.ensures

pub judge_argument-returns-in_ok-denoted-in-Variable : goal.judge_argument-returns-in_ok-denoted-in-Variable
judge_argument-returns-in_ok-denoted-in-Variable t c =
    argument_by c.args.asked.now (places.Variable c.in-Variable.t) c.args.e.now
    (variable_given c.args.checker.now.setting c.args.e.now) (variable_argument c.in-Variable.t)
    c.in_ok-denoted-in-Variable.denoted c.variable_argument.result c.args.checker.now c.judge_as_variable.new.checker
    c.variable_argument.new.checker c.in-Variable.is refl c.in_ok-denoted-in-Variable.ensures
    (subst (λ one. Judges (of (variable_argument one) c.in_ok-denoted-in-Variable.denoted) c.variable_argument.result c.judge_as_variable.new.checker c.variable_argument.new.checker) c.get.ensures c.variable_argument.ensures)

pub judge_argument-returns-in_ok-value-in-Standard : goal.judge_argument-returns-in_ok-value-in-Standard
judge_argument-returns-in_ok-value-in-Standard t c =
    argument_by c.args.asked.now (places.Standard c.in-Standard.which) c.args.e.now
    (expr_judged c.args.checker.now.setting c.args.e.now) (standard_argument c.in-Standard.which)
    c.in_ok-value-in-Standard.value c.standard_argument.result c.args.checker.now c.judge_expr-in-Standard.new.checker
    c.standard_argument.new.checker c.in-Standard.is refl c.in_ok-value-in-Standard.ensures c.standard_argument.ensures

pub judge_argument-returns-in_ok-denoted-in-Counted : goal.judge_argument-returns-in_ok-denoted-in-Counted
judge_argument-returns-in_ok-denoted-in-Counted t c =
    argument_by c.args.asked.now places.Counted c.args.e.now (target_given c.args.checker.now.setting c.args.e.now) counted_argument
    c.in_ok-denoted-in-Counted.denoted c.counted_argument.result c.args.checker.now c.judge_as_target.new.checker
    c.counted_argument.new.checker c.in-Counted.is refl c.in_ok-denoted-in-Counted.ensures c.counted_argument.ensures

pub judge_argument-returns-in_ok-t-in-Kind : goal.judge_argument-returns-in_ok-t-in-Kind
judge_argument-returns-in_ok-t-in-Kind t c =
    argument_by c.args.asked.now places.Kind c.args.e.now (kind_given c.args.checker.now.setting c.args.e.now)
    (kind_argument c.args.e.now.place) c.in_ok-t-in-Kind.t c.kind_argument.result c.args.checker.now c.judge_as_kind.new.checker
    c.kind_argument.new.checker c.in-Kind.is refl c.in_ok-t-in-Kind.ensures c.kind_argument.ensures

pub judge_argument-returns-in_ok-value-in-Characters : goal.judge_argument-returns-in_ok-value-in-Characters
judge_argument-returns-in_ok-value-in-Characters t c =
    argument_by c.args.asked.now places.Characters c.args.e.now (expr_judged c.args.checker.now.setting c.args.e.now)
    characters_argument c.in_ok-value-in-Characters.value c.characters_argument.result c.args.checker.now
    c.judge_expr-in-Characters.new.checker c.characters_argument.new.checker c.in-Characters.is refl
    c.in_ok-value-in-Characters.ensures c.characters_argument.ensures

pub judge_arguments-loop-e-preserved : goal.judge_arguments-loop-e-preserved
judge_arguments-loop-e-preserved t c = (
  c.in_ok-number.ensures ∙ ap (λ n. n + 1) c.loop-e.invariant.0,
  next_at (λ setting. argument_at c.args.decl.now c.args.count setting) c.args.es.now.first c.args.es.now.others c.loop-e.e-index
      c.loop-e.number c.e-item.result c.loop-e.list c.judge_argument_at.result c.in_ok-list-2.list c.args.checker.now c.loop-e.checker
      c.judge_argument_at.new.checker (subst (λ items. c.loop-e.e-index < length items) c.as_slice-e-items.ensures c.loop-e-test.true)
      c.loop-e.invariant.0 (subst (λ items. c.e-item.result ≡ get_or items c.loop-e.e-index c.e-item.result) c.as_slice-e-items.ensures c.e-item.is)
      c.loop-e.invariant.1 c.judge_argument_at.ensures c.in_ok-list-2.ensures.ok,
)

pub judge_as_kind-returns-in-Some : goal.judge_as_kind-returns-in-Some
judge_as_kind-returns-in-Some t c =
    lone_met (λ designated. designated.kind) 40 c.args.e.now c.in-Some.d.now c.judge_kind.result c.args.checker.now
    c.judge_kind.new.checker (sym (ap option_copied c.in-Some.is) ∙ c.lone_designator.ensures) c.judge_kind.ensures

pub judge_as_kind-returns-in_ok-value-in-None : goal.judge_as_kind-returns-in_ok-value-in-None
judge_as_kind-returns-in_ok-value-in-None t c =
    other_met (λ designated. designated.kind) 40 c.args.e.now (Ok c.breaks_known.result) c.args.checker.now
    c.breaks_known.new.checker (sym (ap option_copied c.in-None.is) ∙ c.lone_designator.ensures)
    (then (expr_judged c.args.checker.now.setting c.args.e.now) (λ setting value. breaks 40 c.args.e.now.place)
    c.in_ok-value-in-None.value (Ok c.breaks_known.result) c.args.checker.now c.judge_expr.new.checker c.breaks_known.new.checker
    c.in_ok-value-in-None.ensures c.breaks_known.ensures)

pub judge_as_nothing-returns-in-Some : goal.judge_as_nothing-returns-in-Some
judge_as_nothing-returns-in-Some t c =
    unasked_met c.args.e.now c.in-Some.d.now c.judge_unasked.result c.args.checker.now c.judge_unasked.new.checker
    (sym (ap option_copied c.in-Some.is) ∙ c.lone_designator.ensures) c.judge_unasked.ensures

pub judge_as_nothing-returns-in_ok-value-in-None : goal.judge_as_nothing-returns-in_ok-value-in-None
judge_as_nothing-returns-in_ok-value-in-None t c =
    nothing_met c.args.e.now c.in_ok-value-in-None.value c.nothing_of.result c.args.checker.now c.judge_expr.new.checker
    (sym (ap option_copied c.in-None.is) ∙ c.lone_designator.ensures) c.in_ok-value-in-None.ensures c.nothing_of.ensures

pub judge_as_target-returns-in-Some : goal.judge_as_target-returns-in-Some
judge_as_target-returns-in-Some t c =
    lone_met (λ designated. designated.target) 53 c.args.e.now c.in-Some.d.now c.judge_target.result c.args.checker.now
    c.judge_target.new.checker (sym (ap option_copied c.in-Some.is) ∙ c.lone_designator.ensures) c.judge_target.ensures

pub judge_as_target-returns-in_ok-value-in-None : goal.judge_as_target-returns-in_ok-value-in-None
judge_as_target-returns-in_ok-value-in-None t c =
    other_met (λ designated. designated.target) 53 c.args.e.now (Ok c.breaks_known.result) c.args.checker.now
    c.breaks_known.new.checker (sym (ap option_copied c.in-None.is) ∙ c.lone_designator.ensures)
    (then (expr_judged c.args.checker.now.setting c.args.e.now) (λ setting value. breaks 53 c.args.e.now.place)
    c.in_ok-value-in-None.value (Ok c.breaks_known.result) c.args.checker.now c.judge_expr.new.checker c.breaks_known.new.checker
    c.in_ok-value-in-None.ensures c.breaks_known.ensures)

pub judge_as_variable-returns-in-Some : goal.judge_as_variable-returns-in-Some
judge_as_variable-returns-in-Some t c =
    lone_met (λ designated. designated.variable) 38 c.args.e.now c.in-Some.d.now c.judge_variable.result c.args.checker.now
    c.judge_variable.new.checker (sym (ap option_copied c.in-Some.is) ∙ c.lone_designator.ensures) c.judge_variable.ensures

pub judge_as_variable-returns-in_ok-value-in-None : goal.judge_as_variable-returns-in_ok-value-in-None
judge_as_variable-returns-in_ok-value-in-None t c =
    other_met (λ designated. designated.variable) 38 c.args.e.now (Ok c.breaks_known.result) c.args.checker.now
    c.breaks_known.new.checker (sym (ap option_copied c.in-None.is) ∙ c.lone_designator.ensures)
    (then (expr_judged c.args.checker.now.setting c.args.e.now) (λ setting value. breaks 38 c.args.e.now.place)
    c.in_ok-value-in-None.value (Ok c.breaks_known.result) c.args.checker.now c.judge_expr.new.checker c.breaks_known.new.checker
    c.in_ok-value-in-None.ensures c.breaks_known.ensures)

pub judge_call-returns : goal.judge_call-returns
judge_call-returns t c =
    call_made c.args.place (arguments_in c.args.a.now) c.in_ok-count.count c.args.decl (option_copied c.as_ref.result)
    c.in_ok-decl.decl c.function_rules-named.result c.in_ok-decl.named c.in_ok-named.named c.judge_given-given.result
    c.instead.result c.in_ok-named.given c.called.result c.args.checker.now c.function_rules-named.new.checker
    c.judge_given-given.new.checker c.called.new.checker c.in_ok-count.ensures c.as_ref.ensures.value c.function_rules-named.ensures
    c.in_ok-decl.ensures.ok c.judge_given-given.ensures c.instead.ensures c.in_ok-named.ensures.ok c.called.ensures

pub judge_callee-returns : goal.judge_callee-returns
judge_callee-returns t c =
    callee_by c.args.d.now c.place.result c.in_ok-decl.decl (Ok c.callee.result) c.args.checker.now c.judge_alone.new.checker
    c.callee.new.checker c.place.ensures c.in_ok-decl.ensures c.callee.ensures

pub judge_element-returns : goal.judge_element-returns
judge_element-returns t c =
    element_met c.args.element.now c.judge_opened_element.result c.args.checker.now c.judge_opened_element.new.checker
    c.judge_opened_element.ensures

pub judge_elements-loop-element-preserved : goal.judge_elements-loop-element-preserved
judge_elements-loop-element-preserved t c =
    one_more_of_list (λ setting e. judge_element e setting) c.args.elements.now c.loop-element.element-index c.element-item.result
    c.loop-element.list c.judge_element.result c.in_ok-list.list c.args.checker.now c.loop-element.checker
    c.judge_element.new.checker
    (subst (λ items. c.loop-element.element-index < length items) c.as_slice-element-items.ensures c.loop-element-test.true)
    (subst (λ items. c.element-item.result ≡ get_or items c.loop-element.element-index c.element-item.result) c.as_slice-element-items.ensures c.element-item.is)
    c.loop-element.invariant c.judge_element.ensures c.in_ok-list.ensures.ok

pub judge_expr-returns-in_ok-left-in-Some : goal.judge_expr-returns-in_ok-left-in-Some
judge_expr-returns-in_ok-left-in-Some t c =
    compared_by c.args.e.now c.get-c.result.now c.relation_of.result c.in_ok-left.left c.in_ok-left-in-Some.left
    c.judge_simple-in-Some.result c.in_ok-left-in-Some.right c.compared.result c.args.checker.now c.judge_simple.new.checker
    c.judge_simple-in-Some.new.checker c.compared.new.checker (c.in-Some.is ∙ ap Some (sym c.get-c.ensures)) c.relation_of.ensures
    c.in_ok-left.ensures c.judge_simple-in-Some.ensures c.in_ok-left-in-Some.ensures.ok c.compared.ensures

pub judge_exprs-loop-e-preserved : goal.judge_exprs-loop-e-preserved
judge_exprs-loop-e-preserved t c =
    next_of_list (λ setting. expr_judged setting) c.args.es.now.first c.args.es.now.others c.loop-e.e-index c.e-item.result
    c.loop-e.list c.judge_expr.result c.in_ok-list-2.list c.args.checker.now c.loop-e.checker c.judge_expr.new.checker
    (subst (λ items. c.loop-e.e-index < length items) c.as_slice-e-items.ensures c.loop-e-test.true)
    (subst (λ items. c.e-item.result ≡ get_or items c.loop-e.e-index c.e-item.result) c.as_slice-e-items.ensures c.e-item.is)
    c.loop-e.invariant c.judge_expr.ensures c.in_ok-list-2.ensures.ok

pub judge_factor-returns : goal.judge_factor-returns
judge_factor-returns t c =
    factor_met c.args.f.now c.judge_opened.result c.args.checker.now c.judge_opened.new.checker c.judge_opened.ensures

pub judge_first-returns-in-Some : goal.judge_first-returns-in-Some
judge_first-returns-in-Some t c =
    signed_by c.args.s.now c.in-Some.sign c.sign_of.result c.in_ok-first.first c.signed.result c.args.checker.now
    c.judge_term.new.checker c.signed.new.checker c.in-Some.is c.sign_of.ensures c.in_ok-first.ensures c.signed.ensures

pub judge_kind-returns : goal.judge_kind-returns
judge_kind-returns t c =
    kind_by c.args.d.now c.place.result c.in_ok-decl.decl c.instead.result c.kind-t.result c.args.checker.now
    c.judge_alone.new.checker c.kind-t.new.checker c.place.ensures c.in_ok-decl.ensures c.kind-t.ensures c.instead.ensures

pub judge_negated-returns : goal.judge_negated-returns
judge_negated-returns t c =
    then (factor_value c.args.checker.now.setting c.args.f.now) (λ setting. negated c.args.place) c.in_ok-e.e c.negated.result
    c.args.checker.now c.judge_factor.new.checker c.negated.new.checker c.in_ok-e.ensures c.negated.ensures

pub judge_opened-returns-in_ok-decl-in-Some : goal.judge_opened-returns-in_ok-decl-in-Some
judge_opened-returns-in_ok-decl-in-Some t c =
    call_opened c.args.f.now c.in-Designator.d c.in-Designator.a c.get-in-Some.result.now c.place.result c.in_ok-decl-in-Some.decl
    c.judge_call.result c.args.checker.now c.judge_callee.new.checker c.judge_call.new.checker
    (designator_opened c.args.f.now c.in-Designator.d c.in-Designator.a c.in-Designator.is)
    (c.in-Some.is ∙ ap Some (sym c.get-in-Some.ensures)) c.place.ensures c.in_ok-decl-in-Some.ensures c.judge_call.ensures

pub judge_part-returns-in_ok-before-in-Subscripts : goal.judge_part-returns-in_ok-before-in-Subscripts
judge_part-returns-in_ok-before-in-Subscripts t c =
    subscripts_by c.args.part.now c.in-Subscripts.place c.place.result c.in-Subscripts.es c.args.t.now c.args.steps
    c.built-before.result c.in_ok-before-in-Subscripts.before c.judge_exprs.result c.in_ok-before-in-Subscripts.indices
    c.at_subscripts.result c.args.checker.now c.built-before.new.checker c.judge_exprs.new.checker c.at_subscripts.new.checker
    c.in-Subscripts.is c.place.ensures c.built-before.ensures c.judge_exprs.ensures c.in_ok-before-in-Subscripts.ensures.ok
    c.at_subscripts.ensures

pub judge_parts-loop-part-preserved : goal.judge_parts-loop-part-preserved
judge_parts-loop-part-preserved t c =
    more_parts (λ setting part before. part_judged setting part before) (of good (reach c.args.t.now c.args.steps)) c.args.parts.now
    c.loop-part.part-index c.part-item.result (reach c.loop-part.t.now c.loop-part.steps)
    (reach c.kind_behind-t.result.now c.in_ok-steps.steps) c.args.checker.now c.loop-part.checker c.judge_part.new.checker
    c.loop-part-test.true c.part-item.is c.loop-part.invariant
    (subst (λ one. Judges (part_judged c.loop-part.checker.setting c.part-item.result (reach c.loop-part.t.now c.loop-part.steps)) (Ok (reach one c.in_ok-steps.steps)) c.loop-part.checker c.judge_part.new.checker) (sym c.kind_behind-t.ensures) c.in_ok-steps.ensures)

pub judge_simple-loop-a-preserved : goal.judge_simple-loop-a-preserved
judge_simple-loop-a-preserved t c =
    one_more (first_judged c.args.checker.now.setting c.args.s.now) (λ setting a. term_judged setting a.term)
    (λ setting a. summed a.place a.operator) c.args.s.now.others c.loop-a.a-index c.a-item.result c.loop-a.left
    c.judge_term.result c.in_ok-one.one c.in_ok-one.other c.in_ok-left-2.left c.args.checker.now c.loop-a.checker
    c.judge_term.new.checker c.summed.new.checker
    (subst (λ items. c.loop-a.a-index < length items) c.as_slice-a-items.ensures c.loop-a-test.true)
    (subst (λ items. c.a-item.result ≡ get_or items c.loop-a.a-index c.a-item.result) c.as_slice-a-items.ensures c.a-item.is)
    c.loop-a.invariant c.judge_term.ensures c.in_ok-one.ensures.ok c.in_ok-left-2.ensures

pub judge_target-returns : goal.judge_target-returns
judge_target-returns t c =
    target_by c.args.d.now c.setting.result.now c.parts_of-parts.result.now c.in_ok-whole.whole c.judge_changed.result
    c.args.checker.now c.variable_named.new.checker c.judge_changed.new.checker c.setting.ensures c.parts_of-parts.ensures
    c.in_ok-whole.ensures c.judge_changed.ensures

pub judge_term-loop-m-preserved : goal.judge_term-loop-m-preserved
judge_term-loop-m-preserved t c =
    one_more (factor_value c.args.checker.now.setting c.args.t.now.first) (λ setting m. factor_value setting m.factor)
    (λ setting m. multiplied m.place m.operator) c.args.t.now.others c.loop-m.m-index c.m-item.result c.loop-m.left
    c.judge_factor-in-loop-m.result c.in_ok-one.one c.in_ok-one.other c.in_ok-left-2.left c.args.checker.now c.loop-m.checker
    c.judge_factor-in-loop-m.new.checker c.multiplied.new.checker
    (subst (λ items. c.loop-m.m-index < length items) c.as_slice-m-items.ensures c.loop-m-test.true)
    (subst (λ items. c.m-item.result ≡ get_or items c.loop-m.m-index c.m-item.result) c.as_slice-m-items.ensures c.m-item.is)
    c.loop-m.invariant c.judge_factor-in-loop-m.ensures c.in_ok-one.ensures.ok c.in_ok-left-2.ensures

pub judge_whole-returns : goal.judge_whole-returns
judge_whole-returns t c =
    whole_by c.args.parts.now c.args.whole c.in_ok-whole.whole DbType.Int c.kind_of.result.now c.begun-steps.result
    c.judge_parts-reached.result c.in_ok-whole.reached c.part_of.result c.args.checker.now c.judge_parts-reached.new.checker
    (sym c.is_whole.ensures ∙ c.if-is_whole.false) c.kind_of.ensures c.begun-steps.ensures c.judge_parts-reached.ensures c.in_ok-whole.ensures.ok
    c.part_of.ensures
