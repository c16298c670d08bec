use Rattle.std.proofs.Common.{◌≡◌, ◌*◌, ◌+◌, ◌∷◌, take, Ok}
use Rattle.dbpl_judging.specs.Judgements.{each, each_at, folded, good, of}
use Rattle.dbpl_judging.specs.Judging.{Judges}
use Rattle.dbpl_rules_expr.specs.Expressions.{argument_at, elements_judged, exprs_judged, factor_value, first_judged, indices_judged, parts_judged, term_judged}
use Rattle.dbpl_rules_expr.specs.Productions.{multiplied, summed}
use Rattle.dbpl_rules_expr.specs.Reaching.{reach}
use Rattle.dbpl_rules_expr.proofs.expressions.+judged_phrases.Given as goal

abbrev pub decreases-judge_negated : goal.decreases-judge_negated
decreases-judge_negated l = 16 * goal.size-judge_negated l + 2

abbrev pub decreases-judge_parenthesized : goal.decreases-judge_parenthesized
decreases-judge_parenthesized l = 16 * goal.size-judge_parenthesized l + 6

abbrev pub decreases-judge_opened : goal.decreases-judge_opened
decreases-judge_opened l = 16 * goal.size-judge_opened l

abbrev pub decreases-judge_factor : goal.decreases-judge_factor
decreases-judge_factor l = 16 * goal.size-judge_factor l + 1

abbrev pub decreases-judge_term : goal.decreases-judge_term
decreases-judge_term l = 16 * goal.size-judge_term l + 2

abbrev pub decreases-judge_first : goal.decreases-judge_first
decreases-judge_first l = 16 * goal.size-judge_first l + 3

abbrev pub decreases-judge_simple : goal.decreases-judge_simple
decreases-judge_simple l = 16 * goal.size-judge_simple l + 4

abbrev pub decreases-judge_expr : goal.decreases-judge_expr
decreases-judge_expr l = 16 * goal.size-judge_expr l + 5

abbrev pub decreases-judge_exprs : goal.decreases-judge_exprs
decreases-judge_exprs l = 16 * goal.size-judge_exprs l + 6

abbrev pub decreases-judge_part : goal.decreases-judge_part
decreases-judge_part l = 16 * goal.size-judge_part l + 7

abbrev pub decreases-judge_parts : goal.decreases-judge_parts
decreases-judge_parts l = 16 * goal.size-judge_parts l + 8

abbrev pub decreases-judge_whole : goal.decreases-judge_whole
decreases-judge_whole l = 16 * goal.size-judge_whole l + 9

abbrev pub decreases-judge_variable : goal.decreases-judge_variable
decreases-judge_variable l = 16 * goal.size-judge_variable l + 10

abbrev pub decreases-judge_changed : goal.decreases-judge_changed
decreases-judge_changed l = 16 * goal.size-judge_changed l + 10

abbrev pub decreases-judge_target : goal.decreases-judge_target
decreases-judge_target l = 16 * goal.size-judge_target l + 11

abbrev pub decreases-judge_operand : goal.decreases-judge_operand
decreases-judge_operand l = 16 * goal.size-judge_operand l + 11

abbrev pub decreases-judge_indices : goal.decreases-judge_indices
decreases-judge_indices l = 16 * goal.size-judge_indices l + 7

abbrev pub decreases-judge_all_indices : goal.decreases-judge_all_indices
decreases-judge_all_indices l = 16 * goal.size-judge_all_indices l + 8

abbrev pub decreases-judge_alone : goal.decreases-judge_alone
decreases-judge_alone l = 16 * goal.size-judge_alone l + 10

abbrev pub decreases-judge_kind : goal.decreases-judge_kind
decreases-judge_kind l = 16 * goal.size-judge_kind l + 11

abbrev pub decreases-judge_callee : goal.decreases-judge_callee
decreases-judge_callee l = 16 * goal.size-judge_callee l + 11

abbrev pub decreases-judge_as_variable : goal.decreases-judge_as_variable
decreases-judge_as_variable l = 16 * goal.size-judge_as_variable l + 6

abbrev pub decreases-judge_as_target : goal.decreases-judge_as_target
decreases-judge_as_target l = 16 * goal.size-judge_as_target l + 6

abbrev pub decreases-judge_as_kind : goal.decreases-judge_as_kind
decreases-judge_as_kind l = 16 * goal.size-judge_as_kind l + 6

abbrev pub decreases-judge_unasked : goal.decreases-judge_unasked
decreases-judge_unasked l = 16 * goal.size-judge_unasked l + 12

abbrev pub decreases-judge_as_nothing : goal.decreases-judge_as_nothing
decreases-judge_as_nothing l = 16 * goal.size-judge_as_nothing l + 6

abbrev pub decreases-judge_argument : goal.decreases-judge_argument
decreases-judge_argument l = 16 * goal.size-judge_argument l + 7

abbrev pub decreases-judge_argument_at : goal.decreases-judge_argument_at
decreases-judge_argument_at l = 16 * goal.size-judge_argument_at l + 8

abbrev pub decreases-judge_arguments : goal.decreases-judge_arguments
decreases-judge_arguments l = 16 * goal.size-judge_arguments l + 9

abbrev pub decreases-judge_given : goal.decreases-judge_given
decreases-judge_given l = 16 * goal.size-judge_given l + 10

abbrev pub decreases-judge_call : goal.decreases-judge_call
decreases-judge_call l = 16 * goal.size-judge_call l + 12

abbrev pub decreases-judge_elements : goal.decreases-judge_elements
decreases-judge_elements l = 16 * goal.size-judge_elements l + 2

abbrev pub decreases-judge_opened_element : goal.decreases-judge_opened_element
decreases-judge_opened_element l = 16 * goal.size-judge_opened_element l

abbrev pub decreases-judge_element : goal.decreases-judge_element
decreases-judge_element l = 16 * goal.size-judge_element l + 1

abbrev pub decreases-judge_aggregate : goal.decreases-judge_aggregate
decreases-judge_aggregate l = 16 * goal.size-judge_aggregate l + 1

abbrev pub invariant-judge_term-loop-m : goal.invariant-judge_term-loop-m
invariant-judge_term-loop-m l =
    Judges
    (folded (λ m. factor_value l.fn.checker.setting m.factor) (λ m. multiplied m.place m.operator)
    (factor_value l.fn.checker.setting l.t.first) (take l.m-index l.t.others)) (Ok l.left) l.fn.checker l.checker

abbrev pub invariant-judge_simple-loop-a : goal.invariant-judge_simple-loop-a
invariant-judge_simple-loop-a l =
    Judges
    (folded (λ a. term_judged l.fn.checker.setting a.term) (λ a. summed a.place a.operator)
    (first_judged l.fn.checker.setting l.s) (take l.a-index l.s.others)) (Ok l.left) l.fn.checker l.checker

abbrev pub invariant-judge_exprs-loop-e : goal.invariant-judge_exprs-loop-e
invariant-judge_exprs-loop-e l =
    Judges (exprs_judged l.fn.checker.setting (l.es.first ∷ take l.e-index l.es.others)) (Ok l.list) l.fn.checker l.checker

abbrev pub invariant-judge_parts-loop-part : goal.invariant-judge_parts-loop-part
invariant-judge_parts-loop-part l =
    Judges
    (parts_judged l.fn.checker.setting (of good (reach l.fn.t l.fn.steps)) (take l.part-index l.parts)) (Ok (reach l.t l.steps))
    l.fn.checker l.checker

abbrev pub invariant-judge_all_indices-loop-part : goal.invariant-judge_all_indices-loop-part
invariant-judge_all_indices-loop-part l =
    Judges (each (indices_judged l.fn.checker.setting) (take l.part-index l.parts)) (Ok l.list) l.fn.checker l.checker

abbrev pub invariant-judge_arguments-loop-e : goal.invariant-judge_arguments-loop-e
invariant-judge_arguments-loop-e l =
    (l.number ≡ l.e-index + 1) ×
    Judges (each_at (argument_at l.decl l.count l.fn.checker.setting) 0 (l.es.first ∷ take l.e-index l.es.others)) (Ok l.list)
    l.fn.checker l.checker

abbrev pub invariant-judge_elements-loop-element : goal.invariant-judge_elements-loop-element
invariant-judge_elements-loop-element l =
    Judges (elements_judged l.fn.checker.setting (take l.element-index l.elements)) (Ok l.list) l.fn.checker l.checker
