use Rattle.std.proofs.Common.{◌≡◌, ◌*◌, ◌+◌, take}
use Rattle.dbpl_copy.proofs.expressions.+copy_phrases.Given as goal

abbrev pub decreases-copy_factor : goal.decreases-copy_factor
decreases-copy_factor l = 16 * goal.size-copy_factor l

abbrev pub decreases-copy_multiplied : goal.decreases-copy_multiplied
decreases-copy_multiplied l = 16 * goal.size-copy_multiplied l + 1

abbrev pub decreases-copy_term : goal.decreases-copy_term
decreases-copy_term l = 16 * goal.size-copy_term l + 2

abbrev pub decreases-copy_added : goal.decreases-copy_added
decreases-copy_added l = 16 * goal.size-copy_added l + 3

abbrev pub decreases-copy_simple : goal.decreases-copy_simple
decreases-copy_simple l = 16 * goal.size-copy_simple l + 4

abbrev pub decreases-copy_compared : goal.decreases-copy_compared
decreases-copy_compared l = 16 * goal.size-copy_compared l + 5

abbrev pub decreases-copy_expr : goal.decreases-copy_expr
decreases-copy_expr l = 16 * goal.size-copy_expr l + 6

abbrev pub decreases-copy_expr_list : goal.decreases-copy_expr_list
decreases-copy_expr_list l = 16 * goal.size-copy_expr_list l + 7

abbrev pub decreases-copy_exprs : goal.decreases-copy_exprs
decreases-copy_exprs l = 16 * goal.size-copy_exprs l + 8

abbrev pub decreases-copy_part : goal.decreases-copy_part
decreases-copy_part l = 16 * goal.size-copy_part l + 9

abbrev pub decreases-copy_parts : goal.decreases-copy_parts
decreases-copy_parts l = 16 * goal.size-copy_parts l + 10

abbrev pub decreases-copy_designator : goal.decreases-copy_designator
decreases-copy_designator l = 16 * goal.size-copy_designator l + 11

abbrev pub decreases-copy_arguments : goal.decreases-copy_arguments
decreases-copy_arguments l = 16 * goal.size-copy_arguments l + 9

abbrev pub decreases-copy_optional_arguments : goal.decreases-copy_optional_arguments
decreases-copy_optional_arguments l = 16 * goal.size-copy_optional_arguments l + 10

abbrev pub decreases-copy_aggregate : goal.decreases-copy_aggregate
decreases-copy_aggregate l = 16 * goal.size-copy_aggregate l

abbrev pub decreases-copy_elements : goal.decreases-copy_elements
decreases-copy_elements l = 16 * goal.size-copy_elements l + 1

abbrev pub decreases-copy_element : goal.decreases-copy_element
decreases-copy_element l = 16 * goal.size-copy_element l

abbrev pub decreases-copy_each : goal.decreases-copy_each
decreases-copy_each l = 16 * goal.size-copy_each l

abbrev pub decreases-copy_eachs : goal.decreases-copy_eachs
decreases-copy_eachs l = 16 * goal.size-copy_eachs l + 1

abbrev pub decreases-copy_range : goal.decreases-copy_range
decreases-copy_range l = 16 * goal.size-copy_range l

abbrev pub invariant-copy_multiplied-loop-m : goal.invariant-copy_multiplied-loop-m
invariant-copy_multiplied-loop-m l = l.copied ≡ take l.m-index l.others

abbrev pub invariant-copy_added-loop-a : goal.invariant-copy_added-loop-a
invariant-copy_added-loop-a l = l.copied ≡ take l.a-index l.others

abbrev pub invariant-copy_expr_list-loop-e : goal.invariant-copy_expr_list-loop-e
invariant-copy_expr_list-loop-e l = l.copied ≡ take l.e-index l.others

abbrev pub invariant-copy_parts-loop-part : goal.invariant-copy_parts-loop-part
invariant-copy_parts-loop-part l = l.copied ≡ take l.part-index l.parts

abbrev pub invariant-copy_elements-loop-element : goal.invariant-copy_elements-loop-element
invariant-copy_elements-loop-element l = l.copied ≡ take l.element-index l.elements

abbrev pub invariant-copy_eachs-loop-c : goal.invariant-copy_eachs-loop-c
invariant-copy_eachs-loop-c l = l.copied ≡ take l.c-index l.cs
