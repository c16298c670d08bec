use Rattle.std.proofs.Common.{◌*◌, ◌+◌}
use Rattle.dbpl_cases.proofs.shown.+shown_trees.Given as goal

abbrev pub decreases-show_expr : goal.decreases-show_expr
decreases-show_expr l = 16 * goal.size-show_expr l

abbrev pub decreases-show_operand : goal.decreases-show_operand
decreases-show_operand l = 16 * goal.size-show_operand l + 1

abbrev pub decreases-show_parts : goal.decreases-show_parts
decreases-show_parts l = 16 * goal.size-show_parts l + 2

abbrev pub decreases-show_step : goal.decreases-show_step
decreases-show_step l = 16 * goal.size-show_step l + 2

abbrev pub decreases-show_steps : goal.decreases-show_steps
decreases-show_steps l = 16 * goal.size-show_steps l + 3

abbrev pub decreases-show_designator : goal.decreases-show_designator
decreases-show_designator l = 16 * goal.size-show_designator l + 4

abbrev pub decreases-show_argument : goal.decreases-show_argument
decreases-show_argument l = 16 * goal.size-show_argument l + 5

abbrev pub decreases-show_arguments : goal.decreases-show_arguments
decreases-show_arguments l = 16 * goal.size-show_arguments l + 6

abbrev pub decreases-show_call : goal.decreases-show_call
decreases-show_call l = 16 * goal.size-show_call l + 7
