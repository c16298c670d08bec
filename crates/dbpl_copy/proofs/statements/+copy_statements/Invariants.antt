use Rattle.std.proofs.Common.{◌≡◌, ◌*◌, ◌+◌, take}
use Rattle.dbpl_copy.proofs.statements.+copy_statements.Given as goal

abbrev pub decreases-copy_statement : goal.decreases-copy_statement
decreases-copy_statement l = 8 * goal.size-copy_statement l

abbrev pub decreases-copy_list : goal.decreases-copy_list
decreases-copy_list l = 8 * goal.size-copy_list l + 1

abbrev pub decreases-copy_body : goal.decreases-copy_body
decreases-copy_body l = 8 * goal.size-copy_body l + 2

abbrev pub decreases-copy_otherwise : goal.decreases-copy_otherwise
decreases-copy_otherwise l = 8 * goal.size-copy_otherwise l + 3

abbrev pub decreases-copy_elsif : goal.decreases-copy_elsif
decreases-copy_elsif l = 8 * goal.size-copy_elsif l + 3

abbrev pub decreases-copy_elsifs : goal.decreases-copy_elsifs
decreases-copy_elsifs l = 8 * goal.size-copy_elsifs l + 4

abbrev pub decreases-copy_case : goal.decreases-copy_case
decreases-copy_case l = 8 * goal.size-copy_case l + 3

abbrev pub decreases-copy_cases : goal.decreases-copy_cases
decreases-copy_cases l = 8 * goal.size-copy_cases l + 4

abbrev pub decreases-copy_while : goal.decreases-copy_while
decreases-copy_while l = 8 * goal.size-copy_while l + 3

abbrev pub decreases-copy_repeat : goal.decreases-copy_repeat
decreases-copy_repeat l = 8 * goal.size-copy_repeat l + 3

abbrev pub decreases-copy_for : goal.decreases-copy_for
decreases-copy_for l = 8 * goal.size-copy_for l + 3

abbrev pub decreases-copy_for_each : goal.decreases-copy_for_each
decreases-copy_for_each l = 8 * goal.size-copy_for_each l + 3

abbrev pub invariant-copy_list-loop-s : goal.invariant-copy_list-loop-s
invariant-copy_list-loop-s l = l.copied ≡ take l.s-index l.others

abbrev pub invariant-copy_elsifs-loop-elsif : goal.invariant-copy_elsifs-loop-elsif
invariant-copy_elsifs-loop-elsif l = l.copied ≡ take l.elsif-index l.elsifs

abbrev pub invariant-copy_cases-loop-other : goal.invariant-copy_cases-loop-other
invariant-copy_cases-loop-other l = l.copied ≡ take l.other-index l.others
