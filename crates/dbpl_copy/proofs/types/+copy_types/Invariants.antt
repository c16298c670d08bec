use Rattle.std.proofs.Common.{◌≡◌, ◌*◌, ◌+◌, take}
use Rattle.dbpl_copy.proofs.types.+copy_types.Given as goal

abbrev pub decreases-copy_type : goal.decreases-copy_type
decreases-copy_type l = 4 * goal.size-copy_type l

abbrev pub decreases-copy_type_list : goal.decreases-copy_type_list
decreases-copy_type_list l = 4 * goal.size-copy_type_list l + 1

abbrev pub decreases-copy_fields : goal.decreases-copy_fields
decreases-copy_fields l = 4 * goal.size-copy_fields l + 2

abbrev pub decreases-copy_fields_list : goal.decreases-copy_fields_list
decreases-copy_fields_list l = 4 * goal.size-copy_fields_list l + 3

abbrev pub invariant-copy_type_list-loop-other : goal.invariant-copy_type_list-loop-other
invariant-copy_type_list-loop-other l = l.copied ≡ take l.other-index l.others

abbrev pub invariant-copy_fields_list-loop-other : goal.invariant-copy_fields_list-loop-other
invariant-copy_fields_list-loop-other l = l.copied ≡ take l.other-index l.others
