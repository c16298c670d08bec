use Rattle.std.proofs.Common.{◌≡◌, ◌-◌, ◌+◌, ◌*◌, []}
use Rattle.dbpl_codec.specs.Reading.{repeat}
use Rattle.dbpl_codec.specs.TypeReading.{field_at, type_at}
use Rattle.dbpl_codec.proofs.type_reads.+descriptors.Given as goal

abbrev pub decreases-type_at : goal.decreases-type_at
decreases-type_at l = 5 * l.depth

abbrev pub decreases-field_at : goal.decreases-field_at
decreases-field_at l = 5 * l.depth + 1

abbrev pub decreases-fields_at : goal.decreases-fields_at
decreases-fields_at l = 5 * l.depth + 2

abbrev pub decreases-subrange_at : goal.decreases-subrange_at
decreases-subrange_at l = 5 * l.depth + 3

abbrev pub decreases-array_at : goal.decreases-array_at
decreases-array_at l = 5 * l.depth + 3

abbrev pub decreases-record_at : goal.decreases-record_at
decreases-record_at l = 5 * l.depth + 3

abbrev pub decreases-relation_at : goal.decreases-relation_at
decreases-relation_at l = 5 * l.depth + 3

abbrev pub decreases-kind_at : goal.decreases-kind_at
decreases-kind_at l = 5 * l.depth + 4

abbrev pub invariant-fields_at-loop-at : goal.invariant-fields_at-loop-at
invariant-fields_at-loop-at l =
    repeat (field_at (type_at l.depth)) (l.count - l._at) l.found l.rest ≡ repeat (field_at (type_at l.depth)) l.count [] l.bytes
