use Rattle.std.proofs.Common.{◌≡◌, ◌-◌, [], map, drop}
use Rattle.dbpl_codec.specs.Reading.{in_turn, reads, repeat}
use Rattle.dbpl_codec.proofs.reads.+reading.Given as goal

abbrev pub invariant-read_all-loop-at : goal.invariant-read_all-loop-at
invariant-read_all-loop-at l =
    repeat (reads l.t) (l.count - l._at) l.parts l.rest ≡ repeat (reads l.t) l.count [] l.bytes

abbrev pub invariant-read_fields-loop-field : goal.invariant-read_fields-loop-field
invariant-read_fields-loop-field l =
    in_turn (map (λ field. reads field.kind) (drop l.field-index l.fields)) l.parts l.rest
    ≡ in_turn (map (λ field. reads field.kind) l.fields) [] l.bytes
