-- The room that is left and the nodes of the fields so far.
use Rattle.std.proofs.Common.{◌≡◌, ◌+◌, take}
use Rattle.std.specs.Prelude.{sum_by}
use Rattle.dbpl_judging.specs.Nodes.{nodes_of}
use Rattle.dbpl_judging.proofs.nodes.+nodes.Given as goal

abbrev pub invariant-room_behind_fields-loop-field : goal.invariant-room_behind_fields-loop-field
invariant-room_behind_fields-loop-field l =
    l.room + sum_by (λ field. nodes_of field.kind + 1) (take l.field-index l.fields) ≡ l.fn.room
