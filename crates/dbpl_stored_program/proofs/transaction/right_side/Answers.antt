-- The rows are records of the relation.
use Rattle.std.proofs.Common.{ap, map, ◌∙◌}
use Rattle.std.specs.List.{list_all}
use Rattle.dbpl_stored_program.proofs.Rows.{rows-records}
use Rattle.dbpl_stored_program.specs.Sets.{record_of}
use Rattle.dbpl_value.specs.Types.{element_of}
use Rattle.dbpl_value.specs.Values.{is_of}
use Rattle.dbpl_stored_program.proofs.transaction.right_side.Goals as goal

pub set_of-requires-clause-rows : goal.set_of-requires-clause-rows
set_of-requires-clause-rows c =
    ap (λ rows. list_all (is_of (element_of c.args.t.now)) (map record_of rows)) c.as_slice.ensures
    ∙ rows-records c.args.t.now c.args.insertion.now c.requires.flat c.requires.rows
