-- The variable that was read can be kept, with its relation.
use Rattle.std.proofs.Common.{◌&&◌}
use Rattle.std.specs.Cmp.{first_so, second_so}
use Rattle.dbpl_value.specs.Databases.{are_small, is_kept}
use Rattle.dbpl_value.specs.Values.{is_of}
use Rattle.dbpl_stored_program.proofs.tests.run.Goals as goal

pub is_small-requires : goal.is_small-requires
is_small-requires c =
    let b = c.in_ok-name.field-0 in
    record {
      kept = rw (c.field_of.ensures.name, c.field_of.ensures.kind) (
          first_so (is_kept b.name b.kind) (is_of b.kind b.rel)
          (first_so (is_kept b.name b.kind && is_of b.kind b.rel) (are_small b.kind b.rel) c.in_ok-name.ensures)
          );
    }

pub transacted-requires-clause-relation : goal.transacted-requires-clause-relation
transacted-requires-clause-relation c =
    let b = c.in_ok-name.field-0 in
    rw c.field_of.ensures.kind (
    second_so (is_kept b.name b.kind) (is_of b.kind b.rel)
    (first_so (is_kept b.name b.kind && is_of b.kind b.rel) (are_small b.kind b.rel) c.in_ok-name.ensures)
    )
