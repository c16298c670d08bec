use Rattle.std.proofs.Common.{◌&&◌}
use Rattle.std.specs.Cmp.{first_so, second_so}
use Rattle.dbpl_value.specs.Databases.{are_small, is_kept}
use Rattle.dbpl_value.specs.Values.{is_of}
use Rattle.dbpl_store.proofs.tests.run.Goals as goal

pub keep-requires-clause-kept : goal.keep-requires-clause-kept
keep-requires-clause-kept c =
    let b = c.in_ok-bound.bound in
    rw (c.field_of.ensures.name, c.field_of.ensures.kind) (
    first_so (is_kept b.name b.kind) (is_of b.kind b.rel)
    (first_so (is_kept b.name b.kind && is_of b.kind b.rel) (are_small b.kind b.rel) c.in_ok-bound.ensures)
    )

pub keep-requires-clause-of : goal.keep-requires-clause-of
keep-requires-clause-of c =
    let b = c.in_ok-bound.bound in
    rw c.field_of.ensures.kind (
    second_so (is_kept b.name b.kind) (is_of b.kind b.rel)
    (first_so (is_kept b.name b.kind && is_of b.kind b.rel) (are_small b.kind b.rel) c.in_ok-bound.ensures)
    )

pub keep-requires-clause-small : goal.keep-requires-clause-small
keep-requires-clause-small c =
    let b = c.in_ok-bound.bound in
    rw c.field_of.ensures.kind (
    second_so (is_kept b.name b.kind && is_of b.kind b.rel) (are_small b.kind b.rel) c.in_ok-bound.ensures
    )
