-- What a program of the form that is built gives.
use Rattle.std.proofs.Common.{◌≡◌, ◌<◌, ◌&&◌, ℕ, true, List, get_or, length, ap, ◌∙◌}
use Rattle.std.specs.Cmp.{first_so, second_so}
use Rattle.std.specs.List.{list_all}
use Rattle.dbpl_stored_program.proofs.Sizes.{flat-small}
use Rattle.dbpl_stored_program.specs.Programs.{are_rows, is_flat, is_small_program}
use Rattle.dbpl_stored_program.specs.declared.insertion.Insertion.{Insertion}
use Rattle.dbpl_stored_program.specs.declared.stored_program.StoredProgram.{StoredProgram}
use Rattle.dbpl_value.specs.Databases.{are_small, is_kept}
use Rattle.dbpl_value.proofs.KeyOrder.{list_all-get_or}
use Rattle.dbpl_value.specs.declared.value.Value.{Value}

module _ (program : StoredProgram) where
  kept_flat : is_small_program program ≡ true → is_kept program.relation.name program.relation.kind && is_flat program.relation.kind ≡ true
  kept_flat small =
      first_so (is_kept program.relation.name program.relation.kind && is_flat program.relation.kind)
      (list_all (are_rows program.relation.kind) program.insertions) small

  pub small-kept : is_small_program program ≡ true → is_kept program.relation.name program.relation.kind ≡ true
  small-kept small =
      first_so (is_kept program.relation.name program.relation.kind) (is_flat program.relation.kind) (kept_flat small)

  pub small-flat : is_small_program program ≡ true → is_flat program.relation.kind ≡ true
  small-flat small =
      second_so (is_kept program.relation.name program.relation.kind) (is_flat program.relation.kind) (kept_flat small)

  -- one of its insertions, by its place among them
  pub small-each :
      (insertions : List Insertion) (i : ℕ) (insertion : Insertion) → is_small_program program ≡ true →
      insertions ≡ program.insertions → i < length insertions → insertion ≡ get_or insertions i insertion →
      are_rows program.relation.kind insertion ≡ true
  small-each insertions i insertion small same within is =
      ap (are_rows program.relation.kind) is
      ∙ list_all-get_or (are_rows program.relation.kind) insertions i insertion
      (ap (list_all (are_rows program.relation.kind)) same
      ∙ second_so (is_kept program.relation.name program.relation.kind && is_flat program.relation.kind)
      (list_all (are_rows program.relation.kind) program.insertions) small)
      within

  pub small-records : (relation : Value) → is_small_program program ≡ true → are_small program.relation.kind relation ≡ true
  small-records relation small =
      flat-small program.relation.name program.relation.kind relation (small-kept small) (small-flat small)
