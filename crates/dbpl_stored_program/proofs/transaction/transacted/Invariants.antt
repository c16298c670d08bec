-- The insertions that are left make of the relation so far what all make of the one before.
use Rattle.std.proofs.Common.{◌≡◌, drop}
use Rattle.std.specs.Prelude.{IsTrue}
use Rattle.dbpl_stored_program.specs.Insertions.{inserted_all}
use Rattle.dbpl_value.specs.Values.{is_of}
use Rattle.dbpl_stored_program.proofs.transaction.transacted.Given as goal

abbrev pub invariant-loop-insertion : goal.invariant-loop-insertion
invariant-loop-insertion l = record {
  done : inserted_all l.program.relation.kind (drop l.insertion-index l.insertion-items) l.relation
      ≡ inserted_all l.program.relation.kind l.insertion-items l.fn.before;
  of_type : IsTrue (is_of l.program.relation.kind l.relation);
}
