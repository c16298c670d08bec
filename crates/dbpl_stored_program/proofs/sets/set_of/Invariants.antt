-- Adding the rows that are left to the set so far gives what adding all rows to none gives.
use Rattle.std.proofs.Common.{◌≡◌, [], drop, map}
use Rattle.std.specs.Prelude.{IsTrue}
use Rattle.dbpl_stored_program.proofs.Adding.{adding}
use Rattle.dbpl_stored_program.specs.Sets.{record_of}
use Rattle.dbpl_value.specs.Keys.{parts_of}
use Rattle.dbpl_value.specs.Values.{is_of}
use Rattle.dbpl_stored_program.proofs.sets.set_of.Given as goal

abbrev pub invariant-loop-row : goal.invariant-loop-row
invariant-loop-row l = record {
  added : adding l.t (parts_of l.set) (map record_of (drop l.row-index l.rows)) ≡ adding l.t [] (map record_of l.rows);
  of_type : IsTrue (is_of l.t l.set);
}
