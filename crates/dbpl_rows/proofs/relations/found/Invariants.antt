-- The counter is of the ledger that the blank opens.
use Rattle.dbpl_rows.proofs.relations.found.Given as goal

abbrev pub ghosts-record_with : goal.ghosts-record_with
ghosts-record_with a = record { name = a.blank.name; parts = a.blank.parts }
