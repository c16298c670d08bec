-- The counter is of the ledger that the blank opens.
use Rattle.dbpl.proofs.ended.Given as goal

abbrev pub ghosts-code_after : goal.ghosts-code_after
ghosts-code_after a = record { name = a.blank.name; parts = a.blank.parts }
