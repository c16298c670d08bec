-- The counter is of the ledger that the blank opens.
use Rattle.dbpl_rows.proofs.commands.run.Given as goal

abbrev pub ghosts-counted : goal.ghosts-counted
ghosts-counted a = record { name = a.blank.name; parts = a.blank.parts }
