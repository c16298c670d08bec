-- The counter is of the ledger that the blank opens.
use Rattle.dbpl_relation.proofs.tests.large.large_relations.Given as goal

abbrev pub ghosts-looked_up : goal.ghosts-looked_up
ghosts-looked_up g a = record { name = a.blank.name; parts = a.blank.parts }
