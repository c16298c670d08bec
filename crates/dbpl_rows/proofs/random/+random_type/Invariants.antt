-- Types stand inside one another so deep.
use Rattle.dbpl_rows.proofs.random.+random_type.Given as goal

abbrev pub decreases-random_type : goal.decreases-random_type
decreases-random_type l = l.depth
