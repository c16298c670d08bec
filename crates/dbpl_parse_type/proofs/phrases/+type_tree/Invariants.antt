-- A type inside another is read at a smaller depth.
use Rattle.dbpl_parse_type.proofs.phrases.+type_tree.Given as goal

abbrev pub decreases-type_tree : goal.decreases-type_tree
decreases-type_tree l = l.depth
