-- A text has one list of tokens, which spell one unit.
use Rattle.dbpl_front.proofs.TextLaw.{one_misspelling, one_tree, unit_or_misspelt}
use Rattle.dbpl_front.proofs.laws.one_unit.Goals as goal

pub returns-clause-unit : goal.returns-clause-unit
returns-clause-unit c = one_tree

pub returns-clause-either : goal.returns-clause-either
returns-clause-either c = unit_or_misspelt

pub returns-clause-refusal : goal.returns-clause-refusal
returns-clause-refusal c = one_misspelling
