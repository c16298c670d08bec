use Rattle.dbpl_grammar.proofs.WholeLaw as whole
use Rattle.dbpl_grammar.proofs.laws.reads_units.Goals as goal

pub returns-clause-complete : goal.returns-clause-complete
returns-clause-complete c = whole.reads_units

pub returns-clause-sound : goal.returns-clause-sound
returns-clause-sound c = whole.spelled_units

pub returns-clause-refused : goal.returns-clause-refused
returns-clause-refused c = whole.refuses_units

pub returns-clause-named : goal.returns-clause-named
returns-clause-named c = whole.names_token

pub returns-clause-begun : goal.returns-clause-begun
returns-clause-begun c = whole.begun_units
