use Rattle.dbpl_symbols.proofs.KnownLaws.{in_out_known, standard_known}
use Rattle.dbpl_symbols.proofs.laws.first_names_are_known.Goals as goal

pub returns-clause-standard : goal.returns-clause-standard
returns-clause-standard c = standard_known

pub returns-clause-in_out : goal.returns-clause-in_out
returns-clause-in_out c = in_out_known
