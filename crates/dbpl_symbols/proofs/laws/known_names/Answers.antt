use Rattle.dbpl_symbols.proofs.KnownLaws.{interface_known, seen_known, shown_known}
use Rattle.dbpl_symbols.proofs.laws.known_names.Goals as goal

pub returns-clause-seen : goal.returns-clause-seen
returns-clause-seen c = seen_known

pub returns-clause-shown : goal.returns-clause-shown
returns-clause-shown c = shown_known

pub returns-clause-interface : goal.returns-clause-interface
returns-clause-interface c = interface_known
