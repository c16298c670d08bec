use Rattle.dbpl_symbols.proofs.ScopeLaws.{left_again}
use Rattle.dbpl_symbols.proofs.laws.entered_and_left.Goals as goal

pub returns : goal.returns
returns c = left_again
