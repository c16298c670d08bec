-- Each stage of each command does one thing.
use Rattle.dbpl_tool.proofs.Rows.{one_of}
use Rattle.dbpl_tool.proofs.laws.one_answer.Goals as goal

pub returns : goal.returns
returns c = record { one = one_of }
