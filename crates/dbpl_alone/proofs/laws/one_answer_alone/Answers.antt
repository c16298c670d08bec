-- Each stage does one thing.
use Rattle.dbpl_alone.proofs.Stages.{alone_determined}
use Rattle.dbpl_alone.proofs.laws.one_answer_alone.Goals as goal

pub returns : goal.returns
returns c = record { one = alone_determined }
