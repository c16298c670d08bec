-- Each stage does one thing.
use Rattle.dbpl_stored_modes.proofs.MadeLaw.{create_determined}
use Rattle.dbpl_stored_modes.proofs.Stages.{run_determined}
use Rattle.dbpl_stored_modes.proofs.laws.one_answer_over_stores.Goals as goal

pub returns-clause-run : goal.returns-clause-run
returns-clause-run c = λ store schema program work told. run_determined store schema program work told

pub returns-clause-create : goal.returns-clause-create
returns-clause-create c = λ store work told. create_determined store work told.world
