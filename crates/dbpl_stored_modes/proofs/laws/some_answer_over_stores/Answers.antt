-- Each stage passes or is refused.
use Rattle.dbpl_stored_modes.proofs.Decided.{create_decided, run_decided}
use Rattle.dbpl_stored_modes.proofs.laws.some_answer_over_stores.Goals as goal

pub returns-clause-run : goal.returns-clause-run
returns-clause-run c = λ store schema program work told texts. run_decided store schema program work told texts

pub returns-clause-create : goal.returns-clause-create
returns-clause-create c = λ store work. create_decided store work
