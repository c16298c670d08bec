use Rattle.dbpl_codec.proofs.TypeWhole.{one_type}
use Rattle.dbpl_codec.proofs.laws.one_type.Goals as goal

pub returns : goal.returns
returns c = λ t u rest other tt ft tu fu e. one_type t u rest other tt ft tu fu e
