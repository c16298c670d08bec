use Rattle.dbpl_codec.proofs.WholeLaws.{one_value}
use Rattle.dbpl_codec.proofs.laws.one_value.Goals as goal

pub returns : goal.returns
returns c = λ t v w rest other type tv fv tw fw e. one_value t v w rest other type tv fv tw fw e
