use Rattle.dbpl_codec.proofs.SizeLaw.{size_of-spelling}
use Rattle.dbpl_codec.proofs.laws.coded_size.Goals as goal

pub returns : goal.returns
returns c = λ t v. size_of-spelling t v
