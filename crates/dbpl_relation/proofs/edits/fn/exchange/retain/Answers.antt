use Rattle.std.proofs.Common.{not, refl, ap}
use Rattle.std.proofs.lemmas.Fn.{says_at}
use Rattle.dbpl_relation.proofs.edits.fn.exchange.retain.Goals as goal

pub returns : goal.returns
returns g c test computes = ap not (computes c.args.element.now c.inside.result (says_at g.F.Fn c.inside.ensures refl))
