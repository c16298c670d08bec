use Rattle.dbpl_store.proofs.Changing.{whole-of}
use Rattle.dbpl_store.proofs.store.Store.whole.Goals as goal

pub returns-clause-of : goal.returns-clause-of
returns-clause-of c =
    whole-of c.args.self.now.database c.as_slice.result.now c.args.self.now.bound c.in-Some.at c.index-as_slice-at.result
    c.in-Some.is c.requires.bound c.as_slice.ensures c.args.self.now.sound
