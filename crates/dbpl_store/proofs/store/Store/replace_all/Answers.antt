use Rattle.dbpl_store.proofs.Changing.{at-bound, at-fits, held-sound, held-still, still-within}
use Rattle.dbpl_store.proofs.store.Store.replace_all.Goals as goal

pub invariant_of-self : goal.invariant_of-self
invariant_of-self c =
    record {
      sound = held-sound c.args.self.now.database c.put_relation-before.new.database c.in-Some.at c.args.all
          (at-bound c.args.self.now.database c.args.self.now.bound c.in-Some.at c.in-Some.is c.requires.bound)
          (at-fits c.args.self.now.database c.args.self.now.bound c.in-Some.at _ c.in-Some.is c.requires.fits) c.args.self.now.sound
          c.put_relation-before.ensures.put;
      kept = record {
        stored_spells = c.args.self.now.kept.stored_spells;
        stored_is = c.args.self.now.kept.stored_is;
        spells = rw (← c.as_slice.ensures) c.in-Ok.ensures;
      };
    }

pub put_relation-requires : goal.put_relation-requires
put_relation-requires c =
    still-within c.args.self.now.database c.put_relation-before.new.database c.in-Some.at c.args.all
    (at-bound c.args.self.now.database c.args.self.now.bound c.in-Some.at c.in-Some.is c.requires.bound) c.put_relation-before.ensures.put

pub returns-in-Ok-clause-held : goal.returns-in-Ok-clause-held
returns-in-Ok-clause-held c =
    held-still c.args.self.now.database c.put_relation-before.new.database c.args.self.now.bound c.in-Some.at c.args.all
    c.in-Some.is c.requires.bound c.put_relation-before.ensures.put
