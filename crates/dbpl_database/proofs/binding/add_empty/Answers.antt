use Rattle.dbpl_database.proofs.Bindings.{added}
use Rattle.dbpl_database.proofs.binding.add_empty.Goals as goal

pub returns-clause-ok : goal.returns-clause-ok
returns-clause-ok c =
    added c.args.field.now c.in_ok-bound.bound c.args.database.now c.as_slice.result.now c.insert.new.self
    c.place-at.result c.in_ok-insert.ensures.ok c.place-at.ensures.place c.as_slice.ensures c.in_ok-bound.ensures
