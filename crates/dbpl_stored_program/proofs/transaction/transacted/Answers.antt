-- Each insertion is one of the program, and the relation is of a type whose records are small.
use Rattle.dbpl_stored_program.proofs.Programs.{small-each, small-flat, small-records}
use Rattle.dbpl_stored_program.proofs.transaction.transacted.Goals as goal

pub put_set-requires-clause-flat : goal.put_set-requires-clause-flat
put_set-requires-clause-flat c = small-flat c.args.program.now c.requires.small

pub put_set-requires-clause-rows : goal.put_set-requires-clause-rows
put_set-requires-clause-rows c =
    small-each c.args.program.now c.as_slice-insertion-items.result.now c.loop-insertion.insertion-index c.insertion-item.result
    c.requires.small c.as_slice-insertion-items.ensures c.loop-insertion-test.true c.insertion-item.is

pub returns-clause-are_small : goal.returns-clause-are_small
returns-clause-are_small c = small-records c.args.program.now c.loop-insertion.relation c.requires.small
