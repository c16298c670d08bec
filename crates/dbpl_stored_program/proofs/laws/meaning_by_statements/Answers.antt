-- The variable is there, since it was bound.
use Rattle.dbpl_stored_program.proofs.Databases.{bound-is_there}
use Rattle.dbpl_stored_program.proofs.Statements.{whole-comes_to}
use Rattle.dbpl_stored_program.proofs.laws.meaning_by_statements.Goals as goal

pub returns : goal.returns
returns c = λ program before database input binds.
    let there = bound-is_there program.relation before database binds in
    whole-comes_to program database input there.0 there.1
