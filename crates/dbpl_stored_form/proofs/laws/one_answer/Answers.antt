-- Each text has one list of tokens, which spell one unit.
use Rattle.dbpl_stored_form.proofs.TextLaw.{one_program, one_refusal, program_or_refusal}
use Rattle.dbpl_stored_form.proofs.laws.one_answer.Goals as goal

pub returns-clause-program : goal.returns-clause-program
returns-clause-program c = one_program

pub returns-clause-either : goal.returns-clause-either
returns-clause-either c = program_or_refusal

pub returns-clause-refusal : goal.returns-clause-refusal
returns-clause-refusal c = one_refusal
