-- A text has one list of tokens, which spell one unit.
use Rattle.dbpl_alone.proofs.ModuleLaw.{module_or_refusal, one_module, one_refusal}
use Rattle.dbpl_alone.proofs.module_laws.one_answer.Goals as goal

pub returns-clause-module : goal.returns-clause-module
returns-clause-module c = one_module

pub returns-clause-either : goal.returns-clause-either
returns-clause-either c = module_or_refusal

pub returns-clause-refusal : goal.returns-clause-refusal
returns-clause-refusal c = one_refusal
