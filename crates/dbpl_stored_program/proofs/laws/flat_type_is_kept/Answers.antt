-- Rule by rule.
use Rattle.dbpl_stored_program.proofs.Kept.{flat-is_flat, flat-kept}
use Rattle.dbpl_stored_program.proofs.laws.flat_type_is_kept.Goals as goal

pub returns-clause-kept : goal.returns-clause-kept
returns-clause-kept c = flat-kept

pub returns-clause-flat : goal.returns-clause-flat
returns-clause-flat c = flat-is_flat
