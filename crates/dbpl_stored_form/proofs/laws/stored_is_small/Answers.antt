-- Part by part, from the statements up.
use Rattle.dbpl_stored_form.proofs.SmallLaw.{stored-small}
use Rattle.dbpl_stored_form.proofs.laws.stored_is_small.Goals as goal

pub returns : goal.returns
returns c = stored-small c.flat_type_is_kept.ensures.kept c.flat_type_is_kept.ensures.flat
