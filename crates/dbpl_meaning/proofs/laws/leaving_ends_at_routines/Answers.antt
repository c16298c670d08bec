-- By the end of a routine, which is the end of each of both.
use Rattle.dbpl_meaning.proofs.Leaving.{runs-stays, stays_call}
use Rattle.dbpl_meaning.proofs.laws.leaving_ends_at_routines.Goals as goal

pub returns-clause-calls : goal.returns-clause-calls
returns-clause-calls c = λ program room place owner name cells state. (stays_call program room place owner name cells).by state

pub returns-clause-whole : goal.returns-clause-whole
returns-clause-whole c = runs-stays
