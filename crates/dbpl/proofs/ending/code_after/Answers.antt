-- The code is that of the status with which the one call answered.
use Rattle.dbpl.proofs.ending.code_after.Goals as goal

pub returns : goal.returns
returns g c = (
  c.dbpl.result,
  c.code.ensures,
  record {
    keeps = c.dbpl.ensures.answers;
    bad_words = c.dbpl.ensures.bad_words;
    bad_words_only = c.dbpl.ensures.bad_words_only;
    idle = c.dbpl.ensures.idle;
    noted = c.dbpl.ensures.noted;
    counts = c.dbpl.ensures.counts;
  },
)
