use Rattle.std.proofs.Common.{◌∙◌, refl, sym}
use Rattle.dbpl_database.proofs.Given.{bound_given}
use Rattle.dbpl_database.proofs.reading.kept.Goals as goal

pub returns-then-is_bound : goal.returns-then-is_bound
returns-then-is_bound c =
    rw (bound_given c.args.bound c.requires.typed c.requires.of ∙ sym c.is_bound.ensures ∙ c.if-is_bound.true) refl

pub returns-else-is_bound : goal.returns-else-is_bound
returns-else-is_bound c = λ ne.
    rw (bound_given c.args.bound c.requires.typed c.requires.of ∙ sym c.is_bound.ensures ∙ c.if-is_bound.false) refl
