use Rattle.std.specs.Ordering.{is_lt}
use Rattle.dbpl_database.proofs.Bindings.{first_or_end, first_or_end-within}
use Rattle.dbpl_value.specs.Databases.{name_cmp}
use Rattle.dbpl_database.proofs.binding.place.Goals as goal

pub returns-clause-place : goal.returns-clause-place
returns-clause-place c =
    rw (c.unwrap_or.ensures, c.first_above.ensures)
    (first_or_end (λ bound. is_lt (name_cmp c.args.name.now bound.name)) c.args.database.now)

pub returns-clause-within : goal.returns-clause-within
returns-clause-within c =
    rw (returns-clause-place c)
    (first_or_end-within (λ bound. is_lt (name_cmp c.args.name.now bound.name)) c.args.database.now)
