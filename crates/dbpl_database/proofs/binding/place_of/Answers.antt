use Rattle.dbpl_database.proofs.Bindings.{found_at, found_within}
use Rattle.dbpl_value.specs.Types.{is_same_name}
use Rattle.dbpl_database.proofs.binding.place_of.Goals as goal

pub returns-clause-named : goal.returns-clause-named
returns-clause-named c =
    rw c.first_named.ensures (found_at (λ bound. is_same_name bound.name c.args.name.now) c.args.database.now)

pub returns-clause-within : goal.returns-clause-within
returns-clause-within c =
    rw c.first_named.ensures (found_within (λ bound. is_same_name bound.name c.args.name.now) c.args.database.now)
