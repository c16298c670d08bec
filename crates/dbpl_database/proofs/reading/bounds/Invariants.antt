use Rattle.std.proofs.Common.{◌≡◌, ◌-◌, []}
use Rattle.dbpl_codec.specs.Reading.{repeat}
use Rattle.dbpl_database.specs.Reading.{bound_at}
use Rattle.dbpl_database.proofs.reading.bounds.Given as goal

abbrev pub invariant-loop-at : goal.invariant-loop-at
invariant-loop-at l = repeat bound_at (l.count - l._at) l.database l.rest ≡ repeat bound_at l.count [] l.bytes
