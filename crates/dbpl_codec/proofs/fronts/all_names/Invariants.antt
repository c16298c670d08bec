use Rattle.std.proofs.Common.{◌≡◌, ◌-◌, []}
use Rattle.dbpl_codec.specs.Reading.{repeat}
use Rattle.dbpl_codec.specs.TypeReading.{name_at}
use Rattle.dbpl_codec.proofs.fronts.all_names.Given as goal

abbrev pub invariant-loop-at : goal.invariant-loop-at
invariant-loop-at l = repeat name_at (l.count - l._at) l.found l.rest ≡ repeat name_at l.count [] l.bytes
