-- Where the walk over the digits stands.
use Rattle.std.proofs.Common.{◌≡◌, take}
use Rattle.dbpl_base.specs.Spelling as spelling
use Rattle.dbpl_scan.proofs.numbers.number_in.Given as goal

abbrev pub invariant-loop-digit : goal.invariant-loop-digit
invariant-loop-digit l = l.number ≡ spelling.number_kept (spelling.number_in l.base (take l.digit-index l.digits))
