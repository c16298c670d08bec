-- The declarations of their own so far.
use Rattle.std.proofs.Common.{◌≡◌, filter, take}
use Rattle.dbpl_symbols.specs.Interfaces.{is_own}
use Rattle.dbpl_symbols.specs.Places.{pairs_of}
use Rattle.dbpl_symbols.proofs.places.copy_own.Given as goal

abbrev pub invariant-loop-one : goal.invariant-loop-one
invariant-loop-one l = l.pairs ≡ filter is_own (pairs_of (take l.one-index l.held))
