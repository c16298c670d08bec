-- The front stays, and the places are those of what is held.
use Rattle.std.proofs.Common.{◌≡◌, length, take}
use Rattle.dbpl_symbols.specs.Places.{IsIndexed}
use Rattle.dbpl_symbols.proofs.places.cut.Given as goal

abbrev pub invariant-loop-held : goal.invariant-loop-held
invariant-loop-held l = (take l.start l.held ≡ take l.start l.fn.held) × IsIndexed l.held l.places

abbrev pub decreases-loop-held : goal.decreases-loop-held
decreases-loop-held l = length l.held
