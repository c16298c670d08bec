-- Where the walk over the bytes stands.
use Rattle.std.proofs.Common.{◌≡◌, take}
use Rattle.dbpl_base.specs.Places as places
use Rattle.dbpl_scan.proofs.places.place_after.Given as goal

abbrev pub invariant-loop-byte : goal.invariant-loop-byte
invariant-loop-byte l = l.there ≡ places.place_after l.fn.place (take l.byte-index l.bytes)
