-- What is read so far.
use Rattle.std.proofs.Common.{◌+◌, ◌≤◌, length}
use Rattle.dbpl_scan.specs.BreaksOff.{ReadsTo}
use Rattle.dbpl_base.specs.Places.{start_of}
use Rattle.dbpl_scan.proofs.scanner.scan.Given as goal

abbrev pub invariant-loop-front : goal.invariant-loop-front
invariant-loop-front l = record {
  reads : ReadsTo (start_of l.fn.unit) l.fn.text l.tokens l.place l.rest;
  line : l.place.line + length l.rest ≤ 1 + length l.fn.text;
  col : l.place.col + length l.rest ≤ 1 + length l.fn.text;
  counted : 1 ≤ l.place.col;
}

abbrev pub decreases-loop-front : goal.decreases-loop-front
decreases-loop-front l = length l.rest
