-- What is read so far.
use Rattle.std.proofs.Common.{length, map}
use Rattle.dbpl_log.proofs.ReadingLaws.{ReadsOn}
use Rattle.dbpl_log.proofs.reading.read_records.Given as goal

abbrev pub invariant-loop-gate : goal.invariant-loop-gate
invariant-loop-gate l = record {
  reads : ReadsOn l.fn.log (map (λ one. one.items) l.records.items) l.rest;
}

abbrev pub decreases-loop-gate : goal.decreases-loop-gate
decreases-loop-gate l = length l.rest
