use Rattle.std.proofs.Common.{sym, ◌∙◌}
use Rattle.std.proofs.lemmas.Result.{err_from_is_err_and}
use Rattle.dbpl_store.proofs.Standing.{newest-done, newest-read, newest-stops}
use Rattle.dbpl_store.proofs.newest.newest.Goals as goal

pub returns-in_err-database-clause-reads : goal.returns-in_err-database-clause-reads
returns-in_err-database-clause-reads c =
    let p = err_from_is_err_and c.from_residual.result c.from_residual.ensures.1 in
    rw (p.1, p.2) (λ ne.
    sym c.loop-bytes.invariant.0
    ∙ newest-stops (λ one. one.items) c.loop-bytes.database c.args.records.now c.loop-bytes.bytes-index c.bytes-item.result
    c.loop-bytes-test.true c.bytes-item.is (rw (← c.as_slice.ensures.value) (c.in_err-database.ensures.reads ne)))

pub loop-bytes-preserved : goal.loop-bytes-preserved
loop-bytes-preserved c = (
  newest-read (λ one. one.items) c.loop-bytes.database c.in_ok-database.database c.args.records.now
      c.loop-bytes.bytes-index c.bytes-item.result c.loop-bytes-test.true c.bytes-item.is
      (rw (← c.as_slice.ensures.value) c.in_ok-database.ensures.reads)
      ∙ c.loop-bytes.invariant.0,
  c.in_ok-database.ensures.found.0,
)

pub returns-clause-reads : goal.returns-clause-reads
returns-clause-reads c =
    sym c.loop-bytes.invariant.0
    ∙ newest-done (λ one. one.items) c.loop-bytes.database c.args.records.now c.loop-bytes.bytes-index c.loop-bytes-test.false
