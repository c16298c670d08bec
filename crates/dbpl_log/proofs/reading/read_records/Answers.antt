-- Each gate of a log.
use Rattle.std.proofs.Common.{rules, ◌≡◌, sym, subst, Some, None}
use Rattle.dbpl_log.specs.Records.{record_in}
use Rattle.dbpl_log.proofs.ReadingLaws.{ReadsOn, reads_start, reads_short, reads_end, reads_shut, reads_unfit, reads_shorter, reads_more, bytes_of_each, each_more}
use Rattle.dbpl_log.proofs.reading.read_records.Goals as goal

pub returns-then-log-lt-HEAD-clause-records : goal.returns-then-log-lt-HEAD-clause-records
returns-then-log-lt-HEAD-clause-records c = reads_short c.args.log.now c.if-log-lt-HEAD.true

pub loop-gate-init : goal.loop-gate-init
loop-gate-init c =
    let start = reads_start c.args.log.now c.if-log-lt-HEAD.false in
    record { reads = rw (c.new-records.ensures.items, c.split_at.ensures.back) start }

pub returns-then-gate-ne1-clause-records : goal.returns-then-gate-ne1-clause-records
returns-then-gate-ne1-clause-records c = reads_shut c.args.log.now (bytes_of_each c.loop-gate.records.items) c.loop-gate.rest.now c.in-Some.gate.now c.in-Some.behind.now c.loop-gate.invariant.reads c.in-Some.ensures.cases.0 c.if-gate-ne1.true

pub returns-in_default-first_record-clause-records : goal.returns-in_default-first_record-clause-records
returns-in_default-first_record-clause-records c =
    let unfit : record_in c.in-Some.behind.now ≡ None = sym c.in_default-first_record.ensures in
    reads_unfit c.args.log.now (bytes_of_each c.loop-gate.records.items) c.loop-gate.rest.now c.in-Some.gate.now c.in-Some.behind.now c.loop-gate.invariant.reads c.in-Some.ensures.cases.0 c.if-gate-ne1.false unfit

pub loop-gate-smaller : goal.loop-gate-smaller
loop-gate-smaller c =
    let fits : record_in c.in-Some.behind.now ≡ Some (c.in-Some-first_record.record.now, c.in-Some-first_record.after.now) = sym c.in-Some-first_record.ensures in
    reads_shorter c.loop-gate.rest.now c.in-Some.gate.now c.in-Some.behind.now c.in-Some-first_record.record.now c.in-Some-first_record.after.now c.in-Some.ensures.cases.0 fits

pub loop-gate-preserved : goal.loop-gate-preserved
loop-gate-preserved c =
    let fits : record_in c.in-Some.behind.now ≡ Some (c.in-Some-first_record.record.now, c.in-Some-first_record.after.now) = sym c.in-Some-first_record.ensures in
    let more = reads_more c.args.log.now (bytes_of_each c.loop-gate.records.items) c.loop-gate.rest.now c.in-Some.gate.now c.in-Some.behind.now c.in-Some-first_record.record.now c.in-Some-first_record.after.now c.loop-gate.invariant.reads c.in-Some.ensures.cases.0 c.if-gate-ne1.false fits in
    let same : c.in_ok-to_vec.field-0.items ≡ c.in-Some-first_record.record.now = search rules in
    let all = each_more c.loop-gate.records.items c.push.new.self.items c.in_ok-to_vec.field-0 c.in-Some-first_record.record.now c.in_ok-push.ensures.items same in
    record { reads = subst (λ found. ReadsOn c.args.log.now found c.in-Some-first_record.after.now) (sym all) more }

pub returns-clause-records : goal.returns-clause-records
returns-clause-records c = reads_end c.args.log.now (bytes_of_each c.loop-gate.records.items) c.loop-gate.rest.now c.loop-gate.invariant.reads c.in_default.ensures.cases
