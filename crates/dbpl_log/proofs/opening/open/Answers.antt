-- The exits of an opening.
use Rattle.std.proofs.Common.{refl, ◌∙◌}
use Rattle.dbpl_log.specs.Rest.{records_in}
use Rattle.dbpl_log.proofs.Openings.{both_synced, no_head, some_head, some_read, none_read, rests, stands_for}
use Rattle.dbpl_log.proofs.opening.open.Goals as goal

pub returns-then-not-branch-clause-not_store : goal.returns-then-not-branch-clause-not_store
returns-then-not-branch-clause-not_store g c told e = no_head _ _ (c.in_ok-sync_both.ensures.ok told) c.in_ok-has_head.field-0 c.if-not-branch.true (c.in_ok-has_head.ensures.ok told)

pub returns-then-not-branch-clause-damaged_where : goal.returns-then-not-branch-clause-damaged_where
returns-then-not-branch-clause-damaged_where g c told head none = absurd (no_head _ _ (c.in_ok-sync_both.ensures.ok told) c.in_ok-has_head.field-0 c.if-not-branch.true (c.in_ok-has_head.ensures.ok told) head)

pub returns-in_err-log-clause-not_store_where : goal.returns-in_err-log-clause-not_store_where
returns-in_err-log-clause-not_store_where g c told not = absurd (not (some_head _ _ (c.in_ok-sync_both.ensures.ok told) c.in_ok-has_head.field-0 c.if-not-branch.false (c.in_ok-has_head.ensures.ok told)))

pub returns-in_err-opened-clause-not_store_where : goal.returns-in_err-opened-clause-not_store_where
returns-in_err-opened-clause-not_store_where g c told not = absurd (not (some_head _ _ (c.in_ok-sync_both.ensures.ok told) c.in_ok-has_head.field-0 c.if-not-branch.false (c.in_ok-has_head.ensures.ok told)))

pub returns-in-Some-clause-records : goal.returns-in-Some-clause-records
returns-in-Some-clause-records g c told = some_read _ _ (c.in_ok-sync_both.ensures.ok told) _ (c.has_head.ensures.unchanged told) c.in_ok-has_head.field-0 c.if-not-branch.false (c.in_ok-has_head.ensures.ok told) c.deref.result.now (c.deref.ensures.value ∙ c.in_ok-log.ensures.bytes told) c.in_ok-opened.field-0 c.in-Some.opened c.in-Some.is c.in_ok-opened.ensures.records

pub returns-in-Some-clause-at_rest : goal.returns-in-Some-clause-at_rest
returns-in-Some-clause-at_rest g c told =
    let read = some_read _ _ (c.in_ok-sync_both.ensures.ok told) _ (c.has_head.ensures.unchanged told) c.in_ok-has_head.field-0 c.if-not-branch.false (c.in_ok-has_head.ensures.ok told) c.deref.result.now (c.deref.ensures.value ∙ c.in_ok-log.ensures.bytes told) c.in_ok-opened.field-0 c.in-Some.opened c.in-Some.is c.in_ok-opened.ensures.records in
    rests _ _ (c.in_ok-sync_both.ensures.ok told) _ (c.has_head.ensures.unchanged told) c.in_ok-has_head.field-0 c.if-not-branch.false (c.in_ok-has_head.ensures.ok told) c.deref.result.now (c.deref.ensures.value ∙ c.in_ok-log.ensures.bytes told) _ c.in-Some.opened (c.read_log.ensures.unchanged told) read (rw c.in-Some.is at c.in_ok-opened.ensures.gate)

pub returns-in-Some-clause-synced : goal.returns-in-Some-clause-synced
returns-in-Some-clause-synced g c told = both_synced _ _ (c.in_ok-sync_both.ensures.ok told) _ _ (c.has_head.ensures.unchanged told) (c.read_log.ensures.unchanged told)

pub returns-in-Some-clause-stood : goal.returns-in-Some-clause-stood
returns-in-Some-clause-stood g c told records premise =
    let read = some_read _ _ (c.in_ok-sync_both.ensures.ok told) _ (c.has_head.ensures.unchanged told) c.in_ok-has_head.field-0 c.if-not-branch.false (c.in_ok-has_head.ensures.ok told) c.deref.result.now (c.deref.ensures.value ∙ c.in_ok-log.ensures.bytes told) c.in_ok-opened.field-0 c.in-Some.opened c.in-Some.is c.in_ok-opened.ensures.records in
    stands_for _ _ (c.in_ok-sync_both.ensures.ok told) (records_in c.in-Some.opened) records (g.met.W.World.reads_an_image c.args.world.now told) premise read

pub returns-in-Some-clause-not_store_where : goal.returns-in-Some-clause-not_store_where
returns-in-Some-clause-not_store_where g c told not = absurd (not (some_head _ _ (c.in_ok-sync_both.ensures.ok told) c.in_ok-has_head.field-0 c.if-not-branch.false (c.in_ok-has_head.ensures.ok told)))

pub returns-in-Some-clause-damaged_where : goal.returns-in-Some-clause-damaged_where
returns-in-Some-clause-damaged_where g c told head none =
    let read = some_read _ _ (c.in_ok-sync_both.ensures.ok told) _ (c.has_head.ensures.unchanged told) c.in_ok-has_head.field-0 c.if-not-branch.false (c.in_ok-has_head.ensures.ok told) c.deref.result.now (c.deref.ensures.value ∙ c.in_ok-log.ensures.bytes told) c.in_ok-opened.field-0 c.in-Some.opened c.in-Some.is c.in_ok-opened.ensures.records in
    absurd cc

pub returns-clause-not_store_where : goal.returns-clause-not_store_where
returns-clause-not_store_where g c told not = absurd (not (some_head _ _ (c.in_ok-sync_both.ensures.ok told) c.in_ok-has_head.field-0 c.if-not-branch.false (c.in_ok-has_head.ensures.ok told)))

pub returns-clause-damaged : goal.returns-clause-damaged
returns-clause-damaged g c told e = (some_head _ _ (c.in_ok-sync_both.ensures.ok told) c.in_ok-has_head.field-0 c.if-not-branch.false (c.in_ok-has_head.ensures.ok told), none_read _ _ (c.in_ok-sync_both.ensures.ok told) _ (c.has_head.ensures.unchanged told) c.in_ok-has_head.field-0 c.if-not-branch.false (c.in_ok-has_head.ensures.ok told) c.deref.result.now (c.deref.ensures.value ∙ c.in_ok-log.ensures.bytes told) c.in_ok-opened.field-0 c.in-None.is c.in_ok-opened.ensures.records)

pub returns-then-not-branch-clause-settled : goal.returns-then-not-branch-clause-settled
returns-then-not-branch-clause-settled g c told refused = both_synced _ _ (c.in_ok-sync_both.ensures.ok told) _ _ (c.has_head.ensures.unchanged told) refl

pub returns-in_err-log-clause-settled : goal.returns-in_err-log-clause-settled
returns-in_err-log-clause-settled g c told refused = both_synced _ _ (c.in_ok-sync_both.ensures.ok told) _ _ (c.has_head.ensures.unchanged told) (c.read_log.ensures.unchanged told)

pub returns-in_err-opened-clause-settled : goal.returns-in_err-opened-clause-settled
returns-in_err-opened-clause-settled g c told refused = both_synced _ _ (c.in_ok-sync_both.ensures.ok told) _ _ (c.has_head.ensures.unchanged told) (c.read_log.ensures.unchanged told)

pub returns-clause-settled : goal.returns-clause-settled
returns-clause-settled g c told refused = both_synced _ _ (c.in_ok-sync_both.ensures.ok told) _ _ (c.has_head.ensures.unchanged told) (c.read_log.ensures.unchanged told)
