-- The gate is shut already, or it is shut here.
use Rattle.std.proofs.Common.{[], ◌∷◌, ap}
use Rattle.dbpl_world.specs.Images.{PartState}
use Rattle.dbpl_log.proofs.Creating.{not_shut, unshut, shutting, shut_part}
use Rattle.dbpl_log.proofs.OnlyLog.{only_start, only_same, only_writing}
use Rattle.dbpl_log.proofs.creation.shut_head.Goals as goal

pub returns-in_err-begins_shut-clause-moments : goal.returns-in_err-begins_shut-clause-moments
returns-in_err-begins_shut-clause-moments g c told are_none log part may = not_shut are_none log _ _ part may (c.begins_shut.ensures.unchanged told)

pub returns-then-branch-clause-moments : goal.returns-then-branch-clause-moments
returns-then-branch-clause-moments g c told are_none log part may = not_shut are_none log _ _ part may (c.begins_shut.ensures.unchanged told)

pub returns-in_err-write_and_sync-clause-moments : goal.returns-in_err-write_and_sync-clause-moments
returns-in_err-write_and_sync-clause-moments g c told are_none log part may =
    let not_yet = unshut log _ c.in_ok-begins_shut.field-0 (ap (λ (p : PartState). p.now) part) (c.in_ok-begins_shut.ensures.ok told) c.if-branch.false in
    shutting are_none log _ _ _ part may (c.begins_shut.ensures.unchanged told) not_yet (c.in_err-write_and_sync.ensures.moments told)

pub returns-clause-shut : goal.returns-clause-shut
returns-clause-shut g c told log part = shut_part log _ _ _ part (c.begins_shut.ensures.unchanged told) (c.in_ok-write_and_sync.ensures.ok told)

pub returns-clause-moments : goal.returns-clause-moments
returns-clause-moments g c told are_none log part may =
    let not_yet = unshut log _ c.in_ok-begins_shut.field-0 (ap (λ (p : PartState). p.now) part) (c.in_ok-begins_shut.ensures.ok told) c.if-branch.false in
    shutting are_none log _ _ _ part may (c.begins_shut.ensures.unchanged told) not_yet (c.in_ok-write_and_sync.ensures.moments told)

pub returns-in_err-begins_shut-clause-only_log : goal.returns-in_err-begins_shut-clause-only_log
returns-in_err-begins_shut-clause-only_log g c told = only_same _ _ _ (only_start _) (c.begins_shut.ensures.unchanged told)

pub returns-then-branch-clause-only_log : goal.returns-then-branch-clause-only_log
returns-then-branch-clause-only_log g c told = only_same _ _ _ (only_start _) (c.begins_shut.ensures.unchanged told)

pub returns-in_err-write_and_sync-clause-only_log : goal.returns-in_err-write_and_sync-clause-only_log
returns-in_err-write_and_sync-clause-only_log g c told = only_writing _ _ _ 0 (0 ∷ []) (only_same _ _ _ (only_start _) (c.begins_shut.ensures.unchanged told)) (c.in_err-write_and_sync.ensures.moments told)

pub returns-clause-only_log : goal.returns-clause-only_log
returns-clause-only_log g c told = only_writing _ _ _ 0 (0 ∷ []) (only_same _ _ _ (only_start _) (c.begins_shut.ensures.unchanged told)) (c.in_ok-write_and_sync.ensures.moments told)
