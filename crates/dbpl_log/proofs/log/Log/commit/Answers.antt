-- The exits of a commit.
use Rattle.std.proofs.Common.{[], ◌∷◌, refl}
use Rattle.dbpl_log.proofs.Committing.{log_stands, while_staging, while_opening, committed, committed_bytes}
use Rattle.dbpl_log.proofs.OnlyLog.{only_writing}
use Rattle.dbpl_log.proofs.log.Log.commit.Goals as goal

pub returns-in_err-stage-clause-moments : goal.returns-in_err-stage-clause-moments
returns-in_err-stage-clause-moments g c told records at_rest =
    while_staging c.args.added.now records c.args.self.now.gate _ (log_stands _ c.args.self.now records at_rest) c.requires.short _ (c.in_err-stage.ensures.moments told)

pub returns-in_err-write_and_sync-clause-moments : goal.returns-in_err-write_and_sync-clause-moments
returns-in_err-write_and_sync-clause-moments g c told records at_rest =
    while_opening c.args.added.now records c.args.self.now.gate _ (log_stands _ c.args.self.now records at_rest) c.requires.short _ _
    (c.in_ok-stage.ensures.moments told) (c.in_ok-stage.ensures.ok told) (c.in_err-write_and_sync.ensures.moments told)

pub returns-clause-moments : goal.returns-clause-moments
returns-clause-moments g c told records at_rest =
    while_opening c.args.added.now records c.args.self.now.gate _ (log_stands _ c.args.self.now records at_rest) c.requires.short _ _
    (c.in_ok-stage.ensures.moments told) (c.in_ok-stage.ensures.ok told) (c.in_ok-write_and_sync.ensures.moments told)

pub returns-clause-committed : goal.returns-clause-committed
returns-clause-committed g c told records at_rest =
    committed c.args.added.now records c.args.self.now.gate _ (log_stands _ c.args.self.now records at_rest) c.requires.short _ _
    (c.in_ok-stage.ensures.ok told) (c.in_ok-write_and_sync.ensures.ok told) _ at_rest.gate refl

pub returns-clause-bytes : goal.returns-clause-bytes
returns-clause-bytes g c told records at_rest =
    committed_bytes c.args.added.now records c.args.self.now.gate _ (log_stands _ c.args.self.now records at_rest) c.requires.short _ _
    (c.in_ok-stage.ensures.ok told) (c.in_ok-write_and_sync.ensures.ok told)

pub returns-in_err-write_and_sync-clause-only_log : goal.returns-in_err-write_and_sync-clause-only_log
returns-in_err-write_and_sync-clause-only_log g c told = only_writing _ _ _ c.args.self.now.gate (1 ∷ []) (c.in_ok-stage.ensures.only_log told) (c.in_err-write_and_sync.ensures.moments told)

pub returns-clause-only_log : goal.returns-clause-only_log
returns-clause-only_log g c told = only_writing _ _ _ c.args.self.now.gate (1 ∷ []) (c.in_ok-stage.ensures.only_log told) (c.in_ok-write_and_sync.ensures.moments told)
