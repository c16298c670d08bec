-- The exits of a record that is put behind a shut gate.
use Rattle.std.proofs.Common.{◌+◌, [], ◌∷◌, length}
use Rattle.dbpl_log.proofs.OnlyLog.{only_start, only_same, only_wrote, only_synced, only_failed}
use Rattle.dbpl_log.proofs.Staging.{exit1, exit2, exit3, exit4, staged}
use Rattle.dbpl_log.proofs.commit.stage.Goals as goal

pub returns-in_err-write_at-clause-moments : goal.returns-in_err-write_at-clause-moments
returns-in_err-write_at-clause-moments g c told front rest is long =
    exit1 c.args.gate c.to_le_bytes-field.result c.args.added.now front rest _ is long _ (c.in_err-write_at.ensures.err told)

pub returns-in_err-write_at-2-clause-moments : goal.returns-in_err-write_at-2-clause-moments
returns-in_err-write_at-2-clause-moments g c told front rest is long =
    exit2 c.args.gate c.to_le_bytes-field.result c.args.added.now front rest _ is long _ _ (c.in_ok-write_at.ensures.ok told) (c.in_err-write_at-2.ensures.err told)

pub returns-in_err-write_at-3-clause-moments : goal.returns-in_err-write_at-3-clause-moments
returns-in_err-write_at-3-clause-moments g c told front rest is long =
    exit3 c.args.gate c.to_le_bytes-field.result c.args.added.now front rest _ is long _ _ _ (c.in_ok-write_at.ensures.ok told) (c.in_ok-write_at-2.ensures.ok told) (c.in_err-write_at-3.ensures.err told)

pub returns-in_err-sync-clause-moments : goal.returns-in_err-sync-clause-moments
returns-in_err-sync-clause-moments g c told front rest is long =
    exit4 c.args.gate c.to_le_bytes-field.result c.args.added.now front rest _ is long _ _ _ _ (c.in_ok-write_at.ensures.ok told) (c.in_ok-write_at-2.ensures.ok told) (c.in_ok-write_at-3.ensures.ok told) (c.in_err-sync.ensures.err told)

pub returns-clause-moments : goal.returns-clause-moments
returns-clause-moments g c told front rest is long =
    staged c.args.gate c.to_le_bytes-field.result c.args.added.now front rest _ is long _ _ _ _ (g.met.W.World.reads_an_image c.write_at-3.new.self told)
    (c.in_ok-write_at.ensures.ok told) (c.in_ok-write_at-2.ensures.ok told) (c.in_ok-write_at-3.ensures.ok told) (c.in_ok-sync.ensures.ok told)

pub returns-in_err-write_at-clause-only_log : goal.returns-in_err-write_at-clause-only_log
returns-in_err-write_at-clause-only_log g c told = only_failed _ _ _ (c.args.gate + 1) (length c.to_le_bytes-field.result) (only_start _) (c.in_err-write_at.ensures.err told)

pub returns-in_err-write_at-2-clause-only_log : goal.returns-in_err-write_at-2-clause-only_log
returns-in_err-write_at-2-clause-only_log g c told =
    let first = only_wrote _ _ _ (c.args.gate + 1) c.to_le_bytes-field.result (only_start _) (c.in_ok-write_at.ensures.ok told) in
    only_failed _ _ _ (c.args.gate + 5) (length c.args.added.now) first (c.in_err-write_at-2.ensures.err told)

pub returns-in_err-write_at-3-clause-only_log : goal.returns-in_err-write_at-3-clause-only_log
returns-in_err-write_at-3-clause-only_log g c told =
    let first = only_wrote _ _ _ (c.args.gate + 1) c.to_le_bytes-field.result (only_start _) (c.in_ok-write_at.ensures.ok told) in
    let second = only_wrote _ _ _ (c.args.gate + 5) c.args.added.now first (c.in_ok-write_at-2.ensures.ok told) in
    only_failed _ _ _ (c.args.gate + 5 + length c.args.added.now) 1 second (c.in_err-write_at-3.ensures.err told)

pub returns-in_err-sync-clause-only_log : goal.returns-in_err-sync-clause-only_log
returns-in_err-sync-clause-only_log g c told =
    let first = only_wrote _ _ _ (c.args.gate + 1) c.to_le_bytes-field.result (only_start _) (c.in_ok-write_at.ensures.ok told) in
    let second = only_wrote _ _ _ (c.args.gate + 5) c.args.added.now first (c.in_ok-write_at-2.ensures.ok told) in
    let third = only_wrote _ _ _ (c.args.gate + 5 + length c.args.added.now) (0 ∷ []) second (c.in_ok-write_at-3.ensures.ok told) in
    only_same _ _ _ third (c.in_err-sync.ensures.err told)

pub returns-clause-only_log : goal.returns-clause-only_log
returns-clause-only_log g c told =
    let first = only_wrote _ _ _ (c.args.gate + 1) c.to_le_bytes-field.result (only_start _) (c.in_ok-write_at.ensures.ok told) in
    let second = only_wrote _ _ _ (c.args.gate + 5) c.args.added.now first (c.in_ok-write_at-2.ensures.ok told) in
    let third = only_wrote _ _ _ (c.args.gate + 5 + length c.args.added.now) (0 ∷ []) second (c.in_ok-write_at-3.ensures.ok told) in
    only_synced _ _ _ third (c.in_ok-sync.ensures.ok told)
