-- The exits of a create.
use Rattle.std.proofs.Common.{Err, [], ◌∷◌, refl, ap}
use Rattle.std.proofs.lemmas.Result.{err_from_is_err_and}
use Rattle.dbpl_log.specs.declared.create_err.CreateErr.{CreateErr}
use Rattle.dbpl_log.proofs.Heads.{text_literal}
use Rattle.dbpl_log.proofs.Creating.{in_error, part2, begun2, begun3, begun4, begun5, begun_only, begun_bytes, head0, foreign0, free0, exists_or_fault, foreign_or_fault, not_both, begun1}
use Rattle.dbpl_log.proofs.Openings.{both_synced}
use Rattle.dbpl_log.proofs.OnlyLog.{only_writing, pages_synced, writes_same, writes_synced, writes_then}
use Rattle.dbpl_log.proofs.creation.create.Goals as goal

pub returns-in_err-sync_both-clause-moments : goal.returns-in_err-sync_both-clause-moments
returns-in_err-sync_both-clause-moments g c told are_none none premise = begun1 are_none _ _ premise (c.in_err-sync_both.ensures.moments told)

pub returns-in_err-check_free-clause-moments : goal.returns-in_err-check_free-clause-moments
returns-in_err-check_free-clause-moments g c told are_none none premise =
    begun2 _ _ _ (g.met.W.World.reads_an_image c.args.world.now told) (c.in_ok-sync_both.ensures.ok told) (c.check_free.ensures.unchanged told) are_none premise (c.in_ok-sync_both.ensures.moments told)

pub returns-in_err-check_free-clause-exists : goal.returns-in_err-check_free-clause-exists
returns-in_err-check_free-clause-exists g c told =
    let p = err_from_is_err_and c.from_residual-in_err-check_free.result c.from_residual-in_err-check_free.ensures.1 in
    rw (p.1, p.2) (λ e. head0 _ _ _ (g.met.W.World.reads_an_image c.args.world.now told) (c.in_ok-sync_both.ensures.ok told) (c.check_free.ensures.unchanged told) (c.in_err-check_free.ensures.exists told e))

pub returns-in_err-check_free-clause-exists_where : goal.returns-in_err-check_free-clause-exists_where
returns-in_err-check_free-clause-exists_where g c told =
    let p = err_from_is_err_and c.from_residual-in_err-check_free.result c.from_residual-in_err-check_free.ensures.1 in
    rw (p.1, p.2) (λ head. in_error _ _ _ (exists_or_fault _ c.in_err-check_free.field-0.0 (λ e. foreign0 _ _ _ (g.met.W.World.reads_an_image c.args.world.now told) (c.in_ok-sync_both.ensures.ok told) (c.check_free.ensures.unchanged told) (c.in_err-check_free.ensures.foreign told (ap (λ (f : CreateErr). Err f) e))) head))

pub returns-in_err-check_free-clause-foreign : goal.returns-in_err-check_free-clause-foreign
returns-in_err-check_free-clause-foreign g c told =
    let p = err_from_is_err_and c.from_residual-in_err-check_free.result c.from_residual-in_err-check_free.ensures.1 in
    rw (p.1, p.2) (λ e. foreign0 _ _ _ (g.met.W.World.reads_an_image c.args.world.now told) (c.in_ok-sync_both.ensures.ok told) (c.check_free.ensures.unchanged told) (c.in_err-check_free.ensures.foreign told e))

pub returns-in_err-check_free-clause-foreign_where : goal.returns-in_err-check_free-clause-foreign_where
returns-in_err-check_free-clause-foreign_where g c told =
    let p = err_from_is_err_and c.from_residual-in_err-check_free.result c.from_residual-in_err-check_free.ensures.1 in
    rw (p.1, p.2) (λ foreign. in_error _ _ _ (foreign_or_fault _ c.in_err-check_free.field-0.0 (λ e. head0 _ _ _ (g.met.W.World.reads_an_image c.args.world.now told) (c.in_ok-sync_both.ensures.ok told) (c.check_free.ensures.unchanged told) (c.in_err-check_free.ensures.exists told (ap (λ (f : CreateErr). Err f) e))) foreign))

pub returns-in_err-shut_head-clause-moments : goal.returns-in_err-shut_head-clause-moments
returns-in_err-shut_head-clause-moments g c told are_none none premise =
    begun3 _ _ _ (g.met.W.World.reads_an_image c.args.world.now told) (c.in_ok-sync_both.ensures.ok told) (c.check_free.ensures.unchanged told) are_none _ premise (c.in_ok-sync_both.ensures.moments told) (c.in_err-shut_head.ensures.moments told are_none)

pub returns-in_err-write_and_sync-clause-moments : goal.returns-in_err-write_and_sync-clause-moments
returns-in_err-write_and_sync-clause-moments g c told are_none none premise =
    let at2 = part2 _ _ _ (g.met.W.World.reads_an_image c.args.world.now told) (c.in_ok-sync_both.ensures.ok told) (c.check_free.ensures.unchanged told) in
    let before = begun3 _ _ _ (g.met.W.World.reads_an_image c.args.world.now told) (c.in_ok-sync_both.ensures.ok told) (c.check_free.ensures.unchanged told) are_none _ premise (c.in_ok-sync_both.ensures.moments told) (c.in_ok-shut_head.ensures.moments told are_none) in
    begun4 _ _ _ (g.met.W.World.reads_an_image c.args.world.now told) (c.in_ok-sync_both.ensures.ok told) (c.check_free.ensures.unchanged told) _ (c.in_ok-shut_head.ensures.shut told _ at2) _ text_literal are_none _ before (c.in_err-write_and_sync.ensures.moments told)

pub returns-in_err-write_and_sync-2-clause-moments : goal.returns-in_err-write_and_sync-2-clause-moments
returns-in_err-write_and_sync-2-clause-moments g c told are_none none premise =
    let at2 = part2 _ _ _ (g.met.W.World.reads_an_image c.args.world.now told) (c.in_ok-sync_both.ensures.ok told) (c.check_free.ensures.unchanged told) in
    let before = begun3 _ _ _ (g.met.W.World.reads_an_image c.args.world.now told) (c.in_ok-sync_both.ensures.ok told) (c.check_free.ensures.unchanged told) are_none _ premise (c.in_ok-sync_both.ensures.moments told) (c.in_ok-shut_head.ensures.moments told are_none) in
    let text = begun4 _ _ _ (g.met.W.World.reads_an_image c.args.world.now told) (c.in_ok-sync_both.ensures.ok told) (c.check_free.ensures.unchanged told) _ (c.in_ok-shut_head.ensures.shut told _ at2) _ text_literal are_none _ before (c.in_ok-write_and_sync.ensures.moments told) in
    begun5 _ _ _ (g.met.W.World.reads_an_image c.args.world.now told) (c.in_ok-sync_both.ensures.ok told) (c.check_free.ensures.unchanged told) _ (c.in_ok-shut_head.ensures.shut told _ at2) _ text_literal are_none none _ _ text (c.in_ok-write_and_sync.ensures.ok told) (c.in_err-write_and_sync-2.ensures.moments told)

pub returns-clause-moments : goal.returns-clause-moments
returns-clause-moments g c told are_none none premise =
    let at2 = part2 _ _ _ (g.met.W.World.reads_an_image c.args.world.now told) (c.in_ok-sync_both.ensures.ok told) (c.check_free.ensures.unchanged told) in
    let before = begun3 _ _ _ (g.met.W.World.reads_an_image c.args.world.now told) (c.in_ok-sync_both.ensures.ok told) (c.check_free.ensures.unchanged told) are_none _ premise (c.in_ok-sync_both.ensures.moments told) (c.in_ok-shut_head.ensures.moments told are_none) in
    let text = begun4 _ _ _ (g.met.W.World.reads_an_image c.args.world.now told) (c.in_ok-sync_both.ensures.ok told) (c.check_free.ensures.unchanged told) _ (c.in_ok-shut_head.ensures.shut told _ at2) _ text_literal are_none _ before (c.in_ok-write_and_sync.ensures.moments told) in
    begun5 _ _ _ (g.met.W.World.reads_an_image c.args.world.now told) (c.in_ok-sync_both.ensures.ok told) (c.check_free.ensures.unchanged told) _ (c.in_ok-shut_head.ensures.shut told _ at2) _ text_literal are_none none _ _ text (c.in_ok-write_and_sync.ensures.ok told) (c.in_ok-write_and_sync-2.ensures.moments told)

pub returns-clause-made : goal.returns-clause-made
returns-clause-made g c told =
    let at2 = part2 _ _ _ (g.met.W.World.reads_an_image c.args.world.now told) (c.in_ok-sync_both.ensures.ok told) (c.check_free.ensures.unchanged told) in
    begun_only _ _ _ (g.met.W.World.reads_an_image c.args.world.now told) (c.in_ok-sync_both.ensures.ok told) (c.check_free.ensures.unchanged told) _ (c.in_ok-shut_head.ensures.shut told _ at2) _ text_literal _ _ (c.in_ok-write_and_sync.ensures.ok told) (c.in_ok-write_and_sync-2.ensures.ok told)

pub returns-clause-bytes : goal.returns-clause-bytes
returns-clause-bytes g c told =
    let at2 = part2 _ _ _ (g.met.W.World.reads_an_image c.args.world.now told) (c.in_ok-sync_both.ensures.ok told) (c.check_free.ensures.unchanged told) in
    begun_bytes _ _ _ (g.met.W.World.reads_an_image c.args.world.now told) (c.in_ok-sync_both.ensures.ok told) (c.check_free.ensures.unchanged told) _ (c.in_ok-shut_head.ensures.shut told _ at2) _ text_literal _ _ (c.in_ok-write_and_sync.ensures.ok told) (c.in_ok-write_and_sync-2.ensures.ok told)

pub returns-clause-free : goal.returns-clause-free
returns-clause-free g c told = free0 _ _ _ (g.met.W.World.reads_an_image c.args.world.now told) (c.in_ok-sync_both.ensures.ok told) (c.check_free.ensures.unchanged told) (c.in_ok-check_free.ensures.free told)

pub returns-clause-exists_where : goal.returns-clause-exists_where
returns-clause-exists_where g c told head = absurd ((free0 _ _ _ (g.met.W.World.reads_an_image c.args.world.now told) (c.in_ok-sync_both.ensures.ok told) (c.check_free.ensures.unchanged told) (c.in_ok-check_free.ensures.free told)).no_store head)

pub returns-clause-foreign_where : goal.returns-clause-foreign_where
returns-clause-foreign_where g c told foreign = absurd (not_both _ (free0 _ _ _ (g.met.W.World.reads_an_image c.args.world.now told) (c.in_ok-sync_both.ensures.ok told) (c.check_free.ensures.unchanged told) (c.in_ok-check_free.ensures.free told)) foreign)

pub returns-in_err-sync_both-clause-writes : goal.returns-in_err-sync_both-clause-writes
returns-in_err-sync_both-clause-writes g c told = writes_synced _ _ (c.in_err-sync_both.ensures.only_syncs told)

pub returns-in_err-check_free-clause-writes : goal.returns-in_err-check_free-clause-writes
returns-in_err-check_free-clause-writes g c told = writes_same _ _ _ (c.in_ok-sync_both.ensures.only_syncs told) (c.check_free.ensures.unchanged told)

pub returns-in_err-shut_head-clause-writes : goal.returns-in_err-shut_head-clause-writes
returns-in_err-shut_head-clause-writes g c told = writes_then _ _ _ (c.in_ok-sync_both.ensures.only_syncs told) (c.check_free.ensures.unchanged told) _ (c.in_err-shut_head.ensures.only_log told)

pub returns-in_err-write_and_sync-clause-writes : goal.returns-in_err-write_and_sync-clause-writes
returns-in_err-write_and_sync-clause-writes g c told =
    let text = only_writing _ _ _ 1 _ (c.in_ok-shut_head.ensures.only_log told) (c.in_err-write_and_sync.ensures.moments told) in
    writes_then _ _ _ (c.in_ok-sync_both.ensures.only_syncs told) (c.check_free.ensures.unchanged told) _ text

pub returns-in_err-write_and_sync-2-clause-writes : goal.returns-in_err-write_and_sync-2-clause-writes
returns-in_err-write_and_sync-2-clause-writes g c told =
    let text = only_writing _ _ _ 1 _ (c.in_ok-shut_head.ensures.only_log told) (c.in_ok-write_and_sync.ensures.moments told) in
    let opened = only_writing _ _ _ 0 (1 ∷ []) text (c.in_err-write_and_sync-2.ensures.moments told) in
    writes_then _ _ _ (c.in_ok-sync_both.ensures.only_syncs told) (c.check_free.ensures.unchanged told) _ opened

pub returns-clause-writes : goal.returns-clause-writes
returns-clause-writes g c told =
    let text = only_writing _ _ _ 1 _ (c.in_ok-shut_head.ensures.only_log told) (c.in_ok-write_and_sync.ensures.moments told) in
    let opened = only_writing _ _ _ 0 (1 ∷ []) text (c.in_ok-write_and_sync-2.ensures.moments told) in
    writes_then _ _ _ (c.in_ok-sync_both.ensures.only_syncs told) (c.check_free.ensures.unchanged told) _ opened

pub returns-clause-pages : goal.returns-clause-pages
returns-clause-pages g c told =
    let text = only_writing _ _ _ 1 _ (c.in_ok-shut_head.ensures.only_log told) (c.in_ok-write_and_sync.ensures.moments told) in
    let opened = only_writing _ _ _ 0 (1 ∷ []) text (c.in_ok-write_and_sync-2.ensures.moments told) in
    pages_synced _ _ _ _ (c.in_ok-sync_both.ensures.ok told) (c.check_free.ensures.unchanged told) opened

pub returns-in_err-shut_head-clause-kept : goal.returns-in_err-shut_head-clause-kept
returns-in_err-shut_head-clause-kept g c told none = absurd (none (free0 _ _ _ (g.met.W.World.reads_an_image c.args.world.now told) (c.in_ok-sync_both.ensures.ok told) (c.check_free.ensures.unchanged told) (c.in_ok-check_free.ensures.free told)))

pub returns-in_err-write_and_sync-clause-kept : goal.returns-in_err-write_and_sync-clause-kept
returns-in_err-write_and_sync-clause-kept g c told none = absurd (none (free0 _ _ _ (g.met.W.World.reads_an_image c.args.world.now told) (c.in_ok-sync_both.ensures.ok told) (c.check_free.ensures.unchanged told) (c.in_ok-check_free.ensures.free told)))

pub returns-in_err-write_and_sync-2-clause-kept : goal.returns-in_err-write_and_sync-2-clause-kept
returns-in_err-write_and_sync-2-clause-kept g c told none = absurd (none (free0 _ _ _ (g.met.W.World.reads_an_image c.args.world.now told) (c.in_ok-sync_both.ensures.ok told) (c.check_free.ensures.unchanged told) (c.in_ok-check_free.ensures.free told)))

pub returns-clause-kept : goal.returns-clause-kept
returns-clause-kept g c told none = absurd (none (free0 _ _ _ (g.met.W.World.reads_an_image c.args.world.now told) (c.in_ok-sync_both.ensures.ok told) (c.check_free.ensures.unchanged told) (c.in_ok-check_free.ensures.free told)))

pub returns-in_err-check_free-clause-settled : goal.returns-in_err-check_free-clause-settled
returns-in_err-check_free-clause-settled g c told refused = both_synced _ _ (c.in_ok-sync_both.ensures.ok told) _ _ (c.check_free.ensures.unchanged told) refl
