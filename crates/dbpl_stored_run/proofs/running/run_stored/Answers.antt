-- A run that began has the store's database and what its variable is bound to; one that didn't leaves what was there.
use Rattle.std.proofs.Common.{◌∙◌, inl, inr, Err, ap, refl}
use Rattle.dbpl_stored_program.proofs.Programs.{small-kept}
use Rattle.dbpl_stored_program.specs.Meaning.{Ended, Trapped}
use Rattle.dbpl_stored_program.specs.Whole.{events_of}
use Rattle.dbpl_store.specs.Stores.{committed_of, database_in}
use Rattle.dbpl_store.specs.declared.store_err.StoreErr.TheVariants as store_errors
use Rattle.dbpl_stored_run.proofs.Answering.{counts-then, disk-counts, due-ended, due-stopped, due-unopened, due-wanting, every-err, handed, memory-only, no-ok, no-other_type, no-out_fault, no-refusal, no-trap, opening-failed, opening-refused, opening-three, opening-two, stopped-fault, unrefused, wanting-refuses, was-damaged, was-disk_fault, was-fault, was-no_store, was-out_fault, was-trapped}
use Rattle.dbpl_stored_run.proofs.Ending.{HasBegun, bound-begun, begun-agrees, begun-head, begun-made, begun-moments, begun-run, begun-some, begun-sound, begun-stands, has-other, matched-true, moments-unbegun, other-unbound, reads-head, reads-of, reads-undamaged, some-unbegun}
use Rattle.dbpl_stored_run.proofs.Stores.{open-kept}
use Rattle.dbpl_stored_run.proofs.Tying.{only-synced, only-then, pages-stay, some-all}
use Rattle.dbpl_stored_run.proofs.WrittenOut.{disk-fine, fine-since, fine-where, open-where, run-where}
use Rattle.dbpl_stored_run.specs.declared.body_err.BodyErr.TheVariants as body_errors
use Rattle.dbpl_stored_run.specs.declared.stop_err.StopErr.TheVariants as errors
use Rattle.dbpl_world.proofs.CountLaws.{rose_since}
use Rattle.dbpl_world.specs.History.{now}
use Rattle.dbpl_stored_run.proofs.running.run_stored.Goals as goal

pub bind-requires : goal.bind-requires
bind-requires g c = record { kept = small-kept c.args.program.now c.requires.small }

-- ---- the store was not opened

pub returns-in_err-store-clause-headline : goal.returns-in_err-store-clause-headline
returns-in_err-store-clause-headline g c =
    λ told database bound stood binds.
    moments-unbegun (events_of c.args.program.now bound (now (g.W.World.history c.args.world.now)).input) database (g.W.World.history c.args.world.now) (g.W.World.history c.open.new.world) stood (c.open.ensures.moments told)

pub returns-in_err-store-clause-whole : goal.returns-in_err-store-clause-whole
returns-in_err-store-clause-whole g c =
    let is = handed c.from_residual.result _ c.from_residual.ensures.1 in
    λ told database bound reads binds. no-ok _ c.from_residual.result _ is

pub returns-in_err-store-clause-whole_trapped : goal.returns-in_err-store-clause-whole_trapped
returns-in_err-store-clause-whole_trapped g c =
    let is = handed c.from_residual.result _ c.from_residual.ensures.1 in
    λ told database bound reads binds trap e. no-trap c.from_residual.result _ is trap e

pub returns-in_err-store-clause-pages : goal.returns-in_err-store-clause-pages
returns-in_err-store-clause-pages g c =
    let is = handed c.from_residual.result _ c.from_residual.ensures.1 in
    λ told. no-ok _ c.from_residual.result _ is

pub returns-in_err-store-clause-pages_trapped : goal.returns-in_err-store-clause-pages_trapped
returns-in_err-store-clause-pages_trapped g c =
    let is = handed c.from_residual.result _ c.from_residual.ensures.1 in
    λ told trap e. no-trap c.from_residual.result _ is trap e

pub returns-in_err-store-clause-complete : goal.returns-in_err-store-clause-complete
returns-in_err-store-clause-complete g c =
    let is = handed c.from_residual.result _ c.from_residual.ensures.1 in
    λ told database bound reads binds no_disk no_say.
    due-unopened c.args.program.now bound (now (g.W.World.history c.args.world.now)).input c.from_residual.result _ is
    (λ e. c.open.ensures.not_store told (c.in_err-store.was ∙ ap (λ w. Err w) e) (reads-head database (now (g.W.World.history c.args.world.now)) reads))
    (λ page e. reads-undamaged database (now (g.W.World.history c.args.world.now)) reads (c.open.ensures.damaged told page (c.in_err-store.was ∙ ap (λ w. Err w) e)).2)
    (λ e. no_disk (c.open.ensures.cause (c.in_err-store.was ∙ ap (λ w. Err w) e)))

pub returns-in_err-store-clause-ended : goal.returns-in_err-store-clause-ended
returns-in_err-store-clause-ended g c =
    let is = handed c.from_residual.result _ c.from_residual.ensures.1 in
    no-ok _ c.from_residual.result _ is

pub returns-in_err-store-clause-trapped : goal.returns-in_err-store-clause-trapped
returns-in_err-store-clause-trapped g c =
    let is = handed c.from_residual.result _ c.from_residual.ensures.1 in
    λ trap e. no-trap c.from_residual.result _ is trap e

pub returns-in_err-store-clause-not_store : goal.returns-in_err-store-clause-not_store
returns-in_err-store-clause-not_store g c =
    let is = handed c.from_residual.result _ c.from_residual.ensures.1 in
    λ told e. c.open.ensures.not_store told (c.in_err-store.was ∙ ap (λ w. Err w) (was-no_store c.from_residual.result _ is e))

pub returns-in_err-store-clause-not_store_where : goal.returns-in_err-store-clause-not_store_where
returns-in_err-store-clause-not_store_where g c =
    let is = handed c.from_residual.result _ c.from_residual.ensures.1 in
    λ told none.
    opening-two c.from_residual.result c.open.result _ is c.in_err-store.was store_errors.NotStore store_errors.Disk (c.open.ensures.not_store_where told none)

pub returns-in_err-store-clause-damaged : goal.returns-in_err-store-clause-damaged
returns-in_err-store-clause-damaged g c =
    let is = handed c.from_residual.result _ c.from_residual.ensures.1 in
    λ told page e. c.open.ensures.damaged told page (c.in_err-store.was ∙ ap (λ w. Err w) (was-damaged c.from_residual.result _ is page e))

pub returns-in_err-store-clause-damaged_where : goal.returns-in_err-store-clause-damaged_where
returns-in_err-store-clause-damaged_where g c =
    let is = handed c.from_residual.result _ c.from_residual.ensures.1 in
    λ told head none.
    opening-three c.from_residual.result c.open.result _ is c.in_err-store.was (store_errors.Damaged 0) store_errors.Disk store_errors.Memory
    (c.open.ensures.damaged_where told head none)

pub returns-in_err-store-clause-differs : goal.returns-in_err-store-clause-differs
returns-in_err-store-clause-differs g c =
    let is = handed c.from_residual.result _ c.from_residual.ensures.1 in
    λ e. no-other_type c.from_residual.result _ is e

pub returns-in_err-store-clause-differs_where : goal.returns-in_err-store-clause-differs_where
returns-in_err-store-clause-differs_where g c =
    let is = handed c.from_residual.result _ c.from_residual.ensures.1 in
    λ told database reads differs.
    inr (opening-failed c.from_residual.result c.open.result _ is c.in_err-store.was
    (λ e. c.open.ensures.not_store told e (reads-head database (now (g.W.World.history c.args.world.now)) reads))
    (λ page e. reads-undamaged database (now (g.W.World.history c.args.world.now)) reads (c.open.ensures.damaged told page e).2))

pub returns-in_err-store-clause-disk_fault : goal.returns-in_err-store-clause-disk_fault
returns-in_err-store-clause-disk_fault g c =
    let is = handed c.from_residual.result _ c.from_residual.ensures.1 in
    λ e. c.open.ensures.cause (c.in_err-store.was ∙ ap (λ w. Err w) (was-fault c.from_residual.result _ is e))

pub returns-in_err-store-clause-out_fault : goal.returns-in_err-store-clause-out_fault
returns-in_err-store-clause-out_fault g c =
    let is = handed c.from_residual.result _ c.from_residual.ensures.1 in
    λ e. no-out_fault c.from_residual.result _ is e

pub returns-in_err-store-clause-out_fault_where : goal.returns-in_err-store-clause-out_fault_where
returns-in_err-store-clause-out_fault_where g c = inr (disk-fine _ _ c.open.ensures.counts)

pub returns-in_err-store-clause-disk_fault_where : goal.returns-in_err-store-clause-disk_fault_where
returns-in_err-store-clause-disk_fault_where g c =
    let is = handed c.from_residual.result _ c.from_residual.ensures.1 in
    open-where c.from_residual.result c.open.result _ is c.in_err-store.was c.open.ensures.fine

pub returns-in_err-store-clause-at_rest : goal.returns-in_err-store-clause-at_rest
returns-in_err-store-clause-at_rest g c =
    λ told database bound stood binds fine.
    some-unbegun (events_of c.args.program.now bound (now (g.W.World.history c.args.world.now)).input) database (g.W.World.history c.args.world.now) (g.W.World.history c.open.new.world) stood (c.open.ensures.moments told)

pub returns-in_err-store-clause-settled : goal.returns-in_err-store-clause-settled
returns-in_err-store-clause-settled g c =
    let is = handed c.from_residual.result _ c.from_residual.ensures.1 in
    λ told. opening-refused c.from_residual.result c.open.result _ is c.in_err-store.was _ (c.open.ensures.settled told)

pub returns-in_err-store-clause-refused : goal.returns-in_err-store-clause-refused
returns-in_err-store-clause-refused g c =
    λ told. every-err c.from_residual.result (λ why refusal. c.open.ensures.moments told)

pub returns-in_err-store-clause-unbound : goal.returns-in_err-store-clause-unbound
returns-in_err-store-clause-unbound g c = λ told none. c.open.ensures.moments told

pub returns-in_err-store-clause-only : goal.returns-in_err-store-clause-only
returns-in_err-store-clause-only g c =
    λ told. only-synced (g.W.World.history c.args.world.now) (g.W.World.history c.open.new.world) (c.open.ensures.only_syncs told)

pub returns-in_err-store-clause-counts : goal.returns-in_err-store-clause-counts
returns-in_err-store-clause-counts g c =
    disk-counts _ _ c.open.ensures.counts

-- ---- memory was wanting for the variable

pub returns-in_err-is_bound-clause-headline : goal.returns-in_err-is_bound-clause-headline
returns-in_err-is_bound-clause-headline g c =
    λ told database bound stood binds.
    moments-unbegun (events_of c.args.program.now bound (now (g.W.World.history c.args.world.now)).input) database (g.W.World.history c.args.world.now) (g.W.World.history c.open.new.world) stood (c.open.ensures.moments told)

pub returns-in_err-is_bound-clause-whole : goal.returns-in_err-is_bound-clause-whole
returns-in_err-is_bound-clause-whole g c =
    let is = handed c.from_residual-in_err-is_bound.result _ c.from_residual-in_err-is_bound.ensures.1 in
    λ told database bound reads binds. no-ok _ c.from_residual-in_err-is_bound.result _ is

pub returns-in_err-is_bound-clause-whole_trapped : goal.returns-in_err-is_bound-clause-whole_trapped
returns-in_err-is_bound-clause-whole_trapped g c =
    let is = handed c.from_residual-in_err-is_bound.result _ c.from_residual-in_err-is_bound.ensures.1 in
    λ told database bound reads binds trap e. memory-only c.from_residual-in_err-is_bound.result (errors.Trapped trap) is tt e

pub returns-in_err-is_bound-clause-pages : goal.returns-in_err-is_bound-clause-pages
returns-in_err-is_bound-clause-pages g c =
    let is = handed c.from_residual-in_err-is_bound.result _ c.from_residual-in_err-is_bound.ensures.1 in
    λ told. no-ok _ c.from_residual-in_err-is_bound.result _ is

pub returns-in_err-is_bound-clause-pages_trapped : goal.returns-in_err-is_bound-clause-pages_trapped
returns-in_err-is_bound-clause-pages_trapped g c =
    let is = handed c.from_residual-in_err-is_bound.result _ c.from_residual-in_err-is_bound.ensures.1 in
    λ told trap e. memory-only c.from_residual-in_err-is_bound.result (errors.Trapped trap) is tt e

pub returns-in_err-is_bound-clause-complete : goal.returns-in_err-is_bound-clause-complete
returns-in_err-is_bound-clause-complete g c =
    let is = handed c.from_residual-in_err-is_bound.result _ c.from_residual-in_err-is_bound.ensures.1 in
    λ told database bound reads binds no_disk no_say. due-wanting c.args.program.now bound (now (g.W.World.history c.args.world.now)).input c.from_residual-in_err-is_bound.result is

pub returns-in_err-is_bound-clause-ended : goal.returns-in_err-is_bound-clause-ended
returns-in_err-is_bound-clause-ended g c =
    let is = handed c.from_residual-in_err-is_bound.result _ c.from_residual-in_err-is_bound.ensures.1 in
    no-ok _ c.from_residual-in_err-is_bound.result _ is

pub returns-in_err-is_bound-clause-trapped : goal.returns-in_err-is_bound-clause-trapped
returns-in_err-is_bound-clause-trapped g c =
    let is = handed c.from_residual-in_err-is_bound.result _ c.from_residual-in_err-is_bound.ensures.1 in
    λ trap e. memory-only c.from_residual-in_err-is_bound.result (errors.Trapped trap) is tt e

pub returns-in_err-is_bound-clause-not_store : goal.returns-in_err-is_bound-clause-not_store
returns-in_err-is_bound-clause-not_store g c =
    let is = handed c.from_residual-in_err-is_bound.result _ c.from_residual-in_err-is_bound.ensures.1 in
    λ told e. memory-only c.from_residual-in_err-is_bound.result errors.NotStore is tt e

pub returns-in_err-is_bound-clause-not_store_where : goal.returns-in_err-is_bound-clause-not_store_where
returns-in_err-is_bound-clause-not_store_where g c =
    λ told none. absurd (none (reads-head (committed_of c.in_ok-store.store) (now (g.W.World.history c.args.world.now)) (c.in_ok-store.ensures.read told)))

pub returns-in_err-is_bound-clause-damaged : goal.returns-in_err-is_bound-clause-damaged
returns-in_err-is_bound-clause-damaged g c =
    let is = handed c.from_residual-in_err-is_bound.result _ c.from_residual-in_err-is_bound.ensures.1 in
    λ told page e. memory-only c.from_residual-in_err-is_bound.result (errors.Damaged page) is tt e

pub returns-in_err-is_bound-clause-damaged_where : goal.returns-in_err-is_bound-clause-damaged_where
returns-in_err-is_bound-clause-damaged_where g c =
    let is = handed c.from_residual-in_err-is_bound.result _ c.from_residual-in_err-is_bound.ensures.1 in
    λ told head none. inr (inr is)

pub returns-in_err-is_bound-clause-differs : goal.returns-in_err-is_bound-clause-differs
returns-in_err-is_bound-clause-differs g c =
    let is = handed c.from_residual-in_err-is_bound.result _ c.from_residual-in_err-is_bound.ensures.1 in
    λ e. memory-only c.from_residual-in_err-is_bound.result errors.SchemaDiffers is tt e

pub returns-in_err-is_bound-clause-differs_where : goal.returns-in_err-is_bound-clause-differs_where
returns-in_err-is_bound-clause-differs_where g c =
    let is = handed c.from_residual-in_err-is_bound.result _ c.from_residual-in_err-is_bound.ensures.1 in
    λ told database reads differs. inr (inr is)

pub returns-in_err-is_bound-clause-disk_fault : goal.returns-in_err-is_bound-clause-disk_fault
returns-in_err-is_bound-clause-disk_fault g c =
    let is = handed c.from_residual-in_err-is_bound.result _ c.from_residual-in_err-is_bound.ensures.1 in
    λ e. memory-only c.from_residual-in_err-is_bound.result errors.DiskFault is tt e

pub returns-in_err-is_bound-clause-out_fault : goal.returns-in_err-is_bound-clause-out_fault
returns-in_err-is_bound-clause-out_fault g c =
    let is = handed c.from_residual-in_err-is_bound.result _ c.from_residual-in_err-is_bound.ensures.1 in
    λ e. memory-only c.from_residual-in_err-is_bound.result errors.OutFault is tt e

pub returns-in_err-is_bound-clause-out_fault_where : goal.returns-in_err-is_bound-clause-out_fault_where
returns-in_err-is_bound-clause-out_fault_where g c = inr (disk-fine _ _ c.open.ensures.counts)

pub returns-in_err-is_bound-clause-disk_fault_where : goal.returns-in_err-is_bound-clause-disk_fault_where
returns-in_err-is_bound-clause-disk_fault_where g c = inr (fine-where c.open.result _ c.in_ok-store.was c.open.ensures.fine)

pub returns-in_err-is_bound-clause-at_rest : goal.returns-in_err-is_bound-clause-at_rest
returns-in_err-is_bound-clause-at_rest g c =
    λ told database bound stood binds fine.
    some-unbegun (events_of c.args.program.now bound (now (g.W.World.history c.args.world.now)).input) database (g.W.World.history c.args.world.now) (g.W.World.history c.open.new.world) stood (c.open.ensures.moments told)

pub returns-in_err-is_bound-clause-settled : goal.returns-in_err-is_bound-clause-settled
returns-in_err-is_bound-clause-settled g c =
    let is = handed c.from_residual-in_err-is_bound.result _ c.from_residual-in_err-is_bound.ensures.1 in
    λ told. wanting-refuses _ c.from_residual-in_err-is_bound.result is

pub returns-in_err-is_bound-clause-refused : goal.returns-in_err-is_bound-clause-refused
returns-in_err-is_bound-clause-refused g c =
    λ told. every-err c.from_residual-in_err-is_bound.result (λ why refusal. c.open.ensures.moments told)

pub returns-in_err-is_bound-clause-unbound : goal.returns-in_err-is_bound-clause-unbound
returns-in_err-is_bound-clause-unbound g c = λ told none. c.open.ensures.moments told

pub returns-in_err-is_bound-clause-only : goal.returns-in_err-is_bound-clause-only
returns-in_err-is_bound-clause-only g c =
    λ told. only-synced (g.W.World.history c.args.world.now) (g.W.World.history c.open.new.world) (c.open.ensures.only_syncs told)

pub returns-in_err-is_bound-clause-counts : goal.returns-in_err-is_bound-clause-counts
returns-in_err-is_bound-clause-counts g c =
    disk-counts _ _ c.open.ensures.counts

-- ---- the variable has another type there

pub returns-then-not-is_bound-clause-headline : goal.returns-then-not-is_bound-clause-headline
returns-then-not-is_bound-clause-headline g c =
    λ told database bound stood binds.
    moments-unbegun (events_of c.args.program.now bound (now (g.W.World.history c.args.world.now)).input) database (g.W.World.history c.args.world.now) (g.W.World.history c.open.new.world) stood (c.open.ensures.moments told)

pub returns-then-not-is_bound-clause-complete : goal.returns-then-not-is_bound-clause-complete
returns-then-not-is_bound-clause-complete g c =
    λ told database bound reads binds no_disk no_say.
    other-unbound c.args.program.now.relation c.in_ok-store.store c.bind.new.self c.in_ok-is_bound.is_bound (now (g.W.World.history c.args.world.now)) c.in_ok-is_bound.ensures.bound c.if-not-is_bound.true c.in_ok-store.ensures.database (c.in_ok-store.ensures.read told) database bound reads binds

pub returns-then-not-is_bound-clause-not_store_where : goal.returns-then-not-is_bound-clause-not_store_where
returns-then-not-is_bound-clause-not_store_where g c =
    λ told none. absurd (none (reads-head (committed_of c.in_ok-store.store) (now (g.W.World.history c.args.world.now)) (c.in_ok-store.ensures.read told)))

pub returns-then-not-is_bound-clause-damaged_where : goal.returns-then-not-is_bound-clause-damaged_where
returns-then-not-is_bound-clause-damaged_where g c =
    λ told head none.
    reads-undamaged (committed_of c.in_ok-store.store) (now (g.W.World.history c.args.world.now)) (c.in_ok-store.ensures.read told) none

pub returns-then-not-is_bound-clause-differs : goal.returns-then-not-is_bound-clause-differs
returns-then-not-is_bound-clause-differs g c =
    λ e.
    has-other c.args.program.now.relation c.in_ok-store.store c.bind.new.self c.in_ok-is_bound.is_bound (now (g.W.World.history c.args.world.now)) c.in_ok-is_bound.ensures.bound g.W.World.tells (g.W.World.history c.args.world.now) c.if-not-is_bound.true c.in_ok-store.ensures.database c.in_ok-store.ensures.read

pub returns-then-not-is_bound-clause-differs_where : goal.returns-then-not-is_bound-clause-differs_where
returns-then-not-is_bound-clause-differs_where g c =
    λ told database reads differs. inl refl

pub returns-then-not-is_bound-clause-out_fault_where : goal.returns-then-not-is_bound-clause-out_fault_where
returns-then-not-is_bound-clause-out_fault_where g c = inr (disk-fine _ _ c.open.ensures.counts)

pub returns-then-not-is_bound-clause-disk_fault_where : goal.returns-then-not-is_bound-clause-disk_fault_where
returns-then-not-is_bound-clause-disk_fault_where g c = inr (fine-where c.open.result _ c.in_ok-store.was c.open.ensures.fine)

pub returns-then-not-is_bound-clause-at_rest : goal.returns-then-not-is_bound-clause-at_rest
returns-then-not-is_bound-clause-at_rest g c =
    λ told database bound stood binds fine.
    some-unbegun (events_of c.args.program.now bound (now (g.W.World.history c.args.world.now)).input) database (g.W.World.history c.args.world.now) (g.W.World.history c.open.new.world) stood (c.open.ensures.moments told)

pub returns-then-not-is_bound-clause-settled : goal.returns-then-not-is_bound-clause-settled
returns-then-not-is_bound-clause-settled g c =
    λ told refusal. c.in_ok-store.ensures.synced told

pub returns-then-not-is_bound-clause-refused : goal.returns-then-not-is_bound-clause-refused
returns-then-not-is_bound-clause-refused g c =
    λ told refusal. c.open.ensures.moments told

pub returns-then-not-is_bound-clause-unbound : goal.returns-then-not-is_bound-clause-unbound
returns-then-not-is_bound-clause-unbound g c = λ told none. c.open.ensures.moments told

pub returns-then-not-is_bound-clause-only : goal.returns-then-not-is_bound-clause-only
returns-then-not-is_bound-clause-only g c =
    λ told. only-synced (g.W.World.history c.args.world.now) (g.W.World.history c.open.new.world) (c.open.ensures.only_syncs told)

pub returns-then-not-is_bound-clause-counts : goal.returns-then-not-is_bound-clause-counts
returns-then-not-is_bound-clause-counts g c =
    disk-counts _ _ c.open.ensures.counts

-- ---- the body stopped

pub returns-in_err-run_body-clause-headline : goal.returns-in_err-run_body-clause-headline
returns-in_err-run_body-clause-headline g c =
    let begins : HasBegun c.args.program.now g.W.World.tells c.bind.new.self (g.W.World.history c.args.world.now) (g.W.World.history c.open.new.world) =
    bound-begun c.args.program.now g.W.World.tells c.in_ok-store.store c.bind.new.self (g.W.World.history c.args.world.now) (g.W.World.history c.open.new.world) c.in_ok-store.ensures.read
    c.in_ok-store.ensures.database c.bind.ensures.committed
    (matched-true c.args.program.now.relation c.in_ok-store.store c.bind.new.self c.in_ok-is_bound.is_bound (now (g.W.World.history c.args.world.now)) c.in_ok-is_bound.ensures.bound c.if-not-is_bound.false).0
    (λ told. open-kept (now (g.W.World.history c.open.new.world)) (now (g.W.World.history c.open.new.world)) c.in_ok-store.store c.bind.new.self refl c.bind.ensures.log c.bind.ensures.committed
    (c.in_ok-store.ensures.«open» told))
    c.open.ensures.moments
    in
    λ told database bound stood binds.
    begun-moments c.args.program.now g.W.World.tells c.bind.new.self (g.W.World.history c.args.world.now) (g.W.World.history c.open.new.world) begins (g.W.World.history c.run_body.new.world) told database bound (reads-of database (now (g.W.World.history c.args.world.now)) (g.met.W.World.reads_an_image c.args.world.now told) stood) stood binds c.run_body.ensures.moments

pub returns-in_err-run_body-clause-whole : goal.returns-in_err-run_body-clause-whole
returns-in_err-run_body-clause-whole g c =
    let is = handed c.from_residual-in_err-run_body.result _ c.from_residual-in_err-run_body.ensures.1 in
    λ told database bound reads binds. no-ok _ c.from_residual-in_err-run_body.result _ is

pub returns-in_err-run_body-clause-whole_trapped : goal.returns-in_err-run_body-clause-whole_trapped
returns-in_err-run_body-clause-whole_trapped g c =
    let begins : HasBegun c.args.program.now g.W.World.tells c.bind.new.self (g.W.World.history c.args.world.now) (g.W.World.history c.open.new.world) =
    bound-begun c.args.program.now g.W.World.tells c.in_ok-store.store c.bind.new.self (g.W.World.history c.args.world.now) (g.W.World.history c.open.new.world) c.in_ok-store.ensures.read
    c.in_ok-store.ensures.database c.bind.ensures.committed
    (matched-true c.args.program.now.relation c.in_ok-store.store c.bind.new.self c.in_ok-is_bound.is_bound (now (g.W.World.history c.args.world.now)) c.in_ok-is_bound.ensures.bound c.if-not-is_bound.false).0
    (λ told. open-kept (now (g.W.World.history c.open.new.world)) (now (g.W.World.history c.open.new.world)) c.in_ok-store.store c.bind.new.self refl c.bind.ensures.log c.bind.ensures.committed
    (c.in_ok-store.ensures.«open» told))
    c.open.ensures.moments
    in
    let is = handed c.from_residual-in_err-run_body.result _ c.from_residual-in_err-run_body.ensures.1 in
    λ told database bound reads binds trap e.
    let why = was-trapped c.from_residual-in_err-run_body.result _ is trap e in
    begun-made c.args.program.now g.W.World.tells c.bind.new.self (g.W.World.history c.args.world.now) (g.W.World.history c.open.new.world) begins (g.W.World.history c.run_body.new.world) told database bound reads binds
    (λ t o. c.run_body.ensures.made_trapped t o trap (c.in_err-run_body.was ∙ ap (λ w. Err w) why))

pub returns-in_err-run_body-clause-complete : goal.returns-in_err-run_body-clause-complete
returns-in_err-run_body-clause-complete g c =
    let begins : HasBegun c.args.program.now g.W.World.tells c.bind.new.self (g.W.World.history c.args.world.now) (g.W.World.history c.open.new.world) =
    bound-begun c.args.program.now g.W.World.tells c.in_ok-store.store c.bind.new.self (g.W.World.history c.args.world.now) (g.W.World.history c.open.new.world) c.in_ok-store.ensures.read
    c.in_ok-store.ensures.database c.bind.ensures.committed
    (matched-true c.args.program.now.relation c.in_ok-store.store c.bind.new.self c.in_ok-is_bound.is_bound (now (g.W.World.history c.args.world.now)) c.in_ok-is_bound.ensures.bound c.if-not-is_bound.false).0
    (λ told. open-kept (now (g.W.World.history c.open.new.world)) (now (g.W.World.history c.open.new.world)) c.in_ok-store.store c.bind.new.self refl c.bind.ensures.log c.bind.ensures.committed
    (c.in_ok-store.ensures.«open» told))
    c.open.ensures.moments
    in
    let is = handed c.from_residual-in_err-run_body.result _ c.from_residual-in_err-run_body.ensures.1 in
    let before = disk-counts _ _ c.open.ensures.counts in
    λ told database bound reads binds no_disk no_say.
    due-stopped c.args.program.now bound (now (g.W.World.history c.args.world.now)).input c.from_residual-in_err-run_body.result _ is
    (λ trap why. begun-stands c.args.program.now g.W.World.tells c.bind.new.self (g.W.World.history c.args.world.now) (g.W.World.history c.open.new.world) begins (g.W.World.history c.run_body.new.world) told database bound reads binds (Trapped trap) (c.run_body.ensures.trapped trap (c.in_err-run_body.was ∙ ap (λ w. Err w) why)))
    (λ why. no_disk (rose_since _ _ _ before.disk_later (c.run_body.ensures.disk_fault (c.in_err-run_body.was ∙ ap (λ w. Err w) why))))
    (λ why. no_say (rose_since _ _ _ before.say_later (c.run_body.ensures.out_fault (c.in_err-run_body.was ∙ ap (λ w. Err w) why))))

pub returns-in_err-run_body-clause-ended : goal.returns-in_err-run_body-clause-ended
returns-in_err-run_body-clause-ended g c =
    let is = handed c.from_residual-in_err-run_body.result _ c.from_residual-in_err-run_body.ensures.1 in
    no-ok _ c.from_residual-in_err-run_body.result _ is

pub returns-in_err-run_body-clause-trapped : goal.returns-in_err-run_body-clause-trapped
returns-in_err-run_body-clause-trapped g c =
    let begins : HasBegun c.args.program.now g.W.World.tells c.bind.new.self (g.W.World.history c.args.world.now) (g.W.World.history c.open.new.world) =
    bound-begun c.args.program.now g.W.World.tells c.in_ok-store.store c.bind.new.self (g.W.World.history c.args.world.now) (g.W.World.history c.open.new.world) c.in_ok-store.ensures.read
    c.in_ok-store.ensures.database c.bind.ensures.committed
    (matched-true c.args.program.now.relation c.in_ok-store.store c.bind.new.self c.in_ok-is_bound.is_bound (now (g.W.World.history c.args.world.now)) c.in_ok-is_bound.ensures.bound c.if-not-is_bound.false).0
    (λ told. open-kept (now (g.W.World.history c.open.new.world)) (now (g.W.World.history c.open.new.world)) c.in_ok-store.store c.bind.new.self refl c.bind.ensures.log c.bind.ensures.committed
    (c.in_ok-store.ensures.«open» told))
    c.open.ensures.moments
    in
    let is = handed c.from_residual-in_err-run_body.result _ c.from_residual-in_err-run_body.ensures.1 in
    λ trap e.
    let why = was-trapped c.from_residual-in_err-run_body.result _ is trap e in
    begun-run c.args.program.now g.W.World.tells c.bind.new.self (g.W.World.history c.args.world.now) (g.W.World.history c.open.new.world) begins (g.W.World.history c.run_body.new.world) (Trapped trap) (c.run_body.ensures.trapped trap (c.in_err-run_body.was ∙ ap (λ w. Err w) why))
    (λ t o. c.run_body.ensures.made_trapped t o trap (c.in_err-run_body.was ∙ ap (λ w. Err w) why))

pub returns-in_err-run_body-clause-not_store : goal.returns-in_err-run_body-clause-not_store
returns-in_err-run_body-clause-not_store g c =
    let is = handed c.from_residual-in_err-run_body.result _ c.from_residual-in_err-run_body.ensures.1 in
    λ told e. no-refusal c.from_residual-in_err-run_body.result _ is errors.NotStore tt e

pub returns-in_err-run_body-clause-not_store_where : goal.returns-in_err-run_body-clause-not_store_where
returns-in_err-run_body-clause-not_store_where g c =
    let begins : HasBegun c.args.program.now g.W.World.tells c.bind.new.self (g.W.World.history c.args.world.now) (g.W.World.history c.open.new.world) =
    bound-begun c.args.program.now g.W.World.tells c.in_ok-store.store c.bind.new.self (g.W.World.history c.args.world.now) (g.W.World.history c.open.new.world) c.in_ok-store.ensures.read
    c.in_ok-store.ensures.database c.bind.ensures.committed
    (matched-true c.args.program.now.relation c.in_ok-store.store c.bind.new.self c.in_ok-is_bound.is_bound (now (g.W.World.history c.args.world.now)) c.in_ok-is_bound.ensures.bound c.if-not-is_bound.false).0
    (λ told. open-kept (now (g.W.World.history c.open.new.world)) (now (g.W.World.history c.open.new.world)) c.in_ok-store.store c.bind.new.self refl c.bind.ensures.log c.bind.ensures.committed
    (c.in_ok-store.ensures.«open» told))
    c.open.ensures.moments
    in
    λ told none. absurd (none (begun-head c.args.program.now g.W.World.tells c.bind.new.self (g.W.World.history c.args.world.now) (g.W.World.history c.open.new.world) begins told))

pub returns-in_err-run_body-clause-damaged : goal.returns-in_err-run_body-clause-damaged
returns-in_err-run_body-clause-damaged g c =
    let is = handed c.from_residual-in_err-run_body.result _ c.from_residual-in_err-run_body.ensures.1 in
    λ told page e. no-refusal c.from_residual-in_err-run_body.result _ is (errors.Damaged page) tt e

pub returns-in_err-run_body-clause-damaged_where : goal.returns-in_err-run_body-clause-damaged_where
returns-in_err-run_body-clause-damaged_where g c =
    let begins : HasBegun c.args.program.now g.W.World.tells c.bind.new.self (g.W.World.history c.args.world.now) (g.W.World.history c.open.new.world) =
    bound-begun c.args.program.now g.W.World.tells c.in_ok-store.store c.bind.new.self (g.W.World.history c.args.world.now) (g.W.World.history c.open.new.world) c.in_ok-store.ensures.read
    c.in_ok-store.ensures.database c.bind.ensures.committed
    (matched-true c.args.program.now.relation c.in_ok-store.store c.bind.new.self c.in_ok-is_bound.is_bound (now (g.W.World.history c.args.world.now)) c.in_ok-is_bound.ensures.bound c.if-not-is_bound.false).0
    (λ told. open-kept (now (g.W.World.history c.open.new.world)) (now (g.W.World.history c.open.new.world)) c.in_ok-store.store c.bind.new.self refl c.bind.ensures.log c.bind.ensures.committed
    (c.in_ok-store.ensures.«open» told))
    c.open.ensures.moments
    in
    λ told head none. absurd (begun-sound c.args.program.now g.W.World.tells c.bind.new.self (g.W.World.history c.args.world.now) (g.W.World.history c.open.new.world) begins told none)

pub returns-in_err-run_body-clause-differs : goal.returns-in_err-run_body-clause-differs
returns-in_err-run_body-clause-differs g c =
    let is = handed c.from_residual-in_err-run_body.result _ c.from_residual-in_err-run_body.ensures.1 in
    λ e. no-refusal c.from_residual-in_err-run_body.result _ is errors.SchemaDiffers tt e

pub returns-in_err-run_body-clause-differs_where : goal.returns-in_err-run_body-clause-differs_where
returns-in_err-run_body-clause-differs_where g c =
    let begins : HasBegun c.args.program.now g.W.World.tells c.bind.new.self (g.W.World.history c.args.world.now) (g.W.World.history c.open.new.world) =
    bound-begun c.args.program.now g.W.World.tells c.in_ok-store.store c.bind.new.self (g.W.World.history c.args.world.now) (g.W.World.history c.open.new.world) c.in_ok-store.ensures.read
    c.in_ok-store.ensures.database c.bind.ensures.committed
    (matched-true c.args.program.now.relation c.in_ok-store.store c.bind.new.self c.in_ok-is_bound.is_bound (now (g.W.World.history c.args.world.now)) c.in_ok-is_bound.ensures.bound c.if-not-is_bound.false).0
    (λ told. open-kept (now (g.W.World.history c.open.new.world)) (now (g.W.World.history c.open.new.world)) c.in_ok-store.store c.bind.new.self refl c.bind.ensures.log c.bind.ensures.committed
    (c.in_ok-store.ensures.«open» told))
    c.open.ensures.moments
    in
    λ told database reads differs. absurd (begun-agrees c.args.program.now g.W.World.tells c.bind.new.self (g.W.World.history c.args.world.now) (g.W.World.history c.open.new.world) begins told database reads differs)

pub returns-in_err-run_body-clause-disk_fault : goal.returns-in_err-run_body-clause-disk_fault
returns-in_err-run_body-clause-disk_fault g c =
    let is = handed c.from_residual-in_err-run_body.result _ c.from_residual-in_err-run_body.ensures.1 in
    let before = disk-counts _ _ c.open.ensures.counts in
    λ e.
    rose_since _ _ _ before.disk_later (c.run_body.ensures.disk_fault (c.in_err-run_body.was ∙ ap (λ w. Err w) (was-disk_fault c.from_residual-in_err-run_body.result _ is e)))

pub returns-in_err-run_body-clause-out_fault : goal.returns-in_err-run_body-clause-out_fault
returns-in_err-run_body-clause-out_fault g c =
    let is = handed c.from_residual-in_err-run_body.result _ c.from_residual-in_err-run_body.ensures.1 in
    let before = disk-counts _ _ c.open.ensures.counts in
    λ e.
    rose_since _ _ _ before.say_later (c.run_body.ensures.out_fault (c.in_err-run_body.was ∙ ap (λ w. Err w) (was-out_fault c.from_residual-in_err-run_body.result _ is e)))

pub returns-in_err-run_body-clause-out_fault_where : goal.returns-in_err-run_body-clause-out_fault_where
returns-in_err-run_body-clause-out_fault_where g c =
    let is = handed c.from_residual-in_err-run_body.result _ c.from_residual-in_err-run_body.ensures.1 in
    run-where c.from_residual-in_err-run_body.result c.run_body.result _ body_errors.OutFault is c.in_err-run_body.was
    (fine-since c.run_body.result _ _ _ (disk-fine _ _ c.open.ensures.counts) c.run_body.ensures.out_fault_where)

pub returns-in_err-run_body-clause-disk_fault_where : goal.returns-in_err-run_body-clause-disk_fault_where
returns-in_err-run_body-clause-disk_fault_where g c =
    let is = handed c.from_residual-in_err-run_body.result _ c.from_residual-in_err-run_body.ensures.1 in
    run-where c.from_residual-in_err-run_body.result c.run_body.result _ body_errors.DiskFault is c.in_err-run_body.was
    (fine-since c.run_body.result _ _ _ (fine-where c.open.result _ c.in_ok-store.was c.open.ensures.fine)
    c.run_body.ensures.disk_fault_where)

pub returns-in_err-run_body-clause-pages : goal.returns-in_err-run_body-clause-pages
returns-in_err-run_body-clause-pages g c =
    let is = handed c.from_residual-in_err-run_body.result _ c.from_residual-in_err-run_body.ensures.1 in
    λ told. no-ok _ c.from_residual-in_err-run_body.result _ is

pub returns-in_err-run_body-clause-pages_trapped : goal.returns-in_err-run_body-clause-pages_trapped
returns-in_err-run_body-clause-pages_trapped g c =
    λ told trap e.
    pages-stay (g.W.World.history c.args.world.now) (g.W.World.history c.open.new.world) (g.W.World.history c.run_body.new.world)
    (c.in_ok-store.ensures.synced told) (c.run_body.ensures.only told)

pub returns-in_err-run_body-clause-at_rest : goal.returns-in_err-run_body-clause-at_rest
returns-in_err-run_body-clause-at_rest g c =
    let begins : HasBegun c.args.program.now g.W.World.tells c.bind.new.self (g.W.World.history c.args.world.now) (g.W.World.history c.open.new.world) =
    bound-begun c.args.program.now g.W.World.tells c.in_ok-store.store c.bind.new.self (g.W.World.history c.args.world.now) (g.W.World.history c.open.new.world) c.in_ok-store.ensures.read
    c.in_ok-store.ensures.database c.bind.ensures.committed
    (matched-true c.args.program.now.relation c.in_ok-store.store c.bind.new.self c.in_ok-is_bound.is_bound (now (g.W.World.history c.args.world.now)) c.in_ok-is_bound.ensures.bound c.if-not-is_bound.false).0
    (λ told. open-kept (now (g.W.World.history c.open.new.world)) (now (g.W.World.history c.open.new.world)) c.in_ok-store.store c.bind.new.self refl c.bind.ensures.log c.bind.ensures.committed
    (c.in_ok-store.ensures.«open» told))
    c.open.ensures.moments
    in
    let is = handed c.from_residual-in_err-run_body.result _ c.from_residual-in_err-run_body.ensures.1 in
    λ told database bound stood binds fine.
    begun-some c.args.program.now g.W.World.tells c.bind.new.self (g.W.World.history c.args.world.now) (g.W.World.history c.open.new.world) begins (g.W.World.history c.run_body.new.world) told database bound
    (reads-of database (now (g.W.World.history c.args.world.now)) (g.met.W.World.reads_an_image c.args.world.now told) stood) binds
    (λ t o. c.run_body.ensures.at_rest t o (λ fault. fine (stopped-fault c.from_residual-in_err-run_body.result _ is c.run_body.result c.in_err-run_body.was fault)))

pub returns-in_err-run_body-clause-settled : goal.returns-in_err-run_body-clause-settled
returns-in_err-run_body-clause-settled g c =
    let is = handed c.from_residual-in_err-run_body.result _ c.from_residual-in_err-run_body.ensures.1 in
    λ told. unrefused _ c.from_residual-in_err-run_body.result _ is

pub returns-in_err-run_body-clause-refused : goal.returns-in_err-run_body-clause-refused
returns-in_err-run_body-clause-refused g c =
    let is = handed c.from_residual-in_err-run_body.result _ c.from_residual-in_err-run_body.ensures.1 in
    λ told. unrefused _ c.from_residual-in_err-run_body.result _ is

pub returns-in_err-run_body-clause-unbound : goal.returns-in_err-run_body-clause-unbound
returns-in_err-run_body-clause-unbound g c =
    let begins : HasBegun c.args.program.now g.W.World.tells c.bind.new.self (g.W.World.history c.args.world.now) (g.W.World.history c.open.new.world) =
    bound-begun c.args.program.now g.W.World.tells c.in_ok-store.store c.bind.new.self (g.W.World.history c.args.world.now) (g.W.World.history c.open.new.world) c.in_ok-store.ensures.read
    c.in_ok-store.ensures.database c.bind.ensures.committed
    (matched-true c.args.program.now.relation c.in_ok-store.store c.bind.new.self c.in_ok-is_bound.is_bound (now (g.W.World.history c.args.world.now)) c.in_ok-is_bound.ensures.bound c.if-not-is_bound.false).0
    (λ told. open-kept (now (g.W.World.history c.open.new.world)) (now (g.W.World.history c.open.new.world)) c.in_ok-store.store c.bind.new.self refl c.bind.ensures.log c.bind.ensures.committed
    (c.in_ok-store.ensures.«open» told))
    c.open.ensures.moments
    in
    λ told none. absurd (none (committed_of c.bind.new.self) (database_in c.bind.new.self) (begins.stood told) begins.binds)

pub returns-in_err-run_body-clause-only : goal.returns-in_err-run_body-clause-only
returns-in_err-run_body-clause-only g c =
    λ told. only-then (g.W.World.history c.args.world.now) (g.W.World.history c.open.new.world) (g.W.World.history c.run_body.new.world) (only-synced (g.W.World.history c.args.world.now) (g.W.World.history c.open.new.world) (c.open.ensures.only_syncs told)) (c.run_body.ensures.only told)

pub returns-in_err-run_body-clause-counts : goal.returns-in_err-run_body-clause-counts
returns-in_err-run_body-clause-counts g c =
    counts-then _ _ _ (disk-counts _ _ c.open.ensures.counts) c.run_body.ensures.counts

-- ---- the body came to its end

pub returns-clause-headline : goal.returns-clause-headline
returns-clause-headline g c =
    let begins : HasBegun c.args.program.now g.W.World.tells c.bind.new.self (g.W.World.history c.args.world.now) (g.W.World.history c.open.new.world) =
    bound-begun c.args.program.now g.W.World.tells c.in_ok-store.store c.bind.new.self (g.W.World.history c.args.world.now) (g.W.World.history c.open.new.world) c.in_ok-store.ensures.read
    c.in_ok-store.ensures.database c.bind.ensures.committed
    (matched-true c.args.program.now.relation c.in_ok-store.store c.bind.new.self c.in_ok-is_bound.is_bound (now (g.W.World.history c.args.world.now)) c.in_ok-is_bound.ensures.bound c.if-not-is_bound.false).0
    (λ told. open-kept (now (g.W.World.history c.open.new.world)) (now (g.W.World.history c.open.new.world)) c.in_ok-store.store c.bind.new.self refl c.bind.ensures.log c.bind.ensures.committed
    (c.in_ok-store.ensures.«open» told))
    c.open.ensures.moments
    in
    λ told database bound stood binds.
    begun-moments c.args.program.now g.W.World.tells c.bind.new.self (g.W.World.history c.args.world.now) (g.W.World.history c.open.new.world) begins (g.W.World.history c.run_body.new.world) told database bound (reads-of database (now (g.W.World.history c.args.world.now)) (g.met.W.World.reads_an_image c.args.world.now told) stood) stood binds c.run_body.ensures.moments

pub returns-clause-whole : goal.returns-clause-whole
returns-clause-whole g c =
    let begins : HasBegun c.args.program.now g.W.World.tells c.bind.new.self (g.W.World.history c.args.world.now) (g.W.World.history c.open.new.world) =
    bound-begun c.args.program.now g.W.World.tells c.in_ok-store.store c.bind.new.self (g.W.World.history c.args.world.now) (g.W.World.history c.open.new.world) c.in_ok-store.ensures.read
    c.in_ok-store.ensures.database c.bind.ensures.committed
    (matched-true c.args.program.now.relation c.in_ok-store.store c.bind.new.self c.in_ok-is_bound.is_bound (now (g.W.World.history c.args.world.now)) c.in_ok-is_bound.ensures.bound c.if-not-is_bound.false).0
    (λ told. open-kept (now (g.W.World.history c.open.new.world)) (now (g.W.World.history c.open.new.world)) c.in_ok-store.store c.bind.new.self refl c.bind.ensures.log c.bind.ensures.committed
    (c.in_ok-store.ensures.«open» told))
    c.open.ensures.moments
    in
    λ told database bound reads binds.
    begun-made c.args.program.now g.W.World.tells c.bind.new.self (g.W.World.history c.args.world.now) (g.W.World.history c.open.new.world) begins (g.W.World.history c.run_body.new.world) told database bound reads binds c.in_ok-run_body.ensures.made

pub returns-clause-complete : goal.returns-clause-complete
returns-clause-complete g c =
    let begins : HasBegun c.args.program.now g.W.World.tells c.bind.new.self (g.W.World.history c.args.world.now) (g.W.World.history c.open.new.world) =
    bound-begun c.args.program.now g.W.World.tells c.in_ok-store.store c.bind.new.self (g.W.World.history c.args.world.now) (g.W.World.history c.open.new.world) c.in_ok-store.ensures.read
    c.in_ok-store.ensures.database c.bind.ensures.committed
    (matched-true c.args.program.now.relation c.in_ok-store.store c.bind.new.self c.in_ok-is_bound.is_bound (now (g.W.World.history c.args.world.now)) c.in_ok-is_bound.ensures.bound c.if-not-is_bound.false).0
    (λ told. open-kept (now (g.W.World.history c.open.new.world)) (now (g.W.World.history c.open.new.world)) c.in_ok-store.store c.bind.new.self refl c.bind.ensures.log c.bind.ensures.committed
    (c.in_ok-store.ensures.«open» told))
    c.open.ensures.moments
    in
    λ told database bound reads binds no_disk no_say.
    due-ended c.args.program.now bound (now (g.W.World.history c.args.world.now)).input _ (begun-stands c.args.program.now g.W.World.tells c.bind.new.self (g.W.World.history c.args.world.now) (g.W.World.history c.open.new.world) begins (g.W.World.history c.run_body.new.world) told database bound reads binds Ended c.in_ok-run_body.ensures.ended)

pub returns-clause-ended : goal.returns-clause-ended
returns-clause-ended g c =
    let begins : HasBegun c.args.program.now g.W.World.tells c.bind.new.self (g.W.World.history c.args.world.now) (g.W.World.history c.open.new.world) =
    bound-begun c.args.program.now g.W.World.tells c.in_ok-store.store c.bind.new.self (g.W.World.history c.args.world.now) (g.W.World.history c.open.new.world) c.in_ok-store.ensures.read
    c.in_ok-store.ensures.database c.bind.ensures.committed
    (matched-true c.args.program.now.relation c.in_ok-store.store c.bind.new.self c.in_ok-is_bound.is_bound (now (g.W.World.history c.args.world.now)) c.in_ok-is_bound.ensures.bound c.if-not-is_bound.false).0
    (λ told. open-kept (now (g.W.World.history c.open.new.world)) (now (g.W.World.history c.open.new.world)) c.in_ok-store.store c.bind.new.self refl c.bind.ensures.log c.bind.ensures.committed
    (c.in_ok-store.ensures.«open» told))
    c.open.ensures.moments
    in
    begun-run c.args.program.now g.W.World.tells c.bind.new.self (g.W.World.history c.args.world.now) (g.W.World.history c.open.new.world) begins (g.W.World.history c.run_body.new.world) Ended c.in_ok-run_body.ensures.ended c.in_ok-run_body.ensures.made

pub returns-clause-not_store_where : goal.returns-clause-not_store_where
returns-clause-not_store_where g c =
    let begins : HasBegun c.args.program.now g.W.World.tells c.bind.new.self (g.W.World.history c.args.world.now) (g.W.World.history c.open.new.world) =
    bound-begun c.args.program.now g.W.World.tells c.in_ok-store.store c.bind.new.self (g.W.World.history c.args.world.now) (g.W.World.history c.open.new.world) c.in_ok-store.ensures.read
    c.in_ok-store.ensures.database c.bind.ensures.committed
    (matched-true c.args.program.now.relation c.in_ok-store.store c.bind.new.self c.in_ok-is_bound.is_bound (now (g.W.World.history c.args.world.now)) c.in_ok-is_bound.ensures.bound c.if-not-is_bound.false).0
    (λ told. open-kept (now (g.W.World.history c.open.new.world)) (now (g.W.World.history c.open.new.world)) c.in_ok-store.store c.bind.new.self refl c.bind.ensures.log c.bind.ensures.committed
    (c.in_ok-store.ensures.«open» told))
    c.open.ensures.moments
    in
    λ told none. absurd (none (begun-head c.args.program.now g.W.World.tells c.bind.new.self (g.W.World.history c.args.world.now) (g.W.World.history c.open.new.world) begins told))

pub returns-clause-damaged_where : goal.returns-clause-damaged_where
returns-clause-damaged_where g c =
    let begins : HasBegun c.args.program.now g.W.World.tells c.bind.new.self (g.W.World.history c.args.world.now) (g.W.World.history c.open.new.world) =
    bound-begun c.args.program.now g.W.World.tells c.in_ok-store.store c.bind.new.self (g.W.World.history c.args.world.now) (g.W.World.history c.open.new.world) c.in_ok-store.ensures.read
    c.in_ok-store.ensures.database c.bind.ensures.committed
    (matched-true c.args.program.now.relation c.in_ok-store.store c.bind.new.self c.in_ok-is_bound.is_bound (now (g.W.World.history c.args.world.now)) c.in_ok-is_bound.ensures.bound c.if-not-is_bound.false).0
    (λ told. open-kept (now (g.W.World.history c.open.new.world)) (now (g.W.World.history c.open.new.world)) c.in_ok-store.store c.bind.new.self refl c.bind.ensures.log c.bind.ensures.committed
    (c.in_ok-store.ensures.«open» told))
    c.open.ensures.moments
    in
    λ told head none. absurd (begun-sound c.args.program.now g.W.World.tells c.bind.new.self (g.W.World.history c.args.world.now) (g.W.World.history c.open.new.world) begins told none)

pub returns-clause-differs_where : goal.returns-clause-differs_where
returns-clause-differs_where g c =
    let begins : HasBegun c.args.program.now g.W.World.tells c.bind.new.self (g.W.World.history c.args.world.now) (g.W.World.history c.open.new.world) =
    bound-begun c.args.program.now g.W.World.tells c.in_ok-store.store c.bind.new.self (g.W.World.history c.args.world.now) (g.W.World.history c.open.new.world) c.in_ok-store.ensures.read
    c.in_ok-store.ensures.database c.bind.ensures.committed
    (matched-true c.args.program.now.relation c.in_ok-store.store c.bind.new.self c.in_ok-is_bound.is_bound (now (g.W.World.history c.args.world.now)) c.in_ok-is_bound.ensures.bound c.if-not-is_bound.false).0
    (λ told. open-kept (now (g.W.World.history c.open.new.world)) (now (g.W.World.history c.open.new.world)) c.in_ok-store.store c.bind.new.self refl c.bind.ensures.log c.bind.ensures.committed
    (c.in_ok-store.ensures.«open» told))
    c.open.ensures.moments
    in
    λ told database reads differs. absurd (begun-agrees c.args.program.now g.W.World.tells c.bind.new.self (g.W.World.history c.args.world.now) (g.W.World.history c.open.new.world) begins told database reads differs)

pub returns-clause-at_rest : goal.returns-clause-at_rest
returns-clause-at_rest g c =
    let begins : HasBegun c.args.program.now g.W.World.tells c.bind.new.self (g.W.World.history c.args.world.now) (g.W.World.history c.open.new.world) =
    bound-begun c.args.program.now g.W.World.tells c.in_ok-store.store c.bind.new.self (g.W.World.history c.args.world.now) (g.W.World.history c.open.new.world) c.in_ok-store.ensures.read
    c.in_ok-store.ensures.database c.bind.ensures.committed
    (matched-true c.args.program.now.relation c.in_ok-store.store c.bind.new.self c.in_ok-is_bound.is_bound (now (g.W.World.history c.args.world.now)) c.in_ok-is_bound.ensures.bound c.if-not-is_bound.false).0
    (λ told. open-kept (now (g.W.World.history c.open.new.world)) (now (g.W.World.history c.open.new.world)) c.in_ok-store.store c.bind.new.self refl c.bind.ensures.log c.bind.ensures.committed
    (c.in_ok-store.ensures.«open» told))
    c.open.ensures.moments
    in
    λ told database bound stood binds fine.
    some-all (events_of c.args.program.now bound (now (g.W.World.history c.args.world.now)).input) database (now (g.W.World.history c.args.world.now)) (now (g.W.World.history c.run_body.new.world))
    (begun-made c.args.program.now g.W.World.tells c.bind.new.self (g.W.World.history c.args.world.now) (g.W.World.history c.open.new.world) begins (g.W.World.history c.run_body.new.world) told database bound
    (reads-of database (now (g.W.World.history c.args.world.now)) (g.met.W.World.reads_an_image c.args.world.now told) stood) binds c.in_ok-run_body.ensures.made)

pub returns-clause-unbound : goal.returns-clause-unbound
returns-clause-unbound g c =
    let begins : HasBegun c.args.program.now g.W.World.tells c.bind.new.self (g.W.World.history c.args.world.now) (g.W.World.history c.open.new.world) =
    bound-begun c.args.program.now g.W.World.tells c.in_ok-store.store c.bind.new.self (g.W.World.history c.args.world.now) (g.W.World.history c.open.new.world) c.in_ok-store.ensures.read
    c.in_ok-store.ensures.database c.bind.ensures.committed
    (matched-true c.args.program.now.relation c.in_ok-store.store c.bind.new.self c.in_ok-is_bound.is_bound (now (g.W.World.history c.args.world.now)) c.in_ok-is_bound.ensures.bound c.if-not-is_bound.false).0
    (λ told. open-kept (now (g.W.World.history c.open.new.world)) (now (g.W.World.history c.open.new.world)) c.in_ok-store.store c.bind.new.self refl c.bind.ensures.log c.bind.ensures.committed
    (c.in_ok-store.ensures.«open» told))
    c.open.ensures.moments
    in
    λ told none. absurd (none (committed_of c.bind.new.self) (database_in c.bind.new.self) (begins.stood told) begins.binds)

pub returns-clause-only : goal.returns-clause-only
returns-clause-only g c =
    λ told. only-then (g.W.World.history c.args.world.now) (g.W.World.history c.open.new.world) (g.W.World.history c.run_body.new.world) (only-synced (g.W.World.history c.args.world.now) (g.W.World.history c.open.new.world) (c.open.ensures.only_syncs told)) (c.run_body.ensures.only told)

pub returns-clause-counts : goal.returns-clause-counts
returns-clause-counts g c =
    counts-then _ _ _ (disk-counts _ _ c.open.ensures.counts) c.run_body.ensures.counts

pub returns-clause-out_fault_where : goal.returns-clause-out_fault_where
returns-clause-out_fault_where g c =
    inr (fine-where c.run_body.result _ c.in_ok-run_body.was c.run_body.ensures.out_fault_where ∙ disk-fine _ _ c.open.ensures.counts)

pub returns-clause-disk_fault_where : goal.returns-clause-disk_fault_where
returns-clause-disk_fault_where g c =
    inr (fine-where c.run_body.result _ c.in_ok-run_body.was c.run_body.ensures.disk_fault_where
    ∙ fine-where c.open.result _ c.in_ok-store.was c.open.ensures.fine)

pub returns-clause-pages : goal.returns-clause-pages
returns-clause-pages g c =
    λ told.
    pages-stay (g.W.World.history c.args.world.now) (g.W.World.history c.open.new.world) (g.W.World.history c.run_body.new.world)
    (c.in_ok-store.ensures.synced told) (c.run_body.ensures.only told)
