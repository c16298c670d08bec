-- Each return kept the promise.
use Rattle.std.proofs.Common.{Err, ap, inl, inr, refl, ◌∙◌}
use Rattle.dbpl_stored_modes.proofs.MadeLaw.{Made, created_as, made_unnoted, uncreated}
use Rattle.dbpl_stored_modes.proofs.creating.create_store.Goals as goal
use Rattle.dbpl_world.specs.History.{now}
use Rattle.dbpl_world.specs.declared.counts.Counts.{Counts}

pub returns-in-Err-Failed-clause-created : goal.returns-in-Err-Failed-clause-created
returns-in-Err-Failed-clause-created g c = λ files faults.
    uncreated c.args.store.now _ _
    (record {
      world = c.in-Err-Failed.ensures.unchanged;
      prints = ap (λ (counts : Counts). counts.say_faults) c.mount.ensures.counts.others;
      disk = inl refl;
      source = inr refl;
    })
    (inl (refl, c.in-Err-Failed.ensures.cause (ap Err c.in-Err-Failed.field-0-is)))

pub returns-in-Err-Memory-clause-created : goal.returns-in-Err-Memory-clause-created
returns-in-Err-Memory-clause-created g c = λ files faults.
    uncreated c.args.store.now _ _
    (record {
      world = c.in-Err-Memory.ensures.unchanged;
      prints = ap (λ (counts : Counts). counts.say_faults) c.mount.ensures.counts.others;
      disk = inr (ap (λ (counts : Counts). counts.disk_faults) (c.in-Err-Memory.ensures.memory (ap Err c.in-Err-Memory.field-0-is)));
      source = inr refl;
    })
    (inr refl)

pub returns-clause-created : goal.returns-clause-created
returns-clause-created g c = λ files faults.
    let run : Made g.W.World.tells (g.W.World.history c.mount.new.self) (g.W.World.history c.create.new.world)
    (g.W.World.counts c.mount.new.self) (g.W.World.counts c.create.new.world) c.create.result = record {
      moments = c.create.ensures.moments;
      made = c.create.ensures.made;
      bytes = c.create.ensures.bytes;
      pages = c.create.ensures.pages;
      writes = c.create.ensures.writes;
      free = c.create.ensures.free;
      exists = c.create.ensures.exists;
      foreign = c.create.ensures.foreign;
      settled = c.create.ensures.settled;
      kept = c.create.ensures.kept;
      fine = c.create.ensures.fine;
      cause = c.create.ensures.cause;
    } in
    created_as c.args.store.now _ (g.W.World.history c.mount.new.self) (g.W.World.counts c.mount.new.self) c.create.result c.in-Ok.ensures.told
    c.in-Ok.ensures.fine
    (ap (λ (counts : Counts). counts.say_faults) c.create.ensures.counts.others
    ∙ ap (λ (counts : Counts). counts.say_faults) c.mount.ensures.counts.others)
    refl run _ c.status_of.ensures

pub returns-clause-unnoted : goal.returns-clause-unnoted
returns-clause-unnoted g c = λ told. made_unnoted _ _ (c.create.ensures.writes told) c.args.store.now _ (c.in-Ok.ensures.told told)

pub returns-in-Err-Failed-clause-unnoted : goal.returns-in-Err-Failed-clause-unnoted
returns-in-Err-Failed-clause-unnoted g c = λ told. ap (λ h. (now h).noted) (c.in-Err-Failed.ensures.unchanged told)

pub returns-in-Err-Memory-clause-unnoted : goal.returns-in-Err-Memory-clause-unnoted
returns-in-Err-Memory-clause-unnoted g c = λ told. ap (λ h. (now h).noted) (c.in-Err-Memory.ensures.unchanged told)
