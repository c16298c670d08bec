-- Each return kept the promise.
use Rattle.std.proofs.Common.{Err, ap, inl, inr, refl}
use Rattle.dbpl_stored_modes.proofs.RunLaw.{RanMounted, named_store, ran_over, ran_unnoted}
use Rattle.dbpl_stored_modes.proofs.Stages.{behind_name, unmounted}
use Rattle.dbpl_world.specs.History.{now}
use Rattle.dbpl_world.specs.declared.counts.Counts.{Counts}
use Rattle.dbpl_stored_modes.proofs.running.run_over.Goals as goal

pub returns-in-Err-Failed-clause-runs : goal.returns-in-Err-Failed-clause-runs
returns-in-Err-Failed-clause-runs g c = λ files faults.
    behind_name c.args.store.now c.args.program.now _ _ (named_store c.args.store.now c.if-eq.ensures)
    (unmounted c.args.store.now c.args.program.now _ _ (inl (c.in-Err-Failed.ensures.cause (ap Err c.in-Err-Failed.field-0-is))) (record {
      world = c.in-Err-Failed.ensures.unchanged;
      prints = ap (λ (counts : Counts). counts.say_faults) c.mount.ensures.counts.others;
      disk = inl refl;
      source = inr refl;
    }))

pub returns-in-Err-Memory-clause-runs : goal.returns-in-Err-Memory-clause-runs
returns-in-Err-Memory-clause-runs g c = λ files faults.
    behind_name c.args.store.now c.args.program.now _ _ (named_store c.args.store.now c.if-eq.ensures)
    (unmounted c.args.store.now c.args.program.now _ _ (inr refl) (record {
      world = c.in-Err-Memory.ensures.unchanged;
      prints = ap (λ (counts : Counts). counts.say_faults) c.mount.ensures.counts.others;
      disk = inr (ap (λ (counts : Counts). counts.disk_faults) (c.in-Err-Memory.ensures.memory (ap Err c.in-Err-Memory.field-0-is)));
      source = inr refl;
    }))

pub returns-clause-runs : goal.returns-clause-runs
returns-clause-runs g c = λ files faults.
    let run : RanMounted c.args.program.now g.W.World.tells (g.W.World.history c.mount.new.self) (g.W.World.history c.run_stored.new.world)
    (g.W.World.counts c.mount.new.self) (g.W.World.counts c.run_stored.new.world) c.run_stored.result = record {
      headline = c.run_stored.ensures.headline;
      whole = c.run_stored.ensures.whole;
      whole_trapped = c.run_stored.ensures.whole_trapped;
      ended = c.run_stored.ensures.ended;
      trapped = c.run_stored.ensures.trapped;
      not_store = c.run_stored.ensures.not_store;
      not_store_where = c.run_stored.ensures.not_store_where;
      damaged = c.run_stored.ensures.damaged;
      damaged_where = c.run_stored.ensures.damaged_where;
      differs = c.run_stored.ensures.differs;
      differs_where = c.run_stored.ensures.differs_where;
      disk_fault = c.run_stored.ensures.disk_fault;
      disk_fault_where = c.run_stored.ensures.disk_fault_where;
      out_fault = c.run_stored.ensures.out_fault;
      out_fault_where = c.run_stored.ensures.out_fault_where;
      at_rest = c.run_stored.ensures.at_rest;
      pages = c.run_stored.ensures.pages;
      pages_trapped = c.run_stored.ensures.pages_trapped;
      settled = c.run_stored.ensures.settled;
      refused = c.run_stored.ensures.refused;
      unbound = c.run_stored.ensures.unbound;
      only = c.run_stored.ensures.only;
    } in
    behind_name c.args.store.now c.args.program.now _ _ (named_store c.args.store.now c.if-eq.ensures)
    (ran_over c.args.store.now c.args.program.now _ (g.W.World.history c.mount.new.self) (g.W.World.counts c.mount.new.self) c.run_stored.result _
    c.in-Ok.ensures.told c.in-Ok.ensures.fine
    (ap (λ (counts : Counts). counts.say_faults) c.mount.ensures.counts.others) refl run c.status_of.ensures)

pub returns-clause-unnoted : goal.returns-clause-unnoted
returns-clause-unnoted g c = λ told. ran_unnoted _ _ (c.run_stored.ensures.only told) c.args.store.now _ (c.in-Ok.ensures.told told)

pub returns-in-Err-Failed-clause-unnoted : goal.returns-in-Err-Failed-clause-unnoted
returns-in-Err-Failed-clause-unnoted g c = λ told. ap (λ h. (now h).noted) (c.in-Err-Failed.ensures.unchanged told)

pub returns-in-Err-Memory-clause-unnoted : goal.returns-in-Err-Memory-clause-unnoted
returns-in-Err-Memory-clause-unnoted g c = λ told. ap (λ h. (now h).noted) (c.in-Err-Memory.ensures.unchanged told)
