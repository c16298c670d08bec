-- So far the statements before the index are done.
use Rattle.std.proofs.Common.{◌≡◌, IsTrue, drop, false}
use Rattle.dbpl_store.specs.Stores.{IsBoundTo, is_running}
use Rattle.dbpl_stored_run.proofs.Progress.{HasCome}
use Rattle.dbpl_stored_run.specs.Leaving.{ChangesStore, OnlyRunFaults}
use Rattle.dbpl_world.specs.History.{now}
use Rattle.dbpl_world.specs.Moments.{EachMoment}
use Rattle.dbpl_stored_run.proofs.statements.act_all.Given as goal

abbrev pub invariant-loop-action : goal.invariant-loop-action
invariant-loop-action g l = record {
  come : HasCome l.program (drop l.action-index l.action-items) g.W.World.tells l.initial.store l.store (g.W.World.history l.initial.world) (g.W.World.history l.world);
  bound : IsBoundTo l.program.relation l.store;
  still : is_running l.store ≡ false;
  only : IsTrue g.W.World.tells → EachMoment (ChangesStore (now (g.W.World.history l.initial.world))) (g.W.World.history l.initial.world) (g.W.World.history l.world);
  same : g.W.World.mounted l.world ≡ g.W.World.mounted l.initial.world;
  counts : OnlyRunFaults (g.W.World.counts l.initial.world) (g.W.World.counts l.world);
  fine : (g.W.World.counts l.world).say_faults ≡ (g.W.World.counts l.initial.world).say_faults;
  disk : (g.W.World.counts l.world).disk_faults ≡ (g.W.World.counts l.initial.world).disk_faults;
}
