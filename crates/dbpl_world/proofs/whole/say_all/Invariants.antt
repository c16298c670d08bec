use Rattle.std.proofs.Common.{◌≡◌, IsTrue, map, take}
use Rattle.dbpl_world.specs.History.{Said, more}
use Rattle.dbpl_world.specs.Counts.{OnlySayFaults}
use Rattle.dbpl_world.proofs.whole.say_all.Given as goal

abbrev pub invariant-loop-byte : goal.invariant-loop-byte
invariant-loop-byte g l = record {
  said : IsTrue g.W.World.tells → g.W.World.history l.world ≡ more (g.W.World.history l.initial.world) (map Said (take l.byte-index l.bytes));
  same : g.W.World.mounted l.world ≡ g.W.World.mounted l.initial.world;
  counts : OnlySayFaults (g.W.World.counts l.initial.world) (g.W.World.counts l.world);
  fine : (g.W.World.counts l.world).say_faults ≡ (g.W.World.counts l.initial.world).say_faults;
}
