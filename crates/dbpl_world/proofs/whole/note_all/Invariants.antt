use Rattle.std.proofs.Common.{◌≡◌, ◌-◌, ◌≤◌, IsTrue, map, take, length}
use Rattle.dbpl_world.specs.History.{Noted, more}
use Rattle.dbpl_world.specs.Counts.{OnlyNoteFaults}
use Rattle.dbpl_world.proofs.whole.note_all.Given as goal

abbrev pub invariant-loop-done : goal.invariant-loop-done
invariant-loop-done g l = record {
  within : l.done ≤ length l.bytes;
  noted : IsTrue g.W.World.tells → g.W.World.history l.world ≡ more (g.W.World.history l.initial.world) (map Noted (take l.done l.bytes));
  same : g.W.World.mounted l.world ≡ g.W.World.mounted l.initial.world;
  counts : OnlyNoteFaults (g.W.World.counts l.initial.world) (g.W.World.counts l.world);
}

abbrev pub decreases-loop-done : goal.decreases-loop-done
decreases-loop-done g l = length l.bytes - l.done
