-- So far the statements before the index have printed.
use Rattle.std.proofs.Common.{◌≡◌, IsTrue, map, take}
use Rattle.std.specs.List.{flat_map}
use Rattle.dbpl_alone.specs.Meaning.{printed_by}
use Rattle.dbpl_world.specs.Counts.{OnlySayFaults}
use Rattle.dbpl_world.specs.History.{Said, more}
use Rattle.dbpl_alone.proofs.printing.print_program.Given as goal

abbrev pub invariant-loop-statement : goal.invariant-loop-statement
invariant-loop-statement g l = record {
  told : IsTrue g.W.World.tells → g.W.World.history l.world ≡ more (g.W.World.history l.initial.world) (map Said (flat_map printed_by (take l.statement-index l.statement-items)));
  same : g.W.World.mounted l.world ≡ g.W.World.mounted l.initial.world;
  counts : OnlySayFaults (g.W.World.counts l.initial.world) (g.W.World.counts l.world);
  fine : (g.W.World.counts l.world).say_faults ≡ (g.W.World.counts l.initial.world).say_faults;
}
