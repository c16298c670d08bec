-- So far the pieces before the index are noted.
use Rattle.std.proofs.Common.{◌≡◌, IsTrue, map, take}
use Rattle.std.specs.List.{flat_map}
use Rattle.dbpl_world.specs.Counts.{OnlyNoteFaults}
use Rattle.dbpl_world.specs.History.{Noted, more}
use Rattle.dbpl_words.proofs.noting.note_pieces.Given as goal

abbrev pub invariant-loop-piece : goal.invariant-loop-piece
invariant-loop-piece g l = record {
  told : IsTrue g.W.World.tells → g.W.World.history l.world ≡ more (g.W.World.history l.initial.world) (map Noted (flat_map (λ piece. piece.now) (take l.piece-index l.pieces)));
  same : g.W.World.mounted l.world ≡ g.W.World.mounted l.initial.world;
  counts : OnlyNoteFaults (g.W.World.counts l.initial.world) (g.W.World.counts l.world);
}
