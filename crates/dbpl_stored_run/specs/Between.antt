-- Words for what is so of a world before and after a run.
use Rattle.std.specs.Prelude.{List, ℕ}
use Rattle.dbpl_world.specs.Counts.{Rose}
use Rattle.dbpl_world.specs.History.{State, now}
use Rattle.dbpl_world.specs.declared.outside.World as outside

-- this holds of what it was and what it is
abbrev pub Between : {W : Type 0} → outside.Ghosts W → (State → State → Type 0) → W → W → Type 0
Between world Q before after = Q (now (world.history before)) (now (world.history after))

-- its input
abbrev pub input_of : {W : Type 0} → outside.Ghosts W → W → List ℕ
input_of world at = (now (world.history at)).input

-- a print that failed was counted
abbrev pub SayFailed : {W : Type 0} → outside.Ghosts W → W → W → Type 0
SayFailed world before after = Rose (world.counts before).say_faults (world.counts after).say_faults
