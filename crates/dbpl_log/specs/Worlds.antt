-- Words for the contracts of calls that are lent a world.
use Rattle.std.specs.Prelude.{◌≡◌, List, ℕ}
use Rattle.dbpl_world.specs.Counts.{Rose}
use Rattle.dbpl_world.specs.History.{State, Store, now, settled_store}
use Rattle.dbpl_world.specs.Moments.{EachMoment}
use Rattle.dbpl_world.specs.declared.outside.World as outside

-- the disk of the mounted store
abbrev pub disk_of : {W : Type 0} → outside.Ghosts W → W → Store
disk_of world at = (now (world.history at)).disk

-- what a read of its log gives
abbrev pub log_of : {W : Type 0} → outside.Ghosts W → W → List ℕ
log_of world at = (disk_of world at).log.now

-- and one of its pages
abbrev pub pages_of : {W : Type 0} → outside.Ghosts W → W → List ℕ
pages_of world at = (disk_of world at).pages.now

-- that disk once both parts are synced
abbrev pub synced_of : {W : Type 0} → outside.Ghosts W → W → Store
synced_of world at = settled_store (log_of world at) (pages_of world at)

-- From the one world on, at each moment up to the other, this holds of what it was and what it is.
abbrev pub Meanwhile : {W : Type 0} → outside.Ghosts W → (State → State → Type 0) → W → W → Type 0
Meanwhile world Q before after =
    EachMoment (Q (now (world.history before))) (world.history before) (world.history after)

-- a fault of the disk was counted
abbrev pub DiskFailed : {W : Type 0} → outside.Ghosts W → W → W → Type 0
DiskFailed world before after = Rose (world.counts before).disk_faults (world.counts after).disk_faults

-- no fault of the disk was counted
abbrev pub DiskHeld : {W : Type 0} → outside.Ghosts W → W → W → Type 0
DiskHeld world before after = (world.counts after).disk_faults ≡ (world.counts before).disk_faults
