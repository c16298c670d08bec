-- What a run leaves alone.
use Rattle.std.specs.Prelude.{◌≡◌, ◌≤◌}
use Rattle.dbpl_log.specs.Changes.{IsSynced}
use Rattle.dbpl_world.specs.declared.counts.Counts.{Counts}
use Rattle.dbpl_world.specs.History.{State}

-- Since old nothing has changed but the disk of the mounted store and what was said. Its pages were synced at most.
pub record ChangesStore (old s : State) : Type 0 where
  pub pages : IsSynced old.disk.pages s.disk.pages
  pub others : s ≡ record old { disk = s.disk; said = s.said }

-- Of all counts only those of failed prints and of faults of the disk may have risen.
pub record OnlyRunFaults (old new : Counts) : Type 0 where
  pub others : new ≡ record old { say_faults = new.say_faults; disk_faults = new.disk_faults }
  pub say_later : old.say_faults ≤ new.say_faults
  pub disk_later : old.disk_faults ≤ new.disk_faults
