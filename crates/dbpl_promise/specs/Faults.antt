-- The faults of the outside, each with its count, which has risen.
use Rattle.dbpl_base.specs.declared.status.Status.{Status}
use Rattle.dbpl_base.specs.declared.status.Status.TheVariants as status
use Rattle.dbpl_promise.specs.Work.{Work}
use Rattle.dbpl_world.specs.Counts.{Rose}

abbrev pub source_faults : Work → Status → Type 0
source_faults work status.SourceFault = Rose work.shelf_faults_before work.shelf_faults_after
source_faults work _ = ⊥

abbrev pub disk_faults : Work → Status → Type 0
disk_faults work status.DiskFault = Rose work.counts_before.disk_faults work.counts_after.disk_faults
disk_faults work _ = ⊥

abbrev pub out_faults : Work → Status → Type 0
out_faults work status.OutFault = Rose work.counts_before.say_faults work.counts_after.say_faults
out_faults work _ = ⊥
