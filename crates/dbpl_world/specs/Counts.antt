-- The counts of a world, which never fall, and which of them a call may raise.
use Rattle.std.specs.Prelude.{◌≡◌, ℕ, ◌+◌, ◌-◌, ◌^◌, ◌≤◌, min}
pub use Rattle.dbpl_world.specs.declared.counts.Counts.{Counts}
use Rattle.dbpl_world.specs.declared.part.Part.{Part}
use Rattle.dbpl_world.specs.declared.part.Part.TheVariants.{Log, Pages}

-- A count of 64 bits has risen, or stands at its last value.
abbrev pub Rose : ℕ → ℕ → Type 0
Rose old new = min (old + 1) (2 ^ 64 - 1) ≤ new

pub record OnlyTakeFaults (old new : Counts) : Type 0 where
  pub others : new ≡ record old { take_faults = new.take_faults }
  pub later : old.take_faults ≤ new.take_faults

pub record OnlySayFaults (old new : Counts) : Type 0 where
  pub others : new ≡ record old { say_faults = new.say_faults }
  pub later : old.say_faults ≤ new.say_faults

pub record OnlyNoteFaults (old new : Counts) : Type 0 where
  pub others : new ≡ record old { note_faults = new.note_faults }
  pub later : old.note_faults ≤ new.note_faults

pub record OnlyDiskFaults (old new : Counts) : Type 0 where
  pub others : new ≡ record old { disk_faults = new.disk_faults }
  pub later : old.disk_faults ≤ new.disk_faults

-- A read of the pages may raise the count of page reads by one, and a read of the log doesn't.
abbrev pub page_reads_of : Part → ℕ
page_reads_of Log = 0
page_reads_of Pages = 1

pub record OnlyReads (part : Part) (old new : Counts) : Type 0 where
  pub others : new ≡ record old { disk_faults = new.disk_faults; page_reads = new.page_reads }
  pub later : old.disk_faults ≤ new.disk_faults
  pub reads_later : old.page_reads ≤ new.page_reads
  pub reads_within : new.page_reads ≤ old.page_reads + page_reads_of part

-- the count of faults of one kind raised by one, or at its last value
abbrev pub take_failed : Counts → Counts
take_failed counts = record counts { take_faults = min (counts.take_faults + 1) (2 ^ 64 - 1) }

abbrev pub say_failed : Counts → Counts
say_failed counts = record counts { say_faults = min (counts.say_faults + 1) (2 ^ 64 - 1) }

abbrev pub note_failed : Counts → Counts
note_failed counts = record counts { note_faults = min (counts.note_faults + 1) (2 ^ 64 - 1) }

abbrev pub disk_failed : Counts → Counts
disk_failed counts = record counts { disk_faults = min (counts.disk_faults + 1) (2 ^ 64 - 1) }

-- after a read of the part
abbrev pub part_read : Part → Counts → Counts
part_read Log counts = counts
part_read Pages counts = record counts { page_reads = min (counts.page_reads + 1) (2 ^ 64 - 1) }

abbrev pub unraised : Counts → Counts
unraised counts = counts
