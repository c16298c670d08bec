-- What is noted of a command, and which counts it may raise.
use Rattle.std.specs.Prelude.{◌≡◌, ◌⊎◌, ◌≤◌, ℕ, IsTrue, List, ◌++◌, take}
use Rattle.dbpl_base.specs.Report.{report}
use Rattle.dbpl_base.specs.declared.status.Status.{Status}
use Rattle.dbpl_promise.specs.Work.{Work}
use Rattle.dbpl_world.specs.Counts.{Rose}
use Rattle.dbpl_world.specs.History.{State, now}
use Rattle.dbpl_world.specs.declared.counts.Counts.{Counts}

-- The bytes are the report of this answer, or a front of it where a note failed.
abbrev pub Reports : Counts → Counts → Status → List ℕ → Type 0
Reports counts_before counts_after status noted =
    (noted ≡ report status)
    ⊎ ((count : ℕ) × (noted ≡ take count (report status)) × Rose counts_before.note_faults counts_after.note_faults)

-- What was noted since these bytes is so.
pub record NotedSince (before : List ℕ) (P : List ℕ → Type 0) (s : State) : Type 0 where
  pub noted : List ℕ
  pub is : s.noted ≡ before ++ noted
  pub holds : P noted

-- where the world tells, what was noted is the report of this answer, or a front of it where a note failed
abbrev pub NotesReport : Work → Status → Type 0
NotesReport work answer =
    IsTrue work.tells →
    NotedSince (now work.before).noted (Reports work.counts_before work.counts_after answer) (now work.after)

-- Of all counts only those of failed prints and notes and of faults of the disk may have risen.
pub record OnlyCommandFaults (old new : Counts) : Type 0 where
  pub others :
      new ≡ record old { say_faults = new.say_faults; note_faults = new.note_faults; disk_faults = new.disk_faults }
  pub say_later : old.say_faults ≤ new.say_faults
  pub note_later : old.note_faults ≤ new.note_faults
  pub disk_later : old.disk_faults ≤ new.disk_faults
