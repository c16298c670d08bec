-- What a command promises, in one form for all commands.
use Rattle.std.specs.Prelude.{◌≡◌, ◌⊎◌, ℕ, IsTrue, IsSomeAnd, List}
use Rattle.dbpl_base.specs.declared.status.Status.{Status}
use Rattle.dbpl_base.specs.declared.status.Status.TheVariants as status
use Rattle.dbpl_log.specs.Changes.{IsSynced}
use Rattle.dbpl_promise.specs.Runs.{Run}
use Rattle.dbpl_promise.specs.Stages.{MayAnswer, Stage}
use Rattle.dbpl_promise.specs.Work.{Work}
use Rattle.dbpl_world.specs.History.{State, now, store_of}
use Rattle.dbpl_world.specs.Moments.{EachMoment}

pub record Promise : Type 1 where
  -- which answer is due where no fault and no want of memory comes, and which faults may come
  pub due : Stage Status
  -- what is run, if something is
  pub runs : Work → Run → Type 0
  -- what may stand at each moment of a work that is answered so
  pub may : Work → Status → State → Type 0
  -- what stands at its end
  pub ends : Work → Status → State → Type 0

-- Since old no store was mounted but one of these, and each other is as it was. Of no store the pages were written. Nothing
-- was noted.
pub record LeavesAlone (mounts : List ℕ → Type 0) (old s : State) : Type 0 where
  pub mounted : (s.mounted ≡ old.mounted) ⊎ IsSomeAnd s.mounted mounts
  pub others : (name : List ℕ) → (mounts name → ⊥) → store_of s name ≡ store_of old name
  pub pages : (name : List ℕ) → IsSynced (store_of old name).pages (store_of s name).pages
  pub noted : s.noted ≡ old.noted

-- THE promise is kept by this work and its answer.
pub record Answered (promise : Promise) (work : Work) (answer : Status) : Type 0 where
  -- The answer is the one that is due, or a fault or want of memory came before it. A fault comes only where its count rose.
  pub answers : MayAnswer promise.due work answer
  pub moments : IsTrue work.tells → EachMoment (promise.may work answer) work.before work.after
  pub end : IsTrue work.tells → promise.ends work answer (now work.after)
  -- Nothing else changes, and no store is mounted but one that may be.
  pub only : IsTrue work.tells →
      EachMoment (LeavesAlone (promise.due.mounts work) (now work.before)) work.before work.after
  -- A print that failed is always the answer.
  pub prints : (answer ≡ status.OutFault) ⊎ (work.counts_after.say_faults ≡ work.counts_before.say_faults)
  -- So is a fault of the disk, and a fetch that failed: none is passed over.
  pub disk : (answer ≡ status.DiskFault) ⊎ (work.counts_after.disk_faults ≡ work.counts_before.disk_faults)
  pub source : (answer ≡ status.SourceFault) ⊎ (work.shelf_faults_after ≡ work.shelf_faults_before)
