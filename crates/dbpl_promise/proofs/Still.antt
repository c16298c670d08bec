-- A command that did nothing to the world, and whose answer may come, kept its promise where what was there before may
-- stand.
use Rattle.std.proofs.Common.{◌≡◌, ◌⊎◌, IsTrue, ap, inr, subst, sym}
use Rattle.dbpl_base.specs.declared.status.Status.{Status}
use Rattle.dbpl_base.specs.declared.status.Status.TheVariants as status
use Rattle.dbpl_promise.proofs.Leaving.{alone_here, untouched_here}
use Rattle.dbpl_promise.specs.Promises.{Answered, LeavesAlone, Promise}
use Rattle.dbpl_promise.specs.Running.{reading}
use Rattle.dbpl_promise.specs.Stages.{MayAnswer, Stage}
use Rattle.dbpl_promise.specs.Work.{Work}
use Rattle.dbpl_world.proofs.Moments.{moments_start}
use Rattle.dbpl_world.specs.History.{History, State, now}
use Rattle.dbpl_world.specs.Moments.{EachMoment}

-- Nothing was done: the world is as it was, no print has failed, and another fault is the answer.
pub record IsStill (work : Work) (answer : Status) : Type 0 where
  pub world : IsTrue work.tells → work.after ≡ work.before
  pub prints : work.counts_after.say_faults ≡ work.counts_before.say_faults
  pub disk : (answer ≡ status.DiskFault) ⊎ (work.counts_after.disk_faults ≡ work.counts_before.disk_faults)
  pub source : (answer ≡ status.SourceFault) ⊎ (work.shelf_faults_after ≡ work.shelf_faults_before)

module _ (work : Work) (answer : Status) (still : IsStill work answer) where
  still_moments : (Q : State → Type 0) → IsTrue work.tells → Q (now work.before) → EachMoment Q work.before work.after
  still_moments Q tells holds =
      subst (λ (h : History). EachMoment Q work.before h) (sym (still.world tells)) (moments_start Q work.before holds)

  pub kept_still : (promise : Promise) → MayAnswer promise.due work answer → promise.may work answer (now work.before) →
      promise.ends work answer (now work.before) → Answered promise work answer
  kept_still promise answers may ends = record {
    answers = answers;
    moments = λ tells. still_moments (promise.may work answer) tells may;
    end = λ tells. subst (promise.ends work answer) (sym (ap now (still.world tells))) ends;
    only = λ tells.
        still_moments (LeavesAlone (promise.due.mounts work) (now work.before)) tells
        (alone_here (promise.due.mounts work) (now work.before));
    prints = inr still.prints;
    disk = still.disk;
    source = still.source;
  }

  -- so does each command that only reads
  pub reading_still : (stage : Stage Status) → MayAnswer stage work answer → Answered (reading stage) work answer
  reading_still stage answers = kept_still (reading stage) answers (untouched_here (now work.before)) (tt {0})
