-- What the top call has to know of a command, whatever it does: the laws of its row.
use Rattle.std.proofs.Common.{◌≡◌, ℕ, Bool, IsTrue, List, Option, Some, subst}
use Rattle.dbpl_base.specs.declared.status.Status.{Status}
use Rattle.dbpl_core.specs.Outcomes.{TellsOfEnd}
use Rattle.dbpl_promise.proofs.AnswerKinds.{Concludes, HasKinds}
use Rattle.dbpl_promise.proofs.Stages.{running_concludes, running_kinds}
use Rattle.dbpl_promise.specs.Opening.{StandsAs, store_before}
use Rattle.dbpl_promise.specs.Promises.{Promise}
use Rattle.dbpl_promise.specs.Running.{ended, reading, running}
use Rattle.dbpl_promise.specs.Runs.{IsTied, IsWhole, Leaves, Run, StoodFor}
use Rattle.dbpl_promise.specs.Stages.{IsDetermined, Stage, ◌>>=◌}
use Rattle.dbpl_promise.specs.Work.{IsTold, Work}
use Rattle.dbpl_world.specs.Files.{Files}
use Rattle.dbpl_world.specs.History.{History, State, now}

-- Both works begin alike, however they go on.
pub record BeginsAs (work other : Work) : Type 0 where
  pub files : work.files ≡ other.files
  pub tells : work.tells ≡ other.tells
  pub before : work.before ≡ other.before

-- what rests on the beginning alone
pub at_beginning : (P : Option Files → Bool → History → Type 0) (work other : Work) → BeginsAs work other →
    P work.files work.tells work.before → P other.files other.tells other.before
at_beginning P work other same holds =
    subst (λ (files : Option Files). P files other.tells other.before) same.files
    (subst (λ (tells : Bool). P work.files tells other.before) same.tells
    (subst (λ (before : History). P work.files work.tells before) same.before holds))

-- What is run rests on the beginning, and where it is over a store it is over the database that a read of that gives.
pub record IsRunOf (runs : Work → Run → Type 0) : Type 0 where
  pub rests : (work other : Work) (run : Run) → BeginsAs work other → runs work run → runs other run
  pub reads : (work : Work) (run : Run) (store : List ℕ) → IsTrue work.tells → runs work run → run.store ≡ Some store →
      StandsAs run.database (store_before store work)

-- THE laws of a row.
pub record IsRow (promise : Promise) : Type 0 where
  pub kinds : HasKinds promise.due
  pub concludes : Concludes promise.due
  pub determined : (work : Work) → IsTold work → IsDetermined promise.due work
  pub run_is : IsRunOf promise.runs
  -- What may stand meanwhile, and what stands at the end, is what the headline says of a run.
  pub tied : (work : Work) (answer : Status) (s : State) (run : Run) → IsTold work → promise.runs work run →
      StoodFor run (now work.before) → promise.may work answer s → Leaves run.store (IsTied run (now work.before)) s
  pub whole : (work : Work) (answer : Status) (s : State) (run : Run) → IsTold work → promise.runs work run →
      TellsOfEnd answer → promise.ends work answer s → Leaves run.store (IsWhole run (now work.before) answer s.input) s

-- a command that runs what its stages pass with
pub running_row : (stage : Stage Run) → HasKinds stage →
    ((work : Work) → IsTold work → IsDetermined (stage >>= ended) work) → IsRunOf stage.passes → IsRow (running stage)
running_row stage kinds determined run_is = record {
  kinds = running_kinds stage kinds;
  concludes = running_concludes stage;
  determined = determined;
  run_is = run_is;
  tied = λ work answer s run told runs stood may. may.tied told run runs stood;
  whole = λ work answer s run told runs tells ends. ends.whole told run runs tells;
}

-- a command that runs nothing
module _ (promise : Promise) (idle : (work : Work) (run : Run) → promise.runs work run → ⊥) where
  pub idle_row : HasKinds promise.due → Concludes promise.due →
      ((work : Work) → IsTold work → IsDetermined promise.due work) → IsRow promise
  idle_row kinds concludes determined = record {
    kinds = kinds;
    concludes = concludes;
    determined = determined;
    run_is = record {
      rests = λ work other run same runs. absurd (idle work run runs);
      reads = λ work run store tells runs over. absurd (idle work run runs);
    };
    tied = λ work answer s run told runs stood may. absurd (idle work run runs);
    whole = λ work answer s run told runs tells ends. absurd (idle work run runs);
  }

-- and one that only reads
pub reading_row : (stage : Stage Status) → HasKinds stage → Concludes stage →
    ((work : Work) → IsTold work → IsDetermined stage work) → IsRow (reading stage)
reading_row stage = idle_row (reading stage) (λ work run never. never)
