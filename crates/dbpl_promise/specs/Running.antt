-- The promise of a command that runs a program, and of one that only reads files.
use Rattle.std.specs.Prelude.{◌≡◌, ◌≢◌, ◌⊎◌, ℕ, IsTrue, List, Option, None, Some}
use Rattle.dbpl_base.specs.declared.status.Status.{Status}
use Rattle.dbpl_base.specs.declared.status.Status.TheVariants as status
use Rattle.dbpl_core.specs.Events.{Event}
use Rattle.dbpl_core.specs.Outcomes.{IsToldBy, MayHaveMade, TellsOfEnd}
use Rattle.dbpl_promise.specs.Faults.{disk_faults, out_faults}
use Rattle.dbpl_promise.specs.Leaving.{IsUntouched, made_sure}
use Rattle.dbpl_promise.specs.Opening.{store_before}
use Rattle.dbpl_promise.specs.Promises.{Promise}
use Rattle.dbpl_promise.specs.Refusals.{is_refusal}
use Rattle.dbpl_promise.specs.Runs.{WereMade, IsTied, IsWhole, Leaves, Run, StoodFor}
use Rattle.dbpl_promise.specs.Stages.{Never, Stage, ◌>>=◌}
use Rattle.dbpl_promise.specs.Work.{IsTold, Work}
use Rattle.dbpl_world.specs.History.{State, now, store_of}
use Rattle.dbpl_world.specs.Images.{settled}

-- ---- the last stage of a run

-- Over the input, where that is told, the meaning ends as the answer tells, within some number of turns.
pub record Ends (run : Run) (work : Work) (answer : Status) : Type 0 where
  pub input : List ℕ
  pub told : IsTrue work.tells → input ≡ (now work.before).input
  pub turns : ℕ
  pub ends : IsToldBy (run.means input turns).stands answer

-- over each input the meaning ends or traps, within some number of turns
abbrev pub ComesToEnd : Run → Type 0
ComesToEnd run = (input : List ℕ) → (turns : ℕ) × (answer : Status) × IsToldBy (run.means input turns).stands answer

-- a print may fail, and the disk, where the run is over a store
abbrev pub run_faults : Option (List ℕ) → Work → Status → Type 0
run_faults None = out_faults
run_faults (Some name) = λ work answer. out_faults work answer ⊎ disk_faults work answer

-- THE stage in which a run goes to its end
abbrev pub ended : Run → Stage Status
ended run = record { passes = Ends run; refuses = Never; fails = run_faults run.store; mounts = Never }

-- ---- what stands meanwhile, and at the end

-- nothing is run: a stage before it doesn't pass, whatever the answer
abbrev pub RunsNothing : Stage Run → Work → Type 0
RunsNothing stage work = (run : Run) → stage.passes work run → ⊥

-- THE run at each moment.
pub record MayRun (stage : Stage Run) (work : Work) (answer : Status) (s : State) : Type 0 where
  -- Some prefix of the events was made.
  pub tied : IsTold work → (run : Run) → stage.passes work run → StoodFor run (now work.before) →
      Leaves run.store (IsTied run (now work.before)) s
  -- Where nothing is run all is left as it was, whatever the answer, and so it is by a refusal.
  pub idle : RunsNothing stage work ⊎ IsTrue (is_refusal answer) → IsUntouched (now work.before) s
  -- So far no run takes input.
  pub input : s.input ≡ (now work.before).input

-- One prefix of the events was made, and whatever a stop leaves is of that one.
pub record SomeWereMade (run : Run) (old s : State) : Type 0 where
  pub made : List Event
  pub may : MayHaveMade (run.means old.input) made
  pub left : Leaves run.store (WereMade run old made) s

-- THE run at its end.
pub record EndsRun (stage : Stage Run) (work : Work) (answer : Status) (s : State) : Type 0 where
  -- A run that ended or trapped has made all its events.
  pub whole : IsTold work → (run : Run) → stage.passes work run → TellsOfEnd answer →
      Leaves run.store (IsWhole run (now work.before) answer s.input) s
  -- Unless the disk failed no transaction is half there: before its last sync no other answer comes.
  pub at_rest : IsTold work → (run : Run) → stage.passes work run → StoodFor run (now work.before) →
      answer ≢ status.DiskFault → SomeWereMade run (now work.before) s
  -- A run that ended or trapped has made sure of the pages of its store.
  pub pages : IsTold work → TellsOfEnd answer → (name : List ℕ) → stage.mounts work name →
      (store_of s name).pages ≡ settled (store_before name work).pages.now
  -- What is refused once the store may be mounted, is so only when it was made sure of.
  pub settled : IsTold work → stage.refuses work answer → (name : List ℕ) → stage.mounts work name →
      store_of s name ≡ made_sure (store_before name work)

-- THE promise of a command that runs what these stages pass with
abbrev pub running : Stage Run → Promise
running stage = record { due = stage >>= ended; runs = stage.passes; may = MayRun stage; ends = EndsRun stage }

-- THE promise of a command that only reads
abbrev pub reading : Stage Status → Promise
reading stage = record {
  due = stage;
  runs = Never;
  may = λ work answer s. IsUntouched (now work.before) s;
  ends = λ work answer s. Unit {0};
}
