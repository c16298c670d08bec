-- What the stages of a run of one file do.
use Rattle.std.proofs.Common.{◌≡◌, ℕ, Bool, IsTrue, List, [], None, Option, Some, ap, inl, inr, refl, subst, sym}
use Rattle.dbpl_alone.proofs.MeaningLaws.{module_steady}
use Rattle.dbpl_alone.proofs.ModuleLaw.{module_or_refusal, one_module, one_refusal}
use Rattle.dbpl_alone.specs.Answers.{IsNotRead}
use Rattle.dbpl_alone.specs.Command.{IsNotAModule, accepted, runs_alone}
use Rattle.dbpl_alone.specs.Meaning.{module_meaning}
use Rattle.dbpl_alone.specs.Modules.{IsModule}
use Rattle.dbpl_alone.specs.declared.program.Program.{Program}
use Rattle.dbpl_base.specs.declared.place.Place.{Place}
use Rattle.dbpl_base.specs.declared.status.Status.{Status}
use Rattle.dbpl_base.specs.declared.status.Status.TheVariants as status
use Rattle.dbpl_core.specs.Outcomes.{IsSteady}
use Rattle.dbpl_promise.proofs.Determined.{given, joined}
use Rattle.dbpl_promise.proofs.InFront.{in_front}
use Rattle.dbpl_promise.proofs.AnswerKinds.{HasKinds, Refusal, kind_of, kinds_given, kinds_joined}
use Rattle.dbpl_promise.proofs.Rows.{BeginsAs, IsRow, at_beginning, running_row}
use Rattle.dbpl_promise.proofs.Stages.{running_determined}
use Rattle.dbpl_promise.proofs.Still.{IsStill}
use Rattle.dbpl_promise.proofs.Stopped.{stopped, stops_in_front}
use Rattle.dbpl_promise.specs.Opening.{StandsAs, store_before}
use Rattle.dbpl_promise.specs.Promises.{Answered}
use Rattle.dbpl_promise.specs.Running.{running}
use Rattle.dbpl_promise.specs.Runs.{Run}
use Rattle.dbpl_promise.specs.Stages.{IsDetermined, Stage, Stops, gives, ◌>>=◌}
use Rattle.dbpl_promise.specs.Work.{IsTold, Work}
use Rattle.dbpl_sources.proofs.Fetched.{fetched_determined, fetched_kinds}
use Rattle.dbpl_sources.specs.Fetching.{fetched}
use Rattle.dbpl_world.specs.Files.{Files}
use Rattle.dbpl_world.specs.History.{History}

-- the run of a module
abbrev pub run_of : Program → Run
run_of program = record { store = None; database = []; means = module_meaning program }

-- the stages behind the fetch
abbrev pub runs_text : List ℕ → Stage Run
runs_text text = accepted text >>= λ program. gives (run_of program)

-- ---- a text

no_module_kind : (text : List ℕ) (work : Work) (answer : Status) → IsNotAModule text work answer → kind_of answer ≡ Refusal
no_module_kind text work (status.Refused place rule) is = refl
no_module_kind text work _ is = absurd is

accepted_kinds : (text : List ℕ) → HasKinds (accepted text)
accepted_kinds text = record { refuses = no_module_kind text; fails = λ work answer never. absurd never }

refused_alike : (place other : Place) (rule another : ℕ) → (place ≡ other) × (rule ≡ another) →
    status.Refused place rule ≡ status.Refused other another
refused_alike place other rule another same = cc (same.0, same.1)

refusal : (text : List ℕ) (work : Work) (answer other : Status) → IsNotAModule text work answer → IsNotAModule text work other → answer ≡ other
refusal text work (status.Refused place rule) (status.Refused other another) left right =
    refused_alike place other rule another (one_refusal text place other rule another left right)
refusal text work (status.Refused place rule) _ left right = absurd right
refusal text work _ other left right = absurd left

apart : (text : List ℕ) (work : Work) (program : Program) (answer : Status) → IsModule text program → IsNotAModule text work answer → ⊥
apart text work program (status.Refused place rule) is refused = module_or_refusal text program place rule is refused
apart text work program _ is refused = absurd refused

accepted_determined : (text : List ℕ) (work : Work) → IsDetermined (accepted text) work
accepted_determined text work = record {
  one = λ a b left right. one_module text a b left right;
  refusal = refusal text work;
  apart = apart text work;
}

text_kinds : (text : List ℕ) → HasKinds (runs_text text)
text_kinds text =
    kinds_joined (accepted text) (λ program. gives (run_of program)) (accepted_kinds text) (λ program. kinds_given (run_of program))

text_determined : (text : List ℕ) (work : Work) → IsDetermined (runs_text text) work
text_determined text work =
    joined (accepted text) (λ program. gives (run_of program)) work (accepted_determined text work)
    (λ program passes. given work (run_of program))

-- none of them mounts a store
pub text_mounts : (text : List ℕ) (work : Work) (name : List ℕ) → (runs_text text).mounts work name → ⊥
text_mounts text work name (inl never) = never
text_mounts text work name (inr behind) = behind.2

-- ---- the whole

alone_kinds : (file : List ℕ) → HasKinds (runs_alone file)
alone_kinds file = kinds_joined (fetched file) runs_text (fetched_kinds file) text_kinds

pub alone_determined : (file : List ℕ) (work : Work) → IsTold work → IsDetermined (running (runs_alone file)).due work
alone_determined file work told =
    running_determined (runs_alone file) work
    (joined (fetched file) runs_text work (fetched_determined file work told.files) (λ text passes. text_determined text work))
    steady told.world
  where
    steady : (run : Run) → (runs_alone file).passes work run → (input : List ℕ) → IsSteady (run.means input)
    steady run (text, has, (program, is, same)) input =
        subst (λ (r : Run). IsSteady (r.means input)) (sym same) (module_steady program input)

pub alone_row : (file : List ℕ) → IsRow (running (runs_alone file))
alone_row file =
    running_row (runs_alone file) (alone_kinds file) (alone_determined file) (record { rests = rests; reads = reads })
  where
    rests : (work other : Work) (run : Run) → BeginsAs work other → (runs_alone file).passes work run →
        (runs_alone file).passes other run
    rests work other run =
        at_beginning
        (λ (files : Option Files) (tells : Bool) (before : History).
        (runs_alone file).passes (record other { files = files; tells = tells; before = before }) run)
        work other

    -- it is over no store
    reads : (work : Work) (run : Run) (store : List ℕ) → IsTrue work.tells → (runs_alone file).passes work run →
        run.store ≡ Some store → StandsAs run.database (store_before store work)
    reads work run store tells (text, has, (program, is, same)) over =
        absurd (cc (ap (λ (r : Run). r.store) same, over))

-- ---- a run that stopped with nothing done, or behind a text that was fetched

module _ (file : List ℕ) (work : Work) (answer : Status) where
  pub unfetched : Stops (fetched file) work answer → IsStill work answer → Answered (running (runs_alone file)) work answer
  unfetched stops still =
      stopped (runs_alone file) work answer (alone_kinds file) still
      (stops_in_front (fetched file) runs_text work answer (λ name never. never)
      (λ told. fetched_determined file work told.files) stops)

  pub behind_fetch : (text : List ℕ) → (fetched file).passes work text → Answered (running (runs_text text)) work answer →
      Answered (running (runs_alone file)) work answer
  behind_fetch text passes did =
      in_front (fetched file) runs_text work answer text passes (λ told. fetched_determined file work told.files)
      (λ name never. never) did

  not_read : (text : List ℕ) (a : Status) → IsNotRead text a → Stops (accepted text) work a
  not_read text (status.Refused place rule) is = inl is
  not_read text status.Memory is = inr (inr refl)
  not_read text _ is = absurd is

  pub unaccepted : (text : List ℕ) → (fetched file).passes work text → IsNotRead text answer → IsStill work answer →
      Answered (running (runs_alone file)) work answer
  unaccepted text passes is still =
      behind_fetch text passes
      (stopped (runs_text text) work answer (text_kinds text) still
      (stops_in_front (accepted text) (λ program. gives (run_of program)) work answer (λ name never. never)
      (λ told. accepted_determined text work) (not_read text answer is)))
