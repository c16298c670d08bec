-- A command that stopped in its stages, with nothing done, kept its promise.
use Rattle.std.proofs.Common.{◌≡◌, ◌⊎◌, ℕ, List, ap, inl, inr, refl, subst}
use Rattle.dbpl_base.specs.declared.status.Status.{Status}
use Rattle.dbpl_base.specs.declared.status.Status.TheVariants as status
use Rattle.dbpl_core.specs.Outcomes.{TellsOfEnd}
use Rattle.dbpl_promise.proofs.AnswerKinds.{Fault, HasKinds, end_kind, kind_of}
use Rattle.dbpl_promise.proofs.Leaving.{some_here, tied_here, untouched_here}
use Rattle.dbpl_promise.proofs.Still.{IsStill, kept_still}
use Rattle.dbpl_promise.specs.Promises.{Answered}
use Rattle.dbpl_promise.specs.Running.{EndsRun, MayRun, ended, running}
use Rattle.dbpl_promise.specs.Runs.{Run}
use Rattle.dbpl_promise.specs.Stages.{IsDetermined, MayAnswer, Stage, Stops, ◌>>=◌}
use Rattle.dbpl_promise.specs.Work.{IsTold, Work}
use Rattle.dbpl_world.specs.History.{now}

-- refused before a store may be mounted, or a fault or want of memory
abbrev pub StopsUnmounted : {A : Type 0} → Stage A → Work → Status → Type 0
StopsUnmounted stage work answer =
    (stage.refuses work answer × (IsTold work → (name : List ℕ) → stage.mounts work name → ⊥))
    ⊎ (stage.fails work answer ⊎ (answer ≡ status.Memory))

module _ (stage : Stage Run) (work : Work) (answer : Status) (kinds : HasKinds stage)
    (still : IsStill work answer) where
  due : StopsUnmounted stage work answer → MayAnswer (stage >>= ended) work answer
  due (inl refused) = inl (inl (inl refused.0))
  due (inr (inl fault)) = inr (inl (inl fault))
  due (inr (inr memory)) = inr (inr memory)

  no_end : StopsUnmounted stage work answer → TellsOfEnd answer → ⊥
  no_end (inl refused) ends = cc (kinds.refuses work answer refused.0, end_kind answer ends)
  no_end (inr (inl fault)) ends = cc (kinds.fails work answer fault, end_kind answer ends)
  no_end (inr (inr memory)) ends = subst TellsOfEnd memory ends

  memory_kind : answer ≡ status.Memory → kind_of answer ≡ Fault
  memory_kind memory = ap kind_of memory

  unmounted : StopsUnmounted stage work answer → IsTold work → stage.refuses work answer → (name : List ℕ) →
      stage.mounts work name → ⊥
  unmounted (inl refused) told refuses name mounts = refused.1 told name mounts
  unmounted (inr (inl fault)) told refuses name mounts = cc (kinds.refuses work answer refuses, kinds.fails work answer fault)
  unmounted (inr (inr memory)) told refuses name mounts = cc (kinds.refuses work answer refuses, memory_kind memory)

  may_here : MayRun stage work answer (now work.before)
  may_here = record {
    tied = λ told run passes stood. tied_here run (now work.before) stood;
    idle = λ why. untouched_here (now work.before);
    input = refl;
  }

  ends : StopsUnmounted stage work answer → EndsRun stage work answer (now work.before)
  ends why = record {
    whole = λ told run passes tells. absurd (no_end why tells);
    at_rest = λ told run passes stood fine. some_here run (now work.before) stood;
    pages = λ told tells name mounts. absurd (no_end why tells);
    settled = λ told refuses name mounts. absurd (unmounted why told refuses name mounts);
  }

  pub stopped : StopsUnmounted stage work answer → Answered (running stage) work answer
  stopped why = kept_still work answer still (running stage) (due why) may_here (ends why)

-- Where the first of its stages stopped, which mounts no store.
module _ {A : Type 0} (stage : Stage A) (next : A → Stage Run) (work : Work) (answer : Status)
    (unmounted : (name : List ℕ) → stage.mounts work name → ⊥) (first : IsTold work → IsDetermined stage work) where
  none_behind : stage.refuses work answer → IsTold work → (name : List ℕ) → (stage >>= next).mounts work name → ⊥
  none_behind refuses told name (inl here) = unmounted name here
  none_behind refuses told name (inr behind) = (first told).apart behind.0 answer behind.1 refuses

  pub stops_in_front : Stops stage work answer → StopsUnmounted (stage >>= next) work answer
  stops_in_front (inl refuses) = inl (inl refuses, none_behind refuses)
  stops_in_front (inr (inl fault)) = inr (inl (inl fault))
  stops_in_front (inr (inr memory)) = inr (inr memory)
