-- A command whose first stages were passed, and that then kept the promise of the others, kept the promise of all.
use Rattle.std.proofs.Common.{◌⊎◌, ℕ, List, IsTrue, inl, inr, subst}
use Rattle.dbpl_base.specs.declared.status.Status.{Status}
use Rattle.dbpl_promise.proofs.Leaving.{alone_more}
use Rattle.dbpl_promise.specs.Promises.{Answered, LeavesAlone, Promise}
use Rattle.dbpl_promise.specs.Refusals.{is_refusal}
use Rattle.dbpl_promise.specs.Running.{EndsRun, MayRun, RunsNothing, ended, reading, running}
use Rattle.dbpl_promise.specs.Runs.{Run}
use Rattle.dbpl_promise.specs.Stages.{IsDetermined, IsDue, MayAnswer, Stage, Stops, ◌>>=◌}
use Rattle.dbpl_promise.specs.Work.{IsTold, Work}
use Rattle.dbpl_world.proofs.Moments.{moments_weaken}
use Rattle.dbpl_world.specs.History.{State, now}

-- What one promise holds, another does that allows as much.
module _ (from to : Promise) (work : Work) (answer : Status)
    (answers : MayAnswer from.due work answer → MayAnswer to.due work answer)
    (mounts : (name : List ℕ) → from.due.mounts work name → to.due.mounts work name)
    (may : (s : State) → from.may work answer s → to.may work answer s)
    (ends : (s : State) → from.ends work answer s → to.ends work answer s) where
  pub carried : Answered from work answer → Answered to work answer
  carried did = record {
    answers = answers did.answers;
    moments = λ tells.
        moments_weaken (from.may work answer) (to.may work answer) work.before work.after may (did.moments tells);
    end = λ tells. ends (now work.after) (did.end tells);
    only = λ tells.
        moments_weaken (LeavesAlone (from.due.mounts work) (now work.before))
        (LeavesAlone (to.due.mounts work) (now work.before)) work.before work.after
        (alone_more (from.due.mounts work) (to.due.mounts work) mounts (now work.before)) (did.only tells);
    prints = did.prints;
    disk = did.disk;
    source = did.source;
  }

-- a stage, and the rest of those of a command
module _ {A : Type 0} (stage : Stage A) (next : A → Stage Status) (work : Work) (answer : Status) where
  pub answers_stop : Stops stage work answer → MayAnswer (stage >>= next) work answer
  answers_stop (inl refuses) = inl (inl (inl refuses))
  answers_stop (inr (inl fault)) = inr (inl (inl fault))
  answers_stop (inr (inr memory)) = inr (inr memory)

  module _ (a : A) (passes : stage.passes work a) where
    pub answers_behind : MayAnswer (next a) work answer → MayAnswer (stage >>= next) work answer
    answers_behind (inl (inl refuses)) = inl (inl (inr (a, passes, refuses)))
    answers_behind (inl (inr then)) = inl (inr (a, passes, then))
    answers_behind (inr (inl fault)) = inr (inl (inr (a, passes, fault)))
    answers_behind (inr (inr memory)) = inr (inr memory)

    pub reading_behind : Answered (reading (next a)) work answer → Answered (reading (stage >>= next)) work answer
    reading_behind =
        carried (reading (next a)) (reading (stage >>= next)) work answer answers_behind
        (λ name here. inr (a, passes, here)) (λ s may. may) (λ s end. end)

-- the stages of a run
module _ {A : Type 0} (stage : Stage A) (next : A → Stage Run) (work : Work) (answer : Status) (a : A)
    (passes : stage.passes work a) (first : IsTold work → IsDetermined stage work)
    (unmounted : (name : List ℕ) → stage.mounts work name → ⊥) where
  due : IsDue (next a >>= ended) work answer → IsDue ((stage >>= next) >>= ended) work answer
  due (inl (inl refuses)) = inl (inl (inr (a, passes, refuses)))
  due (inl (inr ends)) = absurd ends.2
  due (inr ends) = inr (ends.0, (a, passes, ends.1), ends.2)

  fails : (next a >>= ended).fails work answer → ((stage >>= next) >>= ended).fails work answer
  fails (inl before) = inl (inr (a, passes, before))
  fails (inr within) = inr (within.0, (a, passes, within.1), within.2)

  answers : MayAnswer (next a >>= ended) work answer → MayAnswer ((stage >>= next) >>= ended) work answer
  answers (inl is) = inl (due is)
  answers (inr (inl fault)) = inr (inl (fails fault))
  answers (inr (inr memory)) = inr (inr memory)

  mounts : (name : List ℕ) → (next a >>= ended).mounts work name → ((stage >>= next) >>= ended).mounts work name
  mounts name (inl before) = inl (inr (a, passes, before))
  mounts name (inr within) = absurd within.2

  -- what the next ones pass with is what all pass with
  behind : IsTold work → (run : Run) → (stage >>= next).passes work run → (next a).passes work run
  behind told run all = subst (λ x. (next x).passes work run) ((first told).one all.0 a all.1 passes) all.2

  -- a refusal of all is one of the next ones
  refused : IsTold work → (stage >>= next).refuses work answer → (next a).refuses work answer
  refused told (inl refuses) = absurd ((first told).apart a answer passes refuses)
  refused told (inr then) = subst (λ x. (next x).refuses work answer) ((first told).one then.0 a then.1 passes) then.2

  mounted : IsTold work → (name : List ℕ) → (stage >>= next).mounts work name → (next a).mounts work name
  mounted told name (inl here) = absurd (unmounted name here)
  mounted told name (inr then) = subst (λ x. (next x).mounts work name) ((first told).one then.0 a then.1 passes) then.2

  may : (s : State) → MayRun (next a) work answer s → MayRun (stage >>= next) work answer s
  may s m = record {
    tied = λ told run all stood. m.tied told run (behind told run all) stood;
    idle = λ why. m.idle (nothing why);
    input = m.input;
  }
    where
      nothing : RunsNothing (stage >>= next) work ⊎ IsTrue (is_refusal answer) → RunsNothing (next a) work ⊎ IsTrue (is_refusal answer)
      nothing (inl none) = inl (λ run then. none run (a, passes, then))
      nothing (inr refusal) = inr refusal

  ends : (s : State) → EndsRun (next a) work answer s → EndsRun (stage >>= next) work answer s
  ends s e = record {
    whole = λ told run all tells. e.whole told run (behind told run all) tells;
    at_rest = λ told run all stood fine. e.at_rest told run (behind told run all) stood fine;
    pages = λ told tells name may. e.pages told tells name (mounted told name may);
    settled = λ told refuses name may. e.settled told (refused told refuses) name (mounted told name may);
  }

  pub in_front : Answered (running (next a)) work answer → Answered (running (stage >>= next)) work answer
  in_front = carried (running (next a)) (running (stage >>= next)) work answer answers mounts may ends
