-- From each moment of a run to whatever a stop might leave, also once its report is noted behind it.
use Rattle.std.proofs.Common.{◌≡◌, ◌∙◌, ◌++◌, ℕ, List, [], ◌∷◌, None, Option, Some, ap, map, subst, sym}
use Rattle.dbpl_base.specs.declared.status.Status.{Status}
use Rattle.dbpl_core.specs.Outcomes.{TellsOfEnd}
use Rattle.dbpl_promise.proofs.Rows.{IsRow}
use Rattle.dbpl_promise.specs.Promises.{Answered, Promise}
use Rattle.dbpl_promise.specs.Runs.{IsTied, IsTiedThroughout, IsWhole, IsWholeFromThen, Leaves, Left, Run, StoodFor}
use Rattle.dbpl_promise.specs.Work.{IsTold, Work}
use Rattle.dbpl_store.specs.Stands.{stands}
use Rattle.dbpl_value.specs.declared.bound.Bound.{Bound}
use Rattle.dbpl_world.proofs.Moments.{might_each, moment_each, moments_last, moments_start, moments_then, moments_weaken}
use Rattle.dbpl_world.proofs.Replays.{now-more, replay-noted}
use Rattle.dbpl_world.specs.History.{History, Noted, State, more, now, step}
use Rattle.dbpl_world.specs.Moments.{Always, EachMoment, clock, state_at}
use Rattle.dbpl_world.specs.declared.counts.Counts.{Counts}

-- ---- notes behind

module _ (Q : State → Type 0) (keeps : (s : State) (byte : ℕ) → Q s → Q (step s (Noted byte))) where
  always_noted : (s : State) (bytes : List ℕ) → Q s → Always Q s (map Noted bytes)
  always_noted s [] holds = holds
  always_noted s (byte ∷ bytes) holds = (holds, always_noted (step s (Noted byte)) bytes (keeps s byte holds))

  -- what a note keeps holds at each moment of the notes behind, too
  pub noted_on : (before between after : History) (bytes : List ℕ) → EachMoment Q before between →
      after ≡ more between (map Noted bytes) → EachMoment Q before after
  noted_on before between after bytes run is =
      moments_then Q before between after run (record {
        events = map Noted bytes;
        is = is;
        each = always_noted (now between) bytes (moments_last Q before between run);
      })

leaves_noted : (store : Option (List ℕ)) (P : Option (List Bound) → List ℕ → Type 0) (s : State) (byte : ℕ) → Leaves store P s →
    Leaves store P (step s (Noted byte))
leaves_noted None P s byte holds = holds
leaves_noted (Some name) P s byte holds = holds

-- what the world is behind notes
pub now_noted : (between after : History) (bytes : List ℕ) → after ≡ more between (map Noted bytes) →
    now after ≡ record (now between) { noted = (now between).noted ++ bytes }
now_noted between after bytes is = ap now is ∙ (now-more between (map Noted bytes) ∙ replay-noted (now between) bytes)

leaves_behind : (store : Option (List ℕ)) (P : State → Option (List Bound) → List ℕ → Type 0) (s : State) (noted : List ℕ) →
    Leaves store (P s) s → Leaves store (P s) (record s { noted = noted })
leaves_behind None P s noted holds = holds
leaves_behind (Some name) P s noted holds = holds

-- ---- whatever a stop might leave

left_each : (store : Option (List ℕ)) (P : Option (List Bound) → List ℕ → Type 0) (old new : History) →
    EachMoment (Leaves store P) old new → (found : Option (List Bound)) (said : List ℕ) → Left store new (clock old) found said →
    P found said
left_each (Some name) P old new run found said left =
    let holds : P (stands left.0 left.1) said =
    might_each (λ log pages said. P (stands log pages) said) name old new run left.0 left.1 said left.2 in
    subst (λ (f : Option (List Bound)). P f said) (sym left.3) holds
left_each None P old new run found said left =
    let holds : P (Some []) (state_at new left.0).said = moment_each (Leaves None P) old new run left.0 left.1 left.2 in
    subst (λ (f : Option (List Bound)). P f said) (sym left.3)
    (subst (λ (bytes : List ℕ). P (Some []) bytes) (sym left.4) holds)

module _ (promise : Promise) (row : IsRow promise) (work : Work) (answer : Status)
    (did : Answered promise work answer) (told : IsTold work) (run : Run)
    (runs : promise.runs work run) (after : History) (counts : Counts) (bytes : List ℕ)
    (behind : after ≡ more work.after (map Noted bytes)) where
  pub headline : StoodFor run (now work.before) → IsTiedThroughout run (record work { after = after; counts_after = counts })
  headline stood =
      left_each run.store (IsTied run (now work.before)) work.before after
      (noted_on (Leaves run.store (IsTied run (now work.before))) (leaves_noted run.store (IsTied run (now work.before)))
      work.before work.after after bytes
      (moments_weaken (promise.may work answer) (Leaves run.store (IsTied run (now work.before))) work.before work.after
      (λ s may. row.tied work answer s run told runs stood may) (did.moments told.world)) behind)

  whole_there : TellsOfEnd answer →
      Leaves run.store (IsWhole run (now work.before) answer (now work.after).input) (now work.after)
  whole_there ends = row.whole work answer (now work.after) run told runs ends (did.end told.world)

  whole_behind : TellsOfEnd answer → Leaves run.store (IsWhole run (now work.before) answer (now after).input) (now after)
  whole_behind ends =
      subst (λ (s : State). Leaves run.store (IsWhole run (now work.before) answer s.input) s)
      (sym (now_noted work.after after bytes behind))
      (leaves_behind run.store (λ s. IsWhole run (now work.before) answer s.input) (now work.after)
      ((now work.after).noted ++ bytes) (whole_there ends))

  pub whole : TellsOfEnd answer → IsWholeFromThen run (record work { after = after; counts_after = counts }) answer
  whole ends =
      left_each run.store (IsWhole run (now work.before) answer (now after).input) after after
      (moments_start (Leaves run.store (IsWhole run (now work.before) answer (now after).input)) after (whole_behind ends))
