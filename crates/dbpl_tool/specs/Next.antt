-- Two commands, one behind the other. The first leaves a store over which the second may run, with no premise on what
-- stood there.
use Rattle.std.specs.Prelude.{◌≡◌, ◌⊎◌, ℕ, List, Some}
use Rattle.dbpl_base.specs.declared.status.Status.{Status}
use Rattle.dbpl_base.specs.declared.status.Status.TheVariants as status
use Rattle.dbpl_core.specs.Outcomes.{TellsOfEnd}
use Rattle.dbpl_promise.specs.Runs.{IsTiedThroughout, Run}
use Rattle.dbpl_promise.specs.Work.{Work}
use Rattle.dbpl_stored_modes.specs.Images.{StandsThere}
use Rattle.dbpl_tool.specs.Commands.{AnswersWords, Runs}
use Rattle.dbpl_value.specs.declared.bound.Bound.{Bound}
use Rattle.dbpl_words.specs.Asked.{Asks, Create, Run as RunOver}
use Rattle.dbpl_world.specs.History.{History, now}
use Rattle.dbpl_world.specs.declared.counts.Counts.{Counts}

-- the words ask for this store to be made, and it was, or for a run over it, and that came to its end
abbrev pub LeavesStore : List (List ℕ) → List ℕ → Status → Type 0
LeavesStore words store answer =
    (Asks words (Create store) × (answer ≡ status.Done))
    ⊎ ((schema program : List ℕ) × Asks words (RunOver store schema program) × TellsOfEnd answer)

-- There is a moment up to which the first command gave its answer, and from which on the second one does.
pub record FollowsOn (words next : List (List ℕ)) (work : Work) (answer next_answer : Status) : Type 0 where
  pub history : History
  pub counts : Counts
  pub shelf_faults : ℕ
  pub first : AnswersWords words
      (record work { after = history; counts_after = counts; shelf_faults_after = shelf_faults }) answer
  pub second : AnswersWords next
      (record work { before = history; counts_before = counts; shelf_faults_before = shelf_faults }) next_answer
  -- Each image of a store that the first one left stands for one database ..
  pub stood : (store : List ℕ) → LeavesStore words store answer →
      (database : List Bound) × StandsThere store (now history) database
  -- .. and so THE HEADLINE holds of the second over it.
  pub tied : (store : List ℕ) → LeavesStore words store answer → (run : Run) → run.store ≡ Some store →
      Runs next (record work { before = history }) run → IsTiedThroughout run (record work { before = history })
