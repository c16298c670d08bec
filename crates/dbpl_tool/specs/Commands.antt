-- What each command promises, by what is asked.
use Rattle.std.specs.Prelude.{◌≡◌, ℕ, IsTrue, List, map}
use Rattle.dbpl_alone.specs.Command.{runs_alone}
use Rattle.dbpl_base.specs.declared.status.Status.{Status}
use Rattle.dbpl_base.specs.declared.status.Status.TheVariants as status
use Rattle.dbpl_promise.specs.Promises.{Answered, Promise}
use Rattle.dbpl_promise.specs.Running.{running}
use Rattle.dbpl_promise.specs.Runs.{Run}
use Rattle.dbpl_promise.specs.Work.{OnlyNotes, Work}
use Rattle.dbpl_stored_modes.specs.CreateCommand.{creates}
use Rattle.dbpl_stored_modes.specs.RunCommand.{runs_over}
use Rattle.dbpl_tool.specs.Notes.{NotesReport, OnlyCommandFaults, Reports}
use Rattle.dbpl_words.specs.Asked.{Asked, Asks, Create, Run as RunOver, RunAlone}
use Rattle.dbpl_world.specs.Counts.{OnlyNoteFaults}
use Rattle.dbpl_world.specs.History.{History, Noted, more}
use Rattle.dbpl_world.specs.declared.counts.Counts.{Counts}

-- THE promise of each command
abbrev pub promise_of : Asked → Promise
promise_of (RunAlone file) = running (runs_alone file)
promise_of (Create store) = creates store
promise_of (RunOver store schema program) = running (runs_over store schema program)

-- the words ask for a run, and in this work this is what is run
abbrev pub Runs : List (List ℕ) → Work → Run → Type 0
Runs words work run = (asked : Asked) × Asks words asked × (promise_of asked).runs work run

-- The command did what P says, and then its report was noted, or a front of it where a note failed; nothing else came
-- behind.
pub record IsReported (P : Work → Status → Type 0) (work : Work) (answer : Status) : Type 0 where
  pub between : History
  pub counts_between : Counts
  pub noted : List ℕ
  pub did : P (record work { after = between; counts_after = counts_between }) answer
  pub reports : Reports counts_between work.counts_after answer noted
  pub counts : OnlyNoteFaults counts_between work.counts_after
  pub behind : IsTrue work.tells → work.after ≡ more between (map Noted noted)

-- what the words ask for was promised, and the promise is kept
abbrev pub Keeps : List (List ℕ) → Work → Status → Type 0
Keeps words work answer = (asked : Asked) → Asks words asked → IsReported (Answered (promise_of asked)) work answer

-- THE answer to these words: what they ask for is kept, and words that ask for nothing, and no others, are bad words, after
-- which nothing was done but that the report was noted.
pub record AnswersWords (words : List (List ℕ)) (work : Work) (answer : Status) : Type 0 where
  pub keeps : Keeps words work answer
  pub bad_words : ((asked : Asked) → Asks words asked → ⊥) → answer ≡ status.BadWords
  pub bad_words_only : answer ≡ status.BadWords → (asked : Asked) → Asks words asked → ⊥
  pub idle : answer ≡ status.BadWords → OnlyNotes work
  pub noted : NotesReport work answer
  pub counts : OnlyCommandFaults work.counts_before work.counts_after
