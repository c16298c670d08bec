-- What is run, and that it makes its events in order: THE headline.
use Rattle.std.specs.Prelude.{◌≡◌, ◌≤◌, ℕ, List, [], ◌++◌, Option, None, Some}
use Rattle.dbpl_base.specs.declared.status.Status.{Status}
use Rattle.dbpl_core.specs.Events.{Event, last, prints}
use Rattle.dbpl_core.specs.Outcomes.{IsToldBy, MayHaveMade, Outcome}
use Rattle.dbpl_promise.specs.Work.{Work}
use Rattle.dbpl_store.specs.Stands.{stands}
use Rattle.dbpl_value.specs.declared.bound.Bound.{Bound}
use Rattle.dbpl_world.specs.History.{History, State, now}
use Rattle.dbpl_world.specs.Moments.{LeavesOnlyAt, Might, clock, state_at}

-- What is run: the store that it is over, if it is over one, the database that stood there, and what it comes to over an
-- input within so many turns. A run over no store is over the empty database.
pub record Run : Type 0 where
  pub store : Option (List ℕ)
  pub database : List Bound
  pub means : List ℕ → ℕ → Outcome

-- ---- what a stop leaves: a database or none, with the bytes said

-- each image of the store, and the bytes said; without a store the empty database, and the bytes said
abbrev pub Leaves : Option (List ℕ) → (Option (List Bound) → List ℕ → Type 0) → State → Type 0
Leaves (Some name) P s = LeavesOnlyAt name (λ log pages said. P (stands log pages) said) s
Leaves None P s = P (Some []) s.said

-- A stop at some moment since t could have left the store so that it stands for this, and with these bytes said.
abbrev pub Left : Option (List ℕ) → History → ℕ → Option (List Bound) → List ℕ → Type 0
Left (Some name) h t found said = (log pages : List ℕ) × Might h name t log pages said × (found ≡ stands log pages)
Left None h t found said =
    (moment : ℕ) × (t ≤ moment) × (moment ≤ clock h) × (found ≡ Some []) × (said ≡ (state_at h moment).said)

-- ---- the headline

-- whatever a stop leaves stands for the database that is run over
abbrev pub StoodFor : Run → State → Type 0
StoodFor run s = Leaves run.store (λ found said. found ≡ Some run.database) s

-- These events were made since old: their prints were said behind the bytes before, and their last commit is the database
-- that was found. Where there is none among them, that is the database that is run over.
pub record WereMade (run : Run) (old : State) (made : List Event) (found : Option (List Bound)) (said : List ℕ)
    : Type 0 where
  pub printed : said ≡ old.said ++ prints made
  pub stored : found ≡ Some (last made run.database)

-- Some prefix of the events that the meaning gives within some number of turns was made since old.
pub record IsTied (run : Run) (old : State) (found : Option (List Bound)) (said : List ℕ) : Type 0 where
  pub made : List Event
  pub may : MayHaveMade (run.means old.input) made
  pub has : WereMade run old made found said

-- Within some number of turns the meaning ends as the answer tells, all its events were made since old, and the input left
-- is the one that it left.
pub record IsWhole (run : Run) (old : State) (answer : Status) (left : List ℕ) (found : Option (List Bound)) (said : List ℕ)
    : Type 0 where
  pub turns : ℕ
  pub ends : IsToldBy (run.means old.input turns).stands answer
  pub has : WereMade run old (run.means old.input turns).events found said
  pub left_is : left ≡ (run.means old.input turns).left

-- THE HEADLINE: whatever a stop at any moment of the work could leave of the store, and the bytes said by then, are those of
-- one prefix of the events.
abbrev pub IsTiedThroughout : Run → Work → Type 0
IsTiedThroughout run work = (found : Option (List Bound)) (said : List ℕ) →
    Left run.store work.after (clock work.before) found said → IsTied run (now work.before) found said

-- THE HEADLINE of a run to its end: from then on it is the whole list.
abbrev pub IsWholeFromThen : Run → Work → Status → Type 0
IsWholeFromThen run work answer = (found : Option (List Bound)) (said : List ℕ) →
    Left run.store work.after (clock work.after) found said →
    IsWhole run (now work.before) answer (now work.after).input found said
