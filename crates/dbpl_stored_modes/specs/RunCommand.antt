-- THE command `run` of two files over a store.
use Rattle.std.specs.Prelude.{◌≡◌, ℕ, List, [], ◌∷◌, Some}
use Rattle.dbpl_base.specs.declared.status.Status.{Status}
use Rattle.dbpl_base.specs.declared.status.Status.TheVariants as status
use Rattle.dbpl_promise.specs.Opening.{all_bound, named, opened}
use Rattle.dbpl_promise.specs.Runs.{Run}
use Rattle.dbpl_promise.specs.Stages.{Never, Stage, gives, ◌>>=◌}
use Rattle.dbpl_promise.specs.Work.{Work}
use Rattle.dbpl_sources.specs.Fetching.{all_fetched}
use Rattle.dbpl_stored_form.specs.Texts.{IsRefused, IsStored}
use Rattle.dbpl_stored_program.specs.Meaning.{meaning}
use Rattle.dbpl_stored_program.specs.declared.stored_program.StoredProgram.{StoredProgram}

-- these are two texts, and they are this program
abbrev pub AreProgram : List (List ℕ) → StoredProgram → Type 0
AreProgram texts stored = (schema program : List ℕ) × (texts ≡ schema ∷ program ∷ []) × IsStored schema program stored

-- these are two texts, and they are refused
abbrev pub AreNoProgram : List (List ℕ) → Work → Status → Type 0
AreNoProgram texts work (status.Refused place rule) =
    (schema program : List ℕ) × (texts ≡ schema ∷ program ∷ []) × IsRefused schema program place rule
AreNoProgram texts work _ = ⊥

-- THE stage in which two texts have to be a program over a store
abbrev pub accepted_texts : List (List ℕ) → Stage StoredProgram
accepted_texts texts = record {
  passes = λ work stored. AreProgram texts stored;
  refuses = AreNoProgram texts;
  fails = Never;
  mounts = Never;
}

-- THE stages in which the files are read
abbrev pub reads_program : List ℕ → List ℕ → Stage StoredProgram
reads_program schema program = do
  texts ← all_fetched (schema ∷ program ∷ [])
  accepted_texts texts

-- THE stages of a run of this program
abbrev pub runs_program : List ℕ → StoredProgram → Stage Run
runs_program store stored = do
  _ ← named store
  database ← opened store
  bound ← all_bound (stored.relation ∷ []) database
  gives (record { store = Some store; database = database; means = meaning stored bound })

-- THE row: what is run, or why nothing is
abbrev pub runs_over : List ℕ → List ℕ → List ℕ → Stage Run
runs_over store schema program = do
  stored ← reads_program schema program
  runs_program store stored
