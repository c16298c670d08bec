-- The stages in which the files of a command are fetched.
use Rattle.std.specs.Prelude.{◌≡◌, ℕ, List, [], ◌∷◌}
use Rattle.dbpl_base.specs.declared.status.Status.{Status}
use Rattle.dbpl_base.specs.declared.status.Status.TheVariants as status
use Rattle.dbpl_promise.specs.Faults.{source_faults}
use Rattle.dbpl_promise.specs.Stages.{Never, Stage, gives, ◌>>=◌}
use Rattle.dbpl_promise.specs.Work.{Work}
use Rattle.dbpl_sources.specs.Sources.{IsAbsent, IsTooLong}
use Rattle.dbpl_sources.specs.Texts.{MayHave}

-- the file isn't there, or its text passes the limit
abbrev pub IsUnreadable : List ℕ → Work → Status → Type 0
IsUnreadable file work (status.Absent name) = (name ≡ file) × IsAbsent work.files file
IsUnreadable file work (status.TooLong name) = (name ≡ file) × IsTooLong work.files file
IsUnreadable file work _ = ⊥

-- THE stage in which a file is fetched; it passes with its text
abbrev pub fetched : List ℕ → Stage (List ℕ)
fetched file = record {
  passes = λ work text. MayHave work.files file text;
  refuses = IsUnreadable file;
  fails = source_faults;
  mounts = Never;
}

-- THE stage in which these are fetched in their order: the first that can't be read is refused
abbrev pub all_fetched : List (List ℕ) → Stage (List (List ℕ))
all_fetched [] = gives []
all_fetched (file ∷ files) = do
  text ← fetched file
  texts ← all_fetched files
  gives (text ∷ texts)
