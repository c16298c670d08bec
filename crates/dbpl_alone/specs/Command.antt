-- THE command `run` of one file, without a store.
use Rattle.std.specs.Prelude.{ℕ, List, [], None}
use Rattle.dbpl_alone.specs.Meaning.{module_meaning}
use Rattle.dbpl_alone.specs.Modules.{IsModule, IsRefused}
use Rattle.dbpl_alone.specs.declared.program.Program.{Program}
use Rattle.dbpl_base.specs.declared.status.Status.{Status}
use Rattle.dbpl_base.specs.declared.status.Status.TheVariants as status
use Rattle.dbpl_promise.specs.Runs.{Run}
use Rattle.dbpl_promise.specs.Stages.{Never, Stage, gives, ◌>>=◌}
use Rattle.dbpl_promise.specs.Work.{Work}
use Rattle.dbpl_sources.specs.Fetching.{fetched}

abbrev pub IsNotAModule : List ℕ → Work → Status → Type 0
IsNotAModule text work (status.Refused place rule) = IsRefused text place rule
IsNotAModule text work _ = ⊥

-- THE stage in which a text has to be a module that can be run
abbrev pub accepted : List ℕ → Stage Program
accepted text = record {
  passes = λ work program. IsModule text program;
  refuses = IsNotAModule text;
  fails = Never;
  mounts = Never;
}

-- THE row: what is run, or why nothing is
abbrev pub runs_alone : List ℕ → Stage Run
runs_alone file = do
  text ← fetched file
  program ← accepted text
  gives (record { store = None; database = []; means = module_meaning program })
