-- What the parts of a run of one file answer.
use Rattle.std.specs.Prelude.{◌≡◌, ℕ, List}
use Rattle.dbpl_alone.specs.Modules.{IsModule, IsRefused}
use Rattle.dbpl_alone.specs.declared.program.Program.{Program}
use Rattle.dbpl_base.specs.declared.status.Status.{Status}
use Rattle.dbpl_base.specs.declared.status.Status.TheVariants as status

-- the module of this text, and the only one
pub record IsTheModule (text : List ℕ) (program : Program) : Type 0 where
  pub spelt : IsModule text program
  pub only : (other : Program) → IsModule text other → other ≡ program

-- why a text was not read, by cases on the answer; no other answer comes
abbrev pub IsNotRead : List ℕ → Status → Type 0
IsNotRead text (status.Refused place rule) = IsRefused text place rule
IsNotRead text status.Memory = Unit {0}
IsNotRead text _ = ⊥

-- the answers of runs that print nothing
abbrev pub IsSilent : Status → Type 0
IsSilent status.Done = ⊥
IsSilent status.OutFault = ⊥
IsSilent _ = Unit {0}
