-- What the places between the parentheses of a call ask for.
use Rattle.std.specs.Prelude.{ℕ, if◌then◌else◌, List, [], ◌∷◌, map, Option, Some, None}
use Rattle.dbpl_rules_calls.specs.Rules.{is_count_of}
use Rattle.dbpl_rules_calls.specs.declared.asked.Asked.{Asked}
use Rattle.dbpl_rules_calls.specs.declared.asked.Asked.TheVariants as asks
use Rattle.dbpl_symbols.specs.declared.decl.Decl.{Decl, Decl-F, out-Decl}
use Rattle.dbpl_symbols.specs.declared.decl.Decl.TheOpen as decls
use Rattle.dbpl_symbols.specs.declared.standard_procedure.StandardProcedure.{StandardProcedure}
use Rattle.dbpl_symbols.specs.declared.standard_procedure.StandardProcedure.TheVariants as standard
use Rattle.dbpl_value.specs.declared.head.Head.{Head}
use Rattle.dbpl_value.specs.declared.param.Param.{Param}

abbrev pub parameter_asks : Param → Asked
parameter_asks param = if param.by_ref then asks.Variable param.kind else asks.Value param.kind

abbrev pub standard_asks : StandardProcedure → List Asked
standard_asks standard.Val = asks.Kind ∷ asks.Standard standard.Val ∷ []
standard_asks standard.Min = asks.Kind ∷ []
standard_asks standard.Max = asks.Kind ∷ []
standard_asks standard.Inc = asks.Counted ∷ asks.Standard standard.Inc ∷ []
standard_asks standard.Dec = asks.Counted ∷ asks.Standard standard.Dec ∷ []
standard_asks standard.Halt = []
standard_asks standard.Abort = []
standard_asks which = asks.Standard which ∷ []

abbrev pub heading_asks : Option Head → List Asked
heading_asks None = asks.Characters ∷ []
heading_asks (Some head) = map parameter_asks head.params

abbrev pub asked_level : {D E P : Type 0} → Decl-F D E P → ℕ → List Asked
asked_level (decls.Routine owner head) count = heading_asks (Some head)
asked_level (decls.InOut which head) count = heading_asks head
asked_level (decls.Standard which) count = if is_count_of which count then standard_asks which else []
asked_level _ count = []

-- THE places of a call with so many arguments, in their order. Of a standard procedure that has another number of arguments
-- nothing is asked; nor is it of an argument for which there is no place.
abbrev pub asked : Decl → ℕ → List Asked
asked decl count = asked_level (out-Decl decl) count

-- the same of a call whose name is unknown or refused: nothing is asked
abbrev pub asked_by : Option Decl → ℕ → List Asked
asked_by None count = []
asked_by (Some decl) count = asked decl count
