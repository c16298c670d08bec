-- Arguments: what a judged phrase is where a place of a call asks for it.
use Rattle.std.specs.Prelude.{Bool, true, false}
use Rattle.dbpl_base.specs.declared.place.Place.{Place}
use Rattle.dbpl_core.specs.declared.expr.CoreExpr.{CoreExpr}
use Rattle.dbpl_judging.specs.Judgements.{Judged, asks, good, unbuilt, ◌>>◌}
use Rattle.dbpl_judging.specs.declared.typed.Typed.{Typed}
use Rattle.dbpl_rules_calls.specs.Rules.{S37, S38, S40, S40_characters, S40_type}
use Rattle.dbpl_rules_calls.specs.declared.argument.Argument.{Argument}
use Rattle.dbpl_rules_calls.specs.declared.argument.Argument.TheVariants as arguments
use Rattle.dbpl_rules_calls.specs.declared.denoted.Denoted.{Denoted}
use Rattle.dbpl_rules_operators.specs.Fitting.{as_ordinal, fitted}
use Rattle.dbpl_symbols.specs.declared.standard_procedure.StandardProcedure.{StandardProcedure}
use Rattle.dbpl_symbols.specs.declared.standard_procedure.StandardProcedure.TheVariants as standard
use Rattle.dbpl_value.specs.declared.db_type.DbType.{DbType}
use Rattle.dbpl_value.specs.declared.db_type.DbType.TheVariants as types

-- the phrase with this tree, for a place that asks for its value
abbrev pub valued : CoreExpr → Typed → Argument
valued tree e = arguments.Value (record e { tree = tree })

-- for a parameter that stands for a value
unfoldable pub value_argument : DbType → Typed → Judged Argument
value_argument t e = asks 37 e.facts.place (S37 t e.facts) >> good (valued (fitted t e) e)

-- for a VAR parameter
unfoldable pub variable_argument : DbType → Denoted → Judged Argument
variable_argument t denoted = asks 38 denoted.designator.place (S38 t denoted) >> good (arguments.Variable denoted)

-- the argument of ABS is tested for its fit
abbrev pub standard_tree : StandardProcedure → Typed → CoreExpr
standard_tree standard.Abs e = fitted types.Int e
standard_tree _ e = as_ordinal e

-- CARD isn't built yet
abbrev pub is_built : StandardProcedure → Bool
is_built standard.Card = false
is_built _ = true

abbrev pub built_where : Bool → Judged (Unit {0})
built_where true = good tt
built_where false = unbuilt

-- for a standard procedure
unfoldable pub standard_argument : StandardProcedure → Typed → Judged Argument
standard_argument which e =
    asks 40 e.facts.place (S40 which e.facts) >> built_where (is_built which) >> good (valued (standard_tree which e) e)

-- for INC and DEC, which change it: that it may be changed is asked where it is denoted
unfoldable pub counted_argument : Denoted → Judged Argument
counted_argument denoted = asks 40 denoted.designator.place (S40_type denoted.kind) >> good (arguments.Variable denoted)

-- the name of a type, which stands at this place, for MIN, MAX and VAL
unfoldable pub kind_argument : Place → DbType → Judged Argument
kind_argument place t = asks 40 place (S40_type t) >> good (arguments.Kind t)

-- for WriteString, which prints a string as it stands: that needs no type of array
unfoldable pub characters_argument : Typed → Judged Argument
characters_argument e = asks 40 e.facts.place (S40_characters e.facts.kind) >> good (valued e.tree e)
