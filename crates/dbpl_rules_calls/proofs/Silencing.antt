-- That what is resolved of arguments and calls breaks no rule.
use Rattle.std.proofs.Common.{ℕ, Bool, true, false, List, refl}
use Rattle.dbpl_base.specs.declared.place.Place.{Place}
use Rattle.dbpl_judging.proofs.Silencing.{after_silences, asks_silences, both_silences, good_silences, unbuilt_silences}
use Rattle.dbpl_judging.specs.Silences.{Silences}
use Rattle.dbpl_judging.specs.declared.typed.Typed.{Typed}
use Rattle.dbpl_rules_calls.specs.Arguments.{built_where, characters_argument, counted_argument, is_built, kind_argument, standard_argument, value_argument, variable_argument}
use Rattle.dbpl_rules_calls.specs.Results.{called, function_rules}
use Rattle.dbpl_rules_calls.specs.declared.argument.Argument.{Argument}
use Rattle.dbpl_rules_calls.specs.declared.denoted.Denoted.{Denoted}
use Rattle.dbpl_symbols.specs.declared.decl.Decl.{Decl, Decl-F}
use Rattle.dbpl_symbols.specs.declared.decl.Decl.TheOpen as decls
use Rattle.dbpl_symbols.specs.declared.standard_procedure.StandardProcedure.{StandardProcedure}
use Rattle.dbpl_value.specs.declared.db_type.DbType.{DbType}

-- ---- arguments

pub value_argument_silences : (t : DbType) (e : Typed) → Silences (value_argument t e)
unfolding value_argument
value_argument_silences t e = search (after_silences, asks_silences, good_silences)

pub variable_argument_silences : (t : DbType) (denoted : Denoted) → Silences (variable_argument t denoted)
unfolding variable_argument
variable_argument_silences t denoted = search (after_silences, asks_silences, good_silences)

built_where_silences : (test : Bool) → Silences (built_where test)
built_where_silences true = good_silences tt
built_where_silences false = unbuilt_silences

pub standard_argument_silences : (which : StandardProcedure) (e : Typed) → Silences (standard_argument which e)
unfolding standard_argument
standard_argument_silences which e = search (after_silences, asks_silences, built_where_silences, good_silences)

pub counted_argument_silences : (denoted : Denoted) → Silences (counted_argument denoted)
unfolding counted_argument
counted_argument_silences denoted = search (after_silences, asks_silences, good_silences)

pub kind_argument_silences : (at : Place) (t : DbType) → Silences (kind_argument at t)
unfolding kind_argument
kind_argument_silences at t = search (after_silences, asks_silences, good_silences)

pub characters_argument_silences : (e : Typed) → Silences (characters_argument e)
unfolding characters_argument
characters_argument_silences e = search (after_silences, asks_silences, good_silences)

-- ---- calls

pub function_rules_silences : (place : Place) (count : ℕ) (decl : Decl) → Silences (function_rules place count decl)
unfolding function_rules
function_rules_silences place count decl = search (after_silences, both_silences, asks_silences, good_silences)

pub called_silences : (place : Place) (decl : Decl) (given : List Argument) → Silences (called place decl given)
unfolding called
called_silences place decl given resolved is = refl
