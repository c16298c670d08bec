-- That what operators, arguments and functions ask is exact.
use Rattle.std.proofs.Common.{ℕ, List}
use Rattle.dbpl_base.specs.declared.place.Place.{Place}
use Rattle.dbpl_core.specs.declared.arithmetic_operator.ArithmeticOperator.{ArithmeticOperator}
use Rattle.dbpl_core.specs.declared.logical_operator.LogicalOperator.{LogicalOperator}
use Rattle.dbpl_core.specs.declared.relation.Relation.{Relation}
use Rattle.dbpl_core.specs.declared.sign.Sign.{Sign}
use Rattle.dbpl_judging.specs.declared.typed.Typed.{Typed}
use Rattle.dbpl_rules_calls.proofs.Silencing.{characters_argument_silences, counted_argument_silences, kind_argument_silences, standard_argument_silences, value_argument_silences, variable_argument_silences}
use Rattle.dbpl_rules_calls.proofs.Speaking.{characters_argument_speaks, counted_argument_speaks, kind_argument_speaks, standard_argument_speaks, value_argument_speaks, variable_argument_speaks}
use Rattle.dbpl_rules_calls.specs.Arguments.{characters_argument, counted_argument, kind_argument, standard_argument, value_argument, variable_argument}
use Rattle.dbpl_rules_calls.specs.declared.denoted.Denoted.{Denoted}
use Rattle.dbpl_rules_expr.specs.Exact.{IsExact}
use Rattle.dbpl_rules_operators.proofs.Silencing.{arithmetic_silences, character_silences, compared_silences, logical_silences, negated_silences, number_silences, signed_silences, text_silences}
use Rattle.dbpl_rules_operators.proofs.Speaking.{arithmetic_speaks, character_speaks, compared_speaks, logical_speaks, negated_speaks, number_speaks, signed_speaks, text_speaks}
use Rattle.dbpl_rules_operators.specs.Literals.{character, number, text}
use Rattle.dbpl_rules_operators.specs.Operators.{arithmetic, compared, logical, negated, signed}
use Rattle.dbpl_symbols.specs.declared.standard_procedure.StandardProcedure.{StandardProcedure}
use Rattle.dbpl_value.specs.declared.db_type.DbType.{DbType}

-- ---- literals

pub number_exact : (place : Place) (n : ℕ) → IsExact (number place n)
number_exact place n = record { speaks = number_speaks place n; silences = number_silences place n }

pub character_exact : (place : Place) (code : ℕ) → IsExact (character place code)
character_exact place code = record { speaks = character_speaks place code; silences = character_silences place code }

pub text_exact : (place : Place) (bytes : List ℕ) → IsExact (text place bytes)
text_exact place bytes = record { speaks = text_speaks place bytes; silences = text_silences place bytes }

-- ---- operators

pub signed_exact : (place : Place) (sign : Sign) (a : Typed) → IsExact (signed place sign a)
signed_exact place sign a = record { speaks = signed_speaks place sign a; silences = signed_silences place sign a }

pub arithmetic_exact : (place : Place) (operator : ArithmeticOperator) (a b : Typed) → IsExact (arithmetic place operator a b)
arithmetic_exact place operator a b = record {
  speaks = arithmetic_speaks place operator a b;
  silences = arithmetic_silences place operator a b;
}

pub logical_exact : (place : Place) (operator : LogicalOperator) (a b : Typed) → IsExact (logical place operator a b)
logical_exact place operator a b = record {
  speaks = logical_speaks place operator a b;
  silences = logical_silences place operator a b;
}

pub negated_exact : (place : Place) (a : Typed) → IsExact (negated place a)
negated_exact place a = record { speaks = negated_speaks place a; silences = negated_silences place a }

pub compared_exact : (place : Place) (relation : Relation) (a b : Typed) → IsExact (compared place relation a b)
compared_exact place relation a b = record {
  speaks = compared_speaks place relation a b;
  silences = compared_silences place relation a b;
}

-- ---- arguments

pub value_argument_exact : (t : DbType) (e : Typed) → IsExact (value_argument t e)
value_argument_exact t e = record { speaks = value_argument_speaks t e; silences = value_argument_silences t e }

pub variable_argument_exact : (t : DbType) (denoted : Denoted) → IsExact (variable_argument t denoted)
variable_argument_exact t denoted = record {
  speaks = variable_argument_speaks t denoted;
  silences = variable_argument_silences t denoted;
}

pub standard_argument_exact : (which : StandardProcedure) (e : Typed) → IsExact (standard_argument which e)
standard_argument_exact which e = record {
  speaks = standard_argument_speaks which e;
  silences = standard_argument_silences which e;
}

pub counted_argument_exact : (denoted : Denoted) → IsExact (counted_argument denoted)
counted_argument_exact denoted = record {
  speaks = counted_argument_speaks denoted;
  silences = counted_argument_silences denoted;
}

pub kind_argument_exact : (at : Place) (t : DbType) → IsExact (kind_argument at t)
kind_argument_exact at t = record { speaks = kind_argument_speaks at t; silences = kind_argument_silences at t }

pub characters_argument_exact : (e : Typed) → IsExact (characters_argument e)
characters_argument_exact e = record { speaks = characters_argument_speaks e; silences = characters_argument_silences e }
