-- The rules of operators and constants, each by its number.
use Rattle.std.specs.Prelude.{ℕ, Bool, true, false, ◌&&◌, ◌==◌, nat_le, if◌then◌else◌, ℤ, pos, int_lt, Option, Some, None}
use Rattle.dbpl_core.specs.declared.arithmetic_operator.ArithmeticOperator.{ArithmeticOperator}
use Rattle.dbpl_core.specs.declared.arithmetic_operator.ArithmeticOperator.TheVariants as arithmetic
use Rattle.dbpl_judging.specs.declared.facts.Facts.{Facts}
use Rattle.dbpl_judging.specs.declared.kind.Kind.{Kind}
use Rattle.dbpl_judging.specs.declared.kind.Kind.TheVariants as phrases
use Rattle.dbpl_rules_operators.specs.Constants.{whole_constants}
use Rattle.dbpl_rules_operators.specs.Fitting.{lies_in, takes_kind}
use Rattle.dbpl_rules_operators.specs.Hosts.{is_boolean, is_whole}
use Rattle.dbpl_rules_operators.specs.declared.host.Host.{Host}
use Rattle.dbpl_rules_operators.specs.declared.host.Host.TheVariants as hosts
use Rattle.dbpl_value.specs.Types.{is_char_array, is_in, is_ordinal}
use Rattle.dbpl_value.specs.declared.db_type.DbType.TheVariants as types

-- S13: A number is at most 4,294,967,295 ..
abbrev pub S13_number : ℕ → Bool
S13_number n = nat_le n 4294967295

-- .. and a character's code at most 255.
abbrev pub S13_code : ℕ → Bool
S13_code n = nat_le n 255

-- S15: A whole constant lies in -2^31 to 2^32-1 ..
abbrev pub S15 : Option ℤ → Bool
S15 None = true
S15 (Some n) = is_in whole_constants n

-- a constant that keeps the rule, or no constant
abbrev pub lawful : Option ℤ → Option (Option ℤ)
lawful number = if S15 number then Some number else None

abbrev pub is_division : ArithmeticOperator → Bool
is_division arithmetic.Div = true
is_division arithmetic.Mod = true
is_division _ = false

abbrev pub is_positive : Option ℤ → Bool
is_positive None = true
is_positive (Some n) = int_lt (pos 0) n

abbrev pub divides : Bool → Bool → Option ℤ → Bool
divides true true divisor = is_positive divisor
divides _ _ divisor = true

-- .. and a constant divisor of whole operands is positive.
abbrev pub S15_divisor : ArithmeticOperator → Host → Host → Option ℤ → Bool
S15_divisor operator one other divisor = divides (is_division operator) (is_whole one && is_whole other) divisor

-- S25: The operands of an arithmetic operator are whole and of one host, or one is a whole constant.
abbrev pub S25 : Host → Host → Bool
S25 hosts.Whole other = is_whole other
S25 one hosts.Whole = is_whole one
S25 hosts.Integer hosts.Integer = true
S25 hosts.Cardinal hosts.Cardinal = true
S25 _ _ = false

-- S26: The operands of AND, OR and NOT are BOOLEAN.
abbrev pub S26 : Host → Bool
S26 = is_boolean

-- S27: The operands of =, # and <> have one host or one type, or are a string and an array that takes it.
abbrev pub S27 : Kind → Kind → Bool
S27 (phrases.Of t) other = takes_kind t other
S27 one (phrases.Of t) = takes_kind t one
S27 phrases.Whole phrases.Whole = true
S27 (phrases.Text length first) (phrases.Text other_length other_first) = length == 1 && other_length == 1
S27 _ _ = false

abbrev pub is_ordered : Kind → Bool
is_ordered phrases.Whole = true
is_ordered (phrases.Text length first) = true
is_ordered (phrases.Of t) = if is_ordinal t then true else is_char_array t

-- S28: Those of <, <=, > and >= too, and they are ordinal or arrays of CHAR.
abbrev pub S28 : Kind → Kind → Bool
S28 one other = S27 one other && is_ordered one && is_ordered other

abbrev pub lies_in_host : Kind → Option ℤ → Host → Bool
lies_in_host phrases.Whole number hosts.Integer = lies_in types.Int number
lies_in_host phrases.Whole number hosts.Cardinal = lies_in types.Card number
lies_in_host _ _ _ = true

-- S29: A whole constant beside another operand lies in that one's host.
abbrev pub S29 : Facts → Host → Bool
S29 facts other = lies_in_host facts.kind facts.number other

-- S30: A sign stands before a whole constant or the host INTEGER.
abbrev pub S30 : Host → Bool
S30 hosts.Whole = true
S30 hosts.Integer = true
S30 _ = false
