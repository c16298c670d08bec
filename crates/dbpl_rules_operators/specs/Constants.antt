-- What is reckoned of constants. It is exact: no result is cut to a width.
use Rattle.std.specs.Prelude.{Bool, true, false, not, ◌&&◌, ◌||◌, ℤ, pos, negsuc, ◌+ℤ◌, ◌-ℤ◌, ◌*ℤ◌, neg_ℤ, int_le, int_lt, if◌then◌else◌, Option, Some, None, option_map}
use Rattle.std.specs.Int.{int_div_euclid, int_rem_euclid}
use Rattle.std.specs.Ordering.{int_cmp, is_eq}
use Rattle.dbpl_core.specs.declared.arithmetic_operator.ArithmeticOperator.{ArithmeticOperator}
use Rattle.dbpl_core.specs.declared.arithmetic_operator.ArithmeticOperator.TheVariants as arithmetic
use Rattle.dbpl_core.specs.declared.logical_operator.LogicalOperator.{LogicalOperator}
use Rattle.dbpl_core.specs.declared.logical_operator.LogicalOperator.TheVariants as logical
use Rattle.dbpl_core.specs.declared.relation.Relation.{Relation}
use Rattle.dbpl_core.specs.declared.relation.Relation.TheVariants as relation
use Rattle.dbpl_core.specs.declared.sign.Sign.{Sign}
use Rattle.dbpl_core.specs.declared.sign.Sign.TheVariants as sign
use Rattle.dbpl_value.specs.declared.range.Range.{Range}

-- the numbers of whole constants: those of INTEGER and of CARDINAL
abbrev pub whole_constants : Range
whole_constants = record { least = negsuc 2147483647; greatest = pos 4294967295 }

-- DIV is the floor of the quotient, and MOD what is left of it. A divisor that isn't positive gives neither.
abbrev pub computed : ArithmeticOperator → ℤ → ℤ → Option ℤ
computed arithmetic.Plus n other = Some (n +ℤ other)
computed arithmetic.Minus n other = Some (n -ℤ other)
computed arithmetic.Times n other = Some (n *ℤ other)
computed arithmetic.Div n other = if int_lt (pos 0) other then Some (int_div_euclid n other) else None
computed arithmetic.Mod n other = if int_lt (pos 0) other then Some (int_rem_euclid n other) else None

abbrev pub signed_number : Sign → ℤ → ℤ
signed_number sign.Plus n = n
signed_number sign.Minus n = neg_ℤ n

-- FALSE is 0 and TRUE is 1
abbrev pub truth : Bool → ℤ
truth false = pos 0
truth true = pos 1

abbrev pub is_true : ℤ → Bool
is_true n = is_eq (int_cmp n (pos 1))

abbrev pub related : Relation → ℤ → ℤ → Bool
related relation.Equal n other = is_eq (int_cmp n other)
related relation.Unequal n other = not (is_eq (int_cmp n other))
related relation.Less n other = int_lt n other
related relation.LessEqual n other = int_le n other
related relation.Greater n other = int_lt other n
related relation.GreaterEqual n other = int_le other n

abbrev pub decided : LogicalOperator → ℤ → ℤ → ℤ
decided logical.And p q = truth (is_true p && is_true q)
decided logical.Or p q = truth (is_true p || is_true q)

-- what is made of two constants, and nothing where one of the operands is none
abbrev pub of_constants : (ℤ → ℤ → Option ℤ) → Option ℤ → Option ℤ → Option ℤ
of_constants make None other = None
of_constants make (Some n) None = None
of_constants make (Some n) (Some other) = make n other

abbrev pub reckoned : ArithmeticOperator → Option ℤ → Option ℤ → Option ℤ
reckoned operator = of_constants (computed operator)

abbrev pub reckoned_sign : Sign → Option ℤ → Option ℤ
reckoned_sign sign = option_map (signed_number sign)

abbrev pub reckoned_logic : LogicalOperator → Option ℤ → Option ℤ → Option ℤ
reckoned_logic operator = of_constants (λ p q. Some (decided operator p q))

abbrev pub reckoned_not : Option ℤ → Option ℤ
reckoned_not = option_map (λ p. truth (not (is_true p)))

abbrev pub reckoned_relation : Relation → Option ℤ → Option ℤ → Option ℤ
reckoned_relation relation = of_constants (λ n other. Some (truth (related relation n other)))
