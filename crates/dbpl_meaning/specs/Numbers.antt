-- What signs, operators and standard functions make of numbers, and how values are compared.
use Rattle.std.specs.Prelude.{ℕ, ℤ, pos, negsuc, ◌+ℤ◌, ◌-ℤ◌, ◌*ℤ◌, neg_ℤ, nat_abs, int_le, Bool, not, if◌then◌else◌, Option, Some, None}
use Rattle.std.specs.Cmp.Lexicographic.{slice_cmp}
use Rattle.std.specs.Int.{int_div_euclid, int_rem_euclid}
use Rattle.std.specs.Ordering.{int_cmp, is_eq, is_ge, is_gt, is_le, is_lt, is_ne}
use Rattle.std.specs.declared.cmp.Ordering.{Ordering}
use Rattle.dbpl_base.specs.declared.place.Place.{Place}
use Rattle.dbpl_core.specs.declared.arithmetic_operator.ArithmeticOperator.{ArithmeticOperator}
use Rattle.dbpl_core.specs.declared.arithmetic_operator.ArithmeticOperator.TheVariants as operators
use Rattle.dbpl_core.specs.declared.comparison.Comparison.{Comparison}
use Rattle.dbpl_core.specs.declared.comparison.Comparison.TheVariants as comparisons
use Rattle.dbpl_core.specs.declared.relation.Relation.{Relation}
use Rattle.dbpl_core.specs.declared.relation.Relation.TheVariants as relations
use Rattle.dbpl_core.specs.declared.sign.Sign.{Sign}
use Rattle.dbpl_core.specs.declared.sign.Sign.TheVariants as signs
use Rattle.dbpl_core.specs.declared.standard_function.StandardFunction.{StandardFunction}
use Rattle.dbpl_core.specs.declared.standard_function.StandardFunction.TheVariants as standard
use Rattle.dbpl_core.specs.declared.whole_host.WholeHost.{WholeHost}
use Rattle.dbpl_core.specs.declared.whole_host.WholeHost.TheVariants as hosts
use Rattle.dbpl_meaning.specs.State.{Doing, Wrong}
use Rattle.dbpl_meaning.specs.Words.{◌>>=◌, gives, number, number_of_type, stops, there, traps}
use Rattle.dbpl_value.specs.Equality.{is_same}
use Rattle.dbpl_value.specs.Keys.{component_of}
use Rattle.dbpl_value.specs.Types.{is_in, range_of}
use Rattle.dbpl_value.specs.declared.db_type.DbType.{DbType}
use Rattle.dbpl_value.specs.declared.db_type.DbType.TheVariants as types
use Rattle.dbpl_value.specs.declared.range.Range.{Range}
use Rattle.dbpl_value.specs.declared.value.Value.{Value}
use Rattle.dbpl_value.specs.declared.value.Value.TheVariants as value

-- ---- fit

-- the number, where it is in the range; else a trap of this kind
abbrev pub within : Range → ℕ → Place → ℤ → Doing ℤ
within range kind place n = if is_in range n then gives n else traps kind place

-- the number, where it lies in the ordinal type; else trap 3
abbrev pub fitted : DbType → Place → ℤ → Doing ℤ
fitted kind place n = do
  range ← there (range_of kind)
  within range 3 place n

abbrev pub host_type : WholeHost → DbType
host_type hosts.Integer = types.Int
host_type hosts.Cardinal = types.Card

-- the numbers of 64 bits, which no constant of an accepted program leaves
abbrev pub wide : Range
wide = record { least = negsuc 9223372036854775807; greatest = pos 9223372036854775807 }

abbrev pub exact : ℤ → Doing ℤ
exact n = if is_in wide n then gives n else stops Wrong

-- a result: exact where there is no host; else in it, or trap 1
abbrev pub in_host : Option WholeHost → Place → ℤ → Doing ℤ
in_host None place n = exact n
in_host (Some host) place n = do
  range ← there (range_of (host_type host))
  within range 1 place n

-- ---- signs and operators

abbrev pub signed : Sign → Option WholeHost → Place → ℤ → Doing ℤ
signed signs.Plus host place n = gives n
signed signs.Minus host place n = in_host host place (neg_ℤ n)

-- The divisor is positive, else trap 2; then Euclid's quotient is the floor.
abbrev pub divided : (ℤ → ℤ → ℤ) → Place → ℤ → ℤ → Doing ℤ
divided part at n divisor = if int_le divisor (pos 0) then traps 2 at else gives (part n divisor)

abbrev pub reckoned : ArithmeticOperator → Place → ℤ → ℤ → Doing ℤ
reckoned operators.Plus at n m = gives (n +ℤ m)
reckoned operators.Minus at n m = gives (n -ℤ m)
reckoned operators.Times at n m = gives (n *ℤ m)
reckoned operators.Div at n m = divided int_div_euclid at n m
reckoned operators.Mod at n m = divided int_rem_euclid at n m

-- ---- comparisons

abbrev pub number_of_bool : Bool → Value
number_of_bool test = value.Num (if test then pos 1 else pos 0)

abbrev pub is_related : Relation → Ordering → Bool
is_related relations.Equal order = is_eq order
is_related relations.Unequal order = is_ne order
is_related relations.Less order = is_lt order
is_related relations.LessEqual order = is_le order
is_related relations.Greater order = is_gt order
is_related relations.GreaterEqual order = is_ge order

-- `=` and `#` of any two values; the order of arrays of characters is that of their bytes
abbrev pub are_related : Relation → Value → Value → Bool
are_related relations.Equal v w = is_same v w
are_related relations.Unequal v w = not (is_same v w)
are_related relation v w = is_related relation (slice_cmp int_cmp (component_of v) (component_of w))

abbrev pub compared : Comparison → Relation → Value → Value → Doing Bool
compared comparisons.Numbers relation v w = do
  n ← number v
  m ← number w
  gives (is_related relation (int_cmp n m))
compared comparisons.Values relation v w = gives (are_related relation v w)

-- ---- standard functions

-- a small letter becomes the capital one
abbrev pub capital : ℤ → ℤ
capital n = if is_in (record { least = pos 97; greatest = pos 122 }) n then n -ℤ pos 32 else n

abbrev pub standard_number : StandardFunction → Place → Value → Doing ℤ
standard_number standard.Abs place v = do
  n ← number_of_type types.Int v
  in_host (Some hosts.Integer) place (pos (nat_abs n))
standard_number standard.Odd place v = do
  n ← number v
  gives (int_rem_euclid n (pos 2))
standard_number standard.Cap place v = do
  n ← number_of_type types.Char v
  gives (capital n)
standard_number standard.Chr place v = do
  n ← number v
  fitted types.Char place n
standard_number standard.Ord place v = number v
standard_number (standard.Val kind) place v = do
  n ← number v
  fitted kind place n
