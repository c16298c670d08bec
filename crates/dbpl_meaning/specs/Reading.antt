-- Which number ReadInt and ReadCard find at the front of the input, and how much of it they take.
use Rattle.std.specs.Prelude.{ℕ, ◌+◌, ◌-◌, ◌*◌, min, ℤ, pos, neg_ℤ, Bool, false, ◌&&◌, ◌||◌, ◌==◌, if◌then◌else◌, List, [], ◌∷◌, fold, length, drop, take_while, Option, Some, None}
use Rattle.dbpl_base.specs.Words.{is_blank, is_digit}
use Rattle.dbpl_value.specs.Types.{is_in}
use Rattle.dbpl_value.specs.declared.range.Range.{Range}

abbrev pub number_of_digits : List ℕ → ℕ
number_of_digits digits = fold (λ n digit. 10 * n + (digit - 48)) 0 digits

abbrev pub is_sign : ℕ → Bool
is_sign byte = byte == 43 || byte == 45

-- how many bytes the sign at the front has
abbrev pub sign_length : List ℕ → ℕ
sign_length [] = 0
sign_length (byte ∷ rest) = if is_sign byte then 1 else 0

abbrev pub is_minus : List ℕ → Bool
is_minus [] = false
is_minus (byte ∷ rest) = byte == 45

-- The parts at the front of an input: blanks, a sign where one may stand, digits, and the byte that ends them, if there is
-- one.
pub record Front : Type 0 where
  pub blanks : ℕ
  pub sign : ℕ
  pub minus : Bool
  pub digits : List ℕ
  pub behind : ℕ

abbrev pub front_of : Bool → List ℕ → Front
front_of may_have_sign input =
    let blanks = length (take_while is_blank input) in
    let text = drop blanks input in
    let sign = if may_have_sign then sign_length text else 0 in
    let digits = take_while is_digit (drop sign text) in
    record {
      blanks = blanks;
      sign = sign;
      minus = may_have_sign && is_minus text;
      digits = digits;
      behind = min 1 (length (drop (sign + length digits) text));
    }

-- how many bytes are taken
abbrev pub front_length : Front → ℕ
front_length front = front.blanks + front.sign + length front.digits + front.behind

abbrev pub signed_number : Bool → ℕ → ℤ
signed_number minus n = if minus then neg_ℤ (pos n) else pos n

abbrev pub number_read : Range → Bool → List ℕ → Option ℤ
number_read range minus [] = None
number_read range minus digits =
    let n = signed_number minus (number_of_digits digits) in
    if is_in range n then Some n else None

-- the number, where there is a digit and the number is in the range
abbrev pub number_found : Range → Front → Option ℤ
number_found range front = number_read range front.minus front.digits
