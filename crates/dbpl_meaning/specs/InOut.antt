-- What the procedures of InOut do.
use Rattle.std.specs.Prelude.{ℕ, ◌-◌, ℤ, pos, nat_abs, Bool, false, true, ◌==◌, nat_le, if◌then◌else◌, List, [], ◌∷◌, ◌++◌, length, replicate, Option, Some, None, is_some, option_and_then, option_map, unwrap_or}
use Rattle.std.specs.Fmt.{signed_decimal}
use Rattle.std.specs.List.{before_first}
use Rattle.dbpl_core.specs.declared.in_out_procedure.InOutProcedure.{InOutProcedure}
use Rattle.dbpl_core.specs.declared.in_out_procedure.InOutProcedure.TheVariants as procedures
use Rattle.dbpl_core.specs.declared.reference.Reference.{Reference}
use Rattle.dbpl_meaning.specs.Numbers.{number_of_bool}
use Rattle.dbpl_meaning.specs.Reading.{front_length, front_of, number_found}
use Rattle.dbpl_meaning.specs.State.{Doing, Wrong}
use Rattle.dbpl_meaning.specs.Words.{◌>>=◌, ◌>>◌, input_left, number_of_type, writes, assigns, stops, takes_byte, takes_bytes, there}
use Rattle.dbpl_value.specs.Types.{range_of}
use Rattle.dbpl_value.specs.declared.db_type.DbType.{DbType}
use Rattle.dbpl_value.specs.declared.db_type.DbType.TheVariants as types
use Rattle.dbpl_value.specs.declared.value.Value.{Value, Value-F, out-Value}
use Rattle.dbpl_value.specs.declared.value.Value.TheOpen as values
use Rattle.dbpl_value.specs.declared.value.Value.TheVariants as value

-- What stands in the parentheses of a call, once it is evaluated.
pub data Given : Type 0 where
  -- a value
  Valued : Value → Given
  -- for a VAR parameter: where its variable, or the part of one, is
  Referred : Reference → Given

-- ---- printing

-- a number in decimal, with blanks on the left up to the width
abbrev pub number_text : ℤ → ℕ → List ℕ
number_text n width = replicate (width - length (signed_decimal n)) 32 ++ signed_decimal n

abbrev pub byte_level : {X : Type 0} → Value-F X → Option ℕ
byte_level (values.Num (pos n)) = if nat_le n 255 then Some n else None
byte_level _ = None

-- the bytes of these characters
abbrev pub bytes_in : List Value → Option (List ℕ)
bytes_in [] = Some []
bytes_in (part ∷ parts) = option_and_then (λ byte. option_map (λ bytes. byte ∷ bytes) (bytes_in parts)) (byte_level (out-Value part))

abbrev pub characters_level : Value-F Value → Option (List ℕ)
characters_level (values.Arr parts) = bytes_in parts
characters_level _ = None

-- the bytes of an array of characters
abbrev pub characters_of : Value → Option (List ℕ)
characters_of v = characters_level (out-Value v)

-- the bytes in front of the first byte 0
abbrev pub before_zero : List ℕ → List ℕ
before_zero bytes = before_first (λ byte. byte == 0) bytes

-- ---- reading, where `done` is the variable Done

-- this number, or 0 where there is none, is read into the variable; Done says whether there is one
abbrev pub reads_into : Reference → Reference → Option ℤ → Doing (Unit {0})
reads_into done variable found = do
  assigns variable (value.Num (unwrap_or found (pos 0)))
  assigns done (number_of_bool (is_some found))

abbrev pub reads_number : Reference → DbType → Bool → Reference → Doing (Unit {0})
reads_number done kind may_have_sign variable = do
  range ← there (range_of kind)
  input ← input_left
  takes_bytes (front_length (front_of may_have_sign input))
  reads_into done variable (number_found range (front_of may_have_sign input))

-- ---- the procedures

abbrev pub performs : Reference → InOutProcedure → List Given → Doing (Unit {0})
performs done procedures.Read (Referred variable ∷ []) = do
  byte ← takes_byte
  reads_into done variable (option_map pos byte)
performs done procedures.ReadInt (Referred variable ∷ []) = reads_number done types.Int true variable
performs done procedures.ReadCard (Referred variable ∷ []) = reads_number done types.Card false variable
performs done procedures.Write (Valued v ∷ []) = do
  n ← number_of_type types.Char v
  writes (nat_abs n ∷ [])
performs done procedures.WriteLn [] = writes (10 ∷ [])
performs done procedures.WriteString (Valued v ∷ []) = do
  bytes ← there (characters_of v)
  writes (before_zero bytes)
performs done procedures.WriteInt (Valued v ∷ Valued w ∷ []) = do
  n ← number_of_type types.Int v
  width ← number_of_type types.Card w
  writes (number_text n (nat_abs width))
performs done procedures.WriteCard (Valued v ∷ Valued w ∷ []) = do
  n ← number_of_type types.Card v
  width ← number_of_type types.Card w
  writes (number_text n (nat_abs width))
performs done procedure _ = stops Wrong
