-- Which bytes spell which lexeme.
use Rattle.std.specs.Prelude.{◌≡◌, ◌≢◌, ℕ, ◌+◌, ◌*◌, ◌-◌, ◌==◌, ◌⊎◌, min, fold, Bool, not, ◌&&◌, List, [], ◌∷◌, ◌++◌, IsTrue, Some, nat_lt, slice_get, if◌then◌else◌}
use Rattle.std.specs.List.{list_all}
use Rattle.dbpl_base.specs.declared.limits.TheConstants.{GREATEST_LITERAL}
use Rattle.dbpl_base.specs.Words.{is_digit, is_hexadecimal, is_letter, is_octal, is_word_byte, reserved_words, signs}
use Rattle.dbpl_base.specs.declared.lexeme.Lexeme.{Lexeme}
use Rattle.dbpl_base.specs.declared.lexeme.Lexeme.TheVariants.{Ident, Number, CharCode, Text, Reserved, Sign, Finish}

-- a letter followed by letters and digits
abbrev pub IsIdentifier : List ℕ → Type 0
IsIdentifier [] = ⊥
IsIdentifier (first ∷ others) = IsTrue (is_letter first) × IsTrue (list_all is_word_byte others)

-- the word stands in the table at this position
abbrev pub IsRow : List (List ℕ) → ℕ → List ℕ → Type 0
IsRow table row word = slice_get table row ≡ Some word

-- what a digit counts, A to F as ten to fifteen
abbrev pub digit_worth : ℕ → ℕ
digit_worth digit = if nat_lt digit 65 then digit - 48 else digit - 55

-- the number that these digits are in this base
abbrev pub number_in : ℕ → List ℕ → ℕ
number_in base digits = fold (λ sum digit. sum * base + digit_worth digit) 0 digits

-- a number as a token keeps it
abbrev pub number_kept : ℕ → ℕ
number_kept n = min n GREATEST_LITERAL

-- one or more digits that pass the test
abbrev pub AreDigits : (ℕ → Bool) → List ℕ → Type 0
AreDigits test digits = (digits ≢ []) × IsTrue (list_all test digits)

-- a digit, followed by hexadecimal digits
abbrev pub AreHexadecimal : List ℕ → Type 0
AreHexadecimal [] = ⊥
AreHexadecimal (first ∷ others) = IsTrue (is_digit first) × IsTrue (list_all is_hexadecimal others)

abbrev pub IsDecimalOf : ℕ → List ℕ → Type 0
IsDecimalOf n word = AreDigits is_digit word × (n ≡ number_kept (number_in 10 word))

-- octal digits, and then this letter
abbrev pub IsOctalOf : ℕ → ℕ → List ℕ → Type 0
IsOctalOf letter n word =
    (digits : List ℕ) × (word ≡ digits ++ letter ∷ []) × AreDigits is_octal digits × (n ≡ number_kept (number_in 8 digits))

-- hexadecimal digits, and then H
abbrev pub IsHexadecimalOf : ℕ → List ℕ → Type 0
IsHexadecimalOf n word =
    (digits : List ℕ) × (word ≡ digits ++ 72 ∷ []) × AreHexadecimal digits × (n ≡ number_kept (number_in 16 digits))

-- the quote, a byte that ends a line, or none of these
abbrev pub is_text_byte : ℕ → ℕ → Bool
is_text_byte quote byte = not (byte == quote) && not (byte == 10) && not (byte == 13)

-- the text between two quotes of one kind, " or '
abbrev pub IsQuoted : List ℕ → List ℕ → Type 0
IsQuoted text word =
    (quote : ℕ) × ((quote ≡ 34) ⊎ (quote ≡ 39)) × (word ≡ quote ∷ (text ++ quote ∷ []))
    × IsTrue (list_all (is_text_byte quote) text)

-- THE spellings: these bytes are a spelling of this lexeme
abbrev pub Spells : Lexeme → List ℕ → Type 0
Spells (Ident name) word =
    (word ≡ name) × IsIdentifier word × ((row : ℕ) → IsRow reserved_words row word → ⊥)
Spells (Number n) word = IsDecimalOf n word ⊎ (IsOctalOf 66 n word ⊎ IsHexadecimalOf n word)
Spells (CharCode n) word = IsOctalOf 67 n word
Spells (Text text) word = IsQuoted text word
Spells (Reserved row) word = IsRow reserved_words row word
Spells (Sign row) word = IsRow signs row word
Spells Finish word = ⊥
