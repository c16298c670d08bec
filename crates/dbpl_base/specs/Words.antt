-- The bytes of the language: letters, digits, blanks, and the tables of reserved words and signs.
use Rattle.std.specs.Prelude.{ℕ, Bool, List, [], ◌∷◌, ◌==◌, ◌&&◌, ◌||◌, nat_le, codes}

abbrev pub is_between : ℕ → ℕ → ℕ → Bool
is_between low high byte = nat_le low byte && nat_le byte high

abbrev pub is_digit : ℕ → Bool
is_digit byte = is_between 48 57 byte

abbrev pub is_octal : ℕ → Bool
is_octal byte = is_between 48 55 byte

-- a digit, or a letter from A to F
abbrev pub is_hexadecimal : ℕ → Bool
is_hexadecimal byte = is_digit byte || is_between 65 70 byte

abbrev pub is_letter : ℕ → Bool
is_letter byte = is_between 65 90 byte || is_between 97 122 byte

-- what an identifier may go on with
abbrev pub is_word_byte : ℕ → Bool
is_word_byte byte = is_letter byte || is_digit byte

-- a tabulator, a line end, a carriage return or a space
abbrev pub is_blank : ℕ → Bool
is_blank byte = byte == 9 || byte == 10 || byte == 13 || byte == 32

-- the reserved words, each named by its position in this table
unfoldable pub reserved_words : List (List ℕ)
reserved_words =
    codes "AND" ∷ codes "ARRAY" ∷ codes "BEGIN" ∷ codes "BY" ∷ codes "CASE" ∷ codes "CONST" ∷ codes "DEFINITION" ∷
    codes "DIV" ∷ codes "DO" ∷ codes "ELSE" ∷ codes "ELSIF" ∷ codes "END" ∷ codes "EXIT" ∷ codes "EXPORT" ∷
    codes "FOR" ∷ codes "FROM" ∷ codes "IF" ∷ codes "IMPLEMENTATION" ∷ codes "IMPORT" ∷ codes "IN" ∷ codes "LOOP" ∷
    codes "MOD" ∷ codes "MODULE" ∷ codes "NOT" ∷ codes "OF" ∷ codes "OR" ∷ codes "POINTER" ∷ codes "PROCEDURE" ∷
    codes "QUALIFIED" ∷ codes "RECORD" ∷ codes "REPEAT" ∷ codes "RETURN" ∷ codes "SET" ∷ codes "THEN" ∷ codes "TO" ∷
    codes "TYPE" ∷ codes "UNTIL" ∷ codes "VAR" ∷ codes "WHILE" ∷ codes "WITH" ∷ codes "ALL" ∷ codes "CONSTRUCTOR" ∷
    codes "DATABASE" ∷ codes "EACH" ∷ codes "RELATION" ∷ codes "SELECTOR" ∷ codes "SOME" ∷ codes "TRANSACTION" ∷
    codes "ON" ∷ codes "DEFAULT" ∷ []

-- the signs, each named by its position in this table
unfoldable pub signs : List (List ℕ)
signs =
    codes "+" ∷ codes "-" ∷ codes "*" ∷ codes "/" ∷ codes "=" ∷ codes "#" ∷ codes "<>" ∷ codes "<" ∷ codes "<=" ∷
    codes ">" ∷ codes ">=" ∷ codes "&" ∷ codes "~" ∷ codes ":=" ∷ codes ":+" ∷ codes ":-" ∷ codes ":&" ∷ codes "." ∷
    codes ".." ∷ codes "," ∷ codes ";" ∷ codes ":" ∷ codes "(" ∷ codes ")" ∷ codes "[" ∷ codes "]" ∷ codes "{" ∷
    codes "}" ∷ codes "|" ∷ []
