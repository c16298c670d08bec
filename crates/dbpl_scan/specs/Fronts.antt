-- What stands at the very front of a text.
use Rattle.std.specs.Prelude.{◌≡◌, ℕ, true, false, Bool, not, List, [], ◌∷◌, ◌++◌, ◌==◌, ◌&&◌, ◌||◌, length, drop, take_while, Option, Some, None, if◌then◌else◌}
use Rattle.std.specs.List.{prefix_len}
use Rattle.dbpl_scan.specs.BreaksOff.{BlankStands, CommentStands}
use Rattle.dbpl_base.specs.Scans.{IsLongest, OpensComment}
use Rattle.dbpl_scan.specs.Comments.{IsGap, IsInside}
use Rattle.dbpl_base.specs.Spelling.{IsRow, Spells, is_text_byte}
use Rattle.dbpl_base.specs.Words.{is_digit, is_letter, signs}
use Rattle.dbpl_base.specs.declared.lexeme.Lexeme.{Lexeme}

-- what opens and closes a string
abbrev pub is_quote : ℕ → Bool
is_quote byte = byte == 34 || byte == 39

-- no letter, no digit and no quote
abbrev pub is_other : ℕ → Bool
is_other byte = not (is_letter byte) && not (is_digit byte) && not (is_quote byte)

-- the text begins with a byte that passes the test
abbrev pub BeginsBy : (ℕ → Bool) → List ℕ → Type 0
BeginsBy test [] = ⊥
BeginsBy test (first ∷ others) = test first ≡ true

-- A token of this lexeme stands at the front, and this rest behind it.
pub record StandsFirst (text : List ℕ) (lexeme : Lexeme) (rest : List ℕ) : Type 0 where
  pub word : List ℕ
  pub split : text ≡ word ++ rest
  pub spelt : Spells lexeme word
  pub longest : IsLongest word rest
  pub no_comment : ¬ OpensComment (word ++ rest)

-- What follows an opening stands at the front, up to its own closing, and this rest behind it.
abbrev pub Closes : List ℕ → List ℕ → Type 0
Closes text rest = (inside : List ℕ) × (text ≡ inside ++ rest) × IsInside inside

-- A gap stands at the front, and this rest behind it begins with neither a blank nor a whole comment.
pub record GapStands (text rest : List ℕ) : Type 0 where
  pub gap : List ℕ
  pub split : text ≡ gap ++ rest
  pub between : IsGap gap
  pub no_blank : ¬ BlankStands rest
  pub no_comment : ¬ CommentStands rest

abbrev pub begins_with : ℕ → List ℕ → Bool
begins_with byte [] = false
begins_with byte (first ∷ others) = first == byte

-- what is left behind the bytes at the front that pass the test
abbrev pub drop_while : (ℕ → Bool) → List ℕ → List ℕ
drop_while test text = drop (prefix_len test text) text

-- this text, and what follows its closing quote
abbrev pub closed : ℕ → List ℕ → List ℕ → Option (List ℕ × List ℕ)
closed quote inside [] = None
closed quote inside (last ∷ rest) = if last == quote then Some (inside, rest) else None

-- the text between the quote that the text begins with and its next one, and what follows that
abbrev pub quoted : List ℕ → Option (List ℕ × List ℕ)
quoted [] = None
quoted (quote ∷ behind) = closed quote (take_while (is_text_byte quote) behind) (drop_while (is_text_byte quote) behind)

-- A sign of so many bytes stands at the front, and this rest behind it.
abbrev pub SignStands : ℕ → List ℕ → ℕ → List ℕ → Type 0
SignStands count text row rest =
    (word : List ℕ) × (text ≡ word ++ rest) × (length word ≡ count) × IsRow signs row word
