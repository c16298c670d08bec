-- Where a text has no tokens: the first place, outside tokens, where neither a blank nor a whole comment nor a token stands.
use Rattle.std.specs.Prelude.{◌≡◌, ◌≢◌, ℕ, List, [], ◌∷◌, ◌++◌, IsTrue}
use Rattle.dbpl_base.specs.Places.{place_after, start_of}
use Rattle.dbpl_base.specs.Scans.{BeginsWith, OpensComment}
use Rattle.dbpl_base.specs.Spelling.{Spells}
use Rattle.dbpl_base.specs.Words.{is_blank}
use Rattle.dbpl_scan.specs.Comments.{IsComment, IsGap}
use Rattle.dbpl_base.specs.declared.lexeme.Lexeme.{Lexeme}
use Rattle.dbpl_base.specs.declared.place.Place.{Place}
use Rattle.dbpl_base.specs.declared.token.Token.{Token}

abbrev pub BlankStands : List ℕ → Type 0
BlankStands text = (byte : ℕ) × (rest : List ℕ) × (text ≡ byte ∷ rest) × IsTrue (is_blank byte)

abbrev pub CommentStands : List ℕ → Type 0
CommentStands text = (whole rest : List ℕ) × (text ≡ whole ++ rest) × IsComment whole

-- a token, but none stands where a comment opens
abbrev pub TokenStands : List ℕ → Type 0
TokenStands text =
    (lexeme : Lexeme) × (word rest : List ℕ) × (text ≡ word ++ rest) × Spells lexeme word × ¬ OpensComment text

-- A text that begins at the first place has these tokens, each behind a gap, and then this rest, which begins at the second.
abbrev pub ReadsTo : Place → List ℕ → List Token → Place → List ℕ → Type 0
ReadsTo place text [] there rest = (place ≡ there) × (text ≡ rest)
ReadsTo place text (token ∷ tokens) there rest =
    (gap word behind : List ℕ) × BeginsWith IsGap place text gap word behind token
    × ReadsTo (place_after place (gap ++ word)) behind tokens there rest

-- Behind tokens and a gap the text goes on, at this place, with none of the three.
pub record BreaksOffAt (unit : ℕ) (text : List ℕ) (place : Place) : Type 0 where
  pub tokens : List Token
  pub there : Place
  pub rest : List ℕ
  pub reads : ReadsTo (start_of unit) text tokens there rest
  pub gap : List ℕ
  pub left : List ℕ
  pub split : rest ≡ gap ++ left
  pub between : IsGap gap
  pub placed : place ≡ place_after there gap
  pub goes_on : left ≢ []
  pub no_blank : ¬ BlankStands left
  pub no_comment : ¬ CommentStands left
  pub no_token : ¬ TokenStands left
