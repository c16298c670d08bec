-- A text is gaps and tokens in turn. This relation says which tokens a text has.
use Rattle.std.specs.Prelude.{◌≡◌, ◌≢◌, ℕ, List, [], ◌∷◌, ◌++◌, map, codes}
use Rattle.dbpl_base.specs.Places.{place_after}
use Rattle.dbpl_base.specs.Spelling.{Spells}
use Rattle.dbpl_base.specs.declared.lexeme.Lexeme.{Lexeme}
use Rattle.dbpl_base.specs.declared.lexeme.Lexeme.TheVariants.{Finish}
use Rattle.dbpl_base.specs.declared.place.Place.{Place}
use Rattle.dbpl_base.specs.declared.token.Token.{Token}

-- the text begins with the two bytes that open a comment
abbrev pub OpensComment : List ℕ → Type 0
OpensComment text = (rest : List ℕ) × (text ≡ codes "(*" ++ rest)

-- no longer word of these bytes spells a lexeme
abbrev pub IsLongest : List ℕ → List ℕ → Type 0
IsLongest word rest =
    (lexeme : Lexeme) (more after : List ℕ) → rest ≡ more ++ after → more ≢ [] → Spells lexeme (word ++ more) → ⊥

-- A text that begins at this place is a gap, the word of this token, and a rest.
pub record BeginsWith (IsGap : List ℕ → Type 0) (place : Place) (text gap word rest : List ℕ) (token : Token) : Type 0 where
  pub split : text ≡ gap ++ (word ++ rest)
  pub between : IsGap gap
  pub spelt : Spells token.lexeme word
  pub longest : IsLongest word rest
  pub no_comment : OpensComment (word ++ rest) → ⊥
  pub placed : token.place ≡ place_after place gap

-- A text that begins at this place has these tokens, with gaps of this kind; the last one stands behind the last byte.
abbrev pub ScansFrom : (List ℕ → Type 0) → Place → List ℕ → List Token → Type 0
ScansFrom IsGap place text [] = ⊥
ScansFrom IsGap place text (token ∷ []) =
    (token.lexeme ≡ Finish) × (token.place ≡ place_after place text) × IsGap text
ScansFrom IsGap place text (token ∷ next ∷ tokens) =
    (gap word rest : List ℕ) × BeginsWith IsGap place text gap word rest token
    × ScansFrom IsGap (place_after place (gap ++ word)) rest (next ∷ tokens)

abbrev pub lexemes_of : List Token → List Lexeme
lexemes_of tokens = map (λ token. token.lexeme) tokens
