-- What a phrase asks of the tokens that spell it: their lexemes in turn, and the places of some.
use Rattle.std.specs.Prelude.{◌≡◌, Bool, true, false, List, [], ◌∷◌, ◌++◌, Option, Some, None}
use Rattle.std.specs.List.{flat_map}
use Rattle.dbpl_base.specs.declared.lexeme.Lexeme.{Lexeme}
use Rattle.dbpl_base.specs.declared.place.Place.{Place}
use Rattle.dbpl_base.specs.declared.token.Token.{Token}

-- A token of this lexeme, or before what follows: the next token stands at this place.
pub data Mark : Type 0 where
  Of : Lexeme → Mark
  Before : Place → Mark

-- the lexemes that these marks ask for
abbrev pub lexemes_in : List Mark → List Lexeme
lexemes_in [] = []
lexemes_in (Of lexeme ∷ marks) = lexeme ∷ lexemes_in marks
lexemes_in (Before place ∷ marks) = lexemes_in marks

-- the tokens begin as the marks ask, and the rest stands behind
abbrev pub Meets : List Token → List Mark → List Token → Type 0
Meets tokens [] rest = tokens ≡ rest
Meets [] (mark ∷ marks) rest = ⊥
Meets (token ∷ tokens) (Of lexeme ∷ marks) rest = (token.lexeme ≡ lexeme) × Meets tokens marks rest
Meets (token ∷ tokens) (Before place ∷ marks) rest = (token.place ≡ place) × Meets (token ∷ tokens) marks rest

-- the place that the marks ask for before any lexeme
abbrev pub first_place : List Mark → Option Place
first_place [] = None
first_place (Of lexeme ∷ marks) = None
first_place (Before place ∷ marks) = Some place

-- ---- phrases that may be absent, or stand again and again

-- nothing, or the phrase
abbrev pub option_marks : {A : Type 0} → (A → List Mark) → Option A → List Mark
option_marks marks None = []
option_marks marks (Some x) = marks x

-- the phrases, each with this lexeme in front of it
abbrev pub further_marks : {A : Type 0} → Lexeme → (A → List Mark) → List A → List Mark
further_marks lexeme marks xs = flat_map (λ x. Of lexeme ∷ marks x) xs

-- the phrases, with this lexeme between each two
abbrev pub between_marks : {A : Type 0} → Lexeme → (A → List Mark) → List A → List Mark
between_marks lexeme marks [] = []
between_marks lexeme marks (x ∷ xs) = marks x ++ further_marks lexeme marks xs

-- the token of this lexeme, where it stands there
abbrev pub where_marks : Bool → Lexeme → List Mark
where_marks false lexeme = []
where_marks true lexeme = Of lexeme ∷ []
