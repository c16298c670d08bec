-- What is claimed of the grammar, and of what is read by it.
use Rattle.std.specs.Prelude.{◌≡◌, ◌≢◌, ℕ, ◌≤◌, List, [], ◌∷◌, ◌++◌, Ok, Err}
use Rattle.dbpl_base.specs.Scans.{lexemes_of}
use Rattle.dbpl_base.specs.declared.lexeme.Lexeme.{Lexeme}
use Rattle.dbpl_base.specs.declared.lexeme.Lexeme.TheVariants.{Finish}
use Rattle.dbpl_base.specs.declared.token.Token.{Token}
use Rattle.dbpl_tree.specs.Marks.{Mark, Meets, lexemes_in}
use Rattle.dbpl_tree.specs.UnitDepths.{unit_depth}
use Rattle.dbpl_tree.specs.Units.{SpellsUnit, spell}
use Rattle.dbpl_tree.specs.declared.unit.Unit.{Unit as Module}
use Rattle.dbpl_grammar.specs.Reading.{Parser, Refused}
use Rattle.dbpl_grammar.specs.Units.{depth_limit, whole_unit}

-- two trees that the same tokens spell are equal, whatever stands behind them
abbrev pub OneTree : {A : Type 0} → (A → List Mark) → Type 0
OneTree {A = A} marks =
    (tokens rest : List Token) (one other : A) → Meets tokens (marks one) rest → Meets tokens (marks other) rest → one ≡ other

-- two units that the same tokens spell are equal
abbrev pub OneUnit : Type 0
OneUnit = (tokens : List Token) (one other : Module) → SpellsUnit tokens one → SpellsUnit tokens other → one ≡ other

-- these tokens spell this unit, and it isn't too deep
abbrev pub IsText : List Token → Module → Type 0
IsText tokens unit = SpellsUnit tokens unit × (unit_depth unit ≤ depth_limit)

-- a unit is read exactly where the tokens spell it
abbrev pub ReadsUnits : Type 0
ReadsUnits = (tokens : List Token) (unit : Module) → IsText tokens unit → whole_unit depth_limit tokens ≡ Ok unit

abbrev pub SpelledUnits : Type 0
SpelledUnits = (tokens : List Token) (unit : Module) → whole_unit depth_limit tokens ≡ Ok unit → IsText tokens unit

-- these are the first lexemes of a spelling, those of these tokens in turn
abbrev pub SpellingBegins : List Lexeme → List Token → Type 0
SpellingBegins spelling tokens = (more : List Lexeme) × (spelling ≡ lexemes_of tokens ++ more)

-- No spelling of a unit that isn't too deep begins with the tokens up to and with the first one of the rest.
pub record NoneBegins (tokens rest : List Token) : Type 0 where
  pub front : List Token
  pub split : tokens ≡ front ++ rest
  pub none : (token : Token) (behind : List Token) (unit : Module) → rest ≡ token ∷ behind → unit_depth unit ≤ depth_limit → SpellingBegins (spell unit) (front ++ token ∷ []) → ⊥

-- a refusal names the tokens from one on with which no unit begins
abbrev pub RefusesUnits : Type 0
RefusesUnits =
    (tokens : List Token) (refused : Refused) → whole_unit depth_limit tokens ≡ Err refused → NoneBegins tokens refused.rest

-- The spelling of some unit, of any depth, begins with the tokens in front of the rest.
pub record TextBegun (tokens rest : List Token) : Type 0 where
  pub front : List Token
  pub split : tokens ≡ front ++ rest
  pub unit : Module
  pub begins : SpellingBegins (spell unit) front

-- where a text is refused, it has begun well
abbrev pub BegunUnits : Type 0
BegunUnits =
    (tokens : List Token) (refused : Refused) → whole_unit depth_limit tokens ≡ Err refused → TextBegun tokens refused.rest

-- the last token is the end of the text, as a text's tokens have it
abbrev pub HasEnd : List Token → Type 0
HasEnd tokens = (front : List Token) × (finish : Token) × (tokens ≡ front ++ finish ∷ []) × (finish.lexeme ≡ Finish)

-- where the tokens have an end, a refusal names a token
abbrev pub NamesToken : Type 0
NamesToken =
    (tokens : List Token) (refused : Refused) → HasEnd tokens → whole_unit depth_limit tokens ≡ Err refused → refused.rest ≢ []

-- ---- phrases at the front of tokens

-- no spelling of such a phrase, of any depth, begins with these tokens and the next one
abbrev pub NoneLonger : {A : Type 0} → (A → List Mark) → List Token → Token → Type 0
NoneLonger {A = A} marks front next = (phrase : A) → SpellingBegins (lexemes_in (marks phrase)) (front ++ next ∷ []) → ⊥

-- THE phrase at the front of these tokens: it is spelled up to the next token and isn't deeper than the limit, and none
-- of any depth begins with its tokens and the next one.
pub record Stands {A : Type 0} (marks : A → List Mark) (depth : A → ℕ) (limit : ℕ) (tokens : List Token) (phrase : A)
    (rest : List Token) : Type 0 where
  pub front : List Token
  pub next : Token
  pub behind : List Token
  pub split : tokens ≡ front ++ next ∷ behind
  pub left : rest ≡ next ∷ behind
  pub spelled : Meets tokens (marks phrase) rest
  pub fits : depth phrase ≤ limit
  pub longest : NoneLonger marks front next

-- No spelling of such a phrase that isn't too deep begins with the tokens up to and with the first one of the rest.
pub record NoPhraseBegins {A : Type 0} (marks : A → List Mark) (depth : A → ℕ) (limit : ℕ) (tokens rest : List Token) : Type 0 where
  pub front : List Token
  pub split : tokens ≡ front ++ rest
  pub none : (token : Token) (behind : List Token) (phrase : A) → rest ≡ token ∷ behind → depth phrase ≤ limit → SpellingBegins (lexemes_in (marks phrase)) (front ++ token ∷ []) → ⊥

-- what is read is the phrase at the front
abbrev pub ReadsPhrase : {A : Type 0} → (A → List Mark) → (A → ℕ) → (ℕ → Parser A) → Type 0
ReadsPhrase {A = A} marks depth read =
    (limit : ℕ) (tokens rest : List Token) (phrase : A) → HasEnd tokens → read limit tokens ≡ Ok (phrase, rest) → Stands marks depth limit tokens phrase rest

-- the phrase at the front is read
abbrev pub PhraseIsRead : {A : Type 0} → (A → List Mark) → (A → ℕ) → (ℕ → Parser A) → Type 0
PhraseIsRead {A = A} marks depth read =
    (limit : ℕ) (tokens rest : List Token) (phrase : A) → Stands marks depth limit tokens phrase rest → read limit tokens ≡ Ok (phrase, rest)

-- a refusal names the tokens from one on with which no phrase begins
abbrev pub RefusesPhrase : {A : Type 0} → (A → List Mark) → (A → ℕ) → (ℕ → Parser A) → Type 0
RefusesPhrase marks depth read =
    (limit : ℕ) (tokens : List Token) (refused : Refused) → read limit tokens ≡ Err refused → NoPhraseBegins marks depth limit tokens refused.rest

-- where the tokens have an end, a refusal names a token
abbrev pub NamesPhraseToken : {A : Type 0} → (ℕ → Parser A) → Type 0
NamesPhraseToken read =
    (limit : ℕ) (tokens : List Token) (refused : Refused) → HasEnd tokens → read limit tokens ≡ Err refused → refused.rest ≢ []

-- The spelling of some phrase, of any depth, begins with the tokens in front of the rest.
pub record PhraseBegun {A : Type 0} (marks : A → List Mark) (tokens rest : List Token) : Type 0 where
  pub front : List Token
  pub split : tokens ≡ front ++ rest
  pub phrase : A
  pub begins : SpellingBegins (lexemes_in (marks phrase)) front

-- where a phrase is refused, it has begun well
abbrev pub BegunPhrase : {A : Type 0} → (A → List Mark) → (ℕ → Parser A) → Type 0
BegunPhrase marks read =
    (limit : ℕ) (tokens : List Token) (refused : Refused) → read limit tokens ≡ Err refused → PhraseBegun marks tokens refused.rest
