-- What the calls of this crate answer: a tree and the position behind it, or a refusal by a place.
use Rattle.std.specs.Prelude.{◌≡◌, ◌≢◌, ◌⊎◌, ℕ, List, [], ◌∷◌, drop, Result, Ok, Err}
use Rattle.dbpl_base.specs.declared.place.Place.{Place}
use Rattle.dbpl_base.specs.declared.token.Token.{Token}
use Rattle.dbpl_grammar.specs.Laws.{NoPhraseBegins, PhraseBegun}
use Rattle.dbpl_grammar.specs.Reading.{Reason, Refused}
use Rattle.dbpl_grammar.specs.Reading as reading
use Rattle.dbpl_tree.specs.Marks.{Mark}
use Rattle.dbpl_parse_expr.specs.declared.parse_err.ParseErr.{ParseErr}
use Rattle.dbpl_parse_expr.specs.declared.parse_err.ParseErr.TheVariants as errors
use Rattle.dbpl_parse_expr.specs.declared.read_err.ReadErr.{ReadErr}
use Rattle.dbpl_parse_expr.specs.declared.read_err.ReadErr.TheVariants as refusals

-- the place of the first token
abbrev pub place_of : List Token → Place
place_of [] = record { unit = 0; line = 1; col = 1 }
place_of (token ∷ tokens) = token.place

-- a refusal at a position, by the place there
abbrev pub placed : List Token → ReadErr → ParseErr
placed tokens (refusals.Wrong at) = errors.Syntax (place_of (drop at tokens))
placed tokens (refusals.Deep at) = errors.Deep (place_of (drop at tokens))
placed tokens refusals.Memory = errors.Memory

-- a refusal for this reason, by the place of the first of these tokens
abbrev pub error_of : Reason → List Token → ParseErr
error_of reading.Wrong rest = errors.Syntax (place_of rest)
error_of reading.Deep rest = errors.Deep (place_of rest)

-- The answer is what was read, and where what follows begins; or that nothing was, if memory isn't wanting.
abbrev pub Answers : {A : Type 0} → List Token → Result (A × ℕ) ParseErr → Result (A × List Token) Refused → Type 0
Answers tokens (Ok found) read = read ≡ Ok (found.0, drop found.1 tokens)
Answers tokens (Err error) read =
    error ≢ errors.Memory → (refused : Refused) × (read ≡ Err refused) × (error ≡ error_of refused.reason refused.rest)

-- what was read, or the refusal by its place
abbrev pub answered : {A : Type 0} → List Token → Result A ReadErr → Result A ParseErr
answered tokens (Ok found) = Ok found
answered tokens (Err error) = Err (placed tokens error)

-- The place is that of a token such that no such phrase, of depth at most the limit, begins with the tokens up to and with it,
-- and some phrase, of any depth, begins with the tokens in front of it.
pub record RefusedAt {A : Type 0} (marks : A → List Mark) (depth : A → ℕ) (limit : ℕ) (tokens : List Token) (error : ParseErr) : Type 0 where
  pub rest : List Token
  pub some : rest ≢ []
  pub none : NoPhraseBegins marks depth limit tokens rest
  pub begun : PhraseBegun marks tokens rest
  pub placed : (error ≡ errors.Syntax (place_of rest)) ⊎ (error ≡ errors.Deep (place_of rest))
