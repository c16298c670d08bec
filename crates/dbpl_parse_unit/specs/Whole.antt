-- What the parser answers of a whole text.
use Rattle.std.specs.Prelude.{◌≡◌, ◌≢◌, ◌⊎◌, List, [], Result, Ok, Err}
use Rattle.dbpl_base.specs.declared.token.Token.{Token}
use Rattle.dbpl_grammar.specs.Laws.{NoneBegins, TextBegun}
use Rattle.dbpl_grammar.specs.Reading.{Refused}
use Rattle.dbpl_parse_expr.specs.Calls.{error_of, place_of}
use Rattle.dbpl_parse_expr.specs.declared.parse_err.ParseErr.{ParseErr}
use Rattle.dbpl_parse_expr.specs.declared.parse_err.ParseErr.TheVariants as errors

-- The answer is what was read; or nothing was read, if memory isn't wanting, and the refusal is by its place.
abbrev pub Whole : {A : Type 0} → Result A ParseErr → Result A Refused → Type 0
Whole (Ok found) read = read ≡ Ok found
Whole (Err error) read =
    error ≢ errors.Memory → (refused : Refused) × (read ≡ Err refused) × (error ≡ error_of refused.reason refused.rest)

-- The place is that of a token such that no unit of depth at most the limit begins with the tokens up to and with it,
-- and some unit begins with those in front of it.
pub record TextRefusedAt (tokens : List Token) (error : ParseErr) : Type 0 where
  pub rest : List Token
  pub some : rest ≢ []
  pub none : NoneBegins tokens rest
  pub begun : TextBegun tokens rest
  pub placed : (error ≡ errors.Syntax (place_of rest)) ⊎ (error ≡ errors.Deep (place_of rest))
