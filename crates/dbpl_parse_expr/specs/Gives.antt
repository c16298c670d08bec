-- What the parser's functions answer by positions, beside what is read of lists of tokens.
use Rattle.std.specs.Prelude.{◌≡◌, ◌≢◌, ℕ, ◌+◌, List, [], ◌∷◌, drop, Result, Ok, Err}
use Rattle.dbpl_base.specs.declared.lexeme.Lexeme.{Lexeme}
use Rattle.dbpl_base.specs.declared.token.Token.{Token}
use Rattle.dbpl_grammar.specs.Reading.{Refused, deep, wrong}
use Rattle.dbpl_parse_expr.specs.declared.read_err.ReadErr.{ReadErr}
use Rattle.dbpl_parse_expr.specs.declared.read_err.ReadErr.TheVariants.{Wrong, Deep, Memory}

-- the token at this position says this
abbrev pub IsNext : Lexeme → List Token → ℕ → Type 0
IsNext lexeme tokens at = (token : Token) × (token.lexeme ≡ lexeme) × (drop at tokens ≡ token ∷ drop (at + 1) tokens)

-- a refusal at a position, as one at the tokens from there on
abbrev pub refused : List Token → ReadErr → Refused
refused tokens (Wrong at) = wrong (drop at tokens)
refused tokens (Deep at) = deep (drop at tokens)
refused tokens Memory = wrong []

-- the answer is this one, if memory isn't wanting
abbrev pub Gives : {A B : Type 0} → (A → B) → List Token → Result A ReadErr → Result B Refused → Type 0
Gives view tokens (Ok found) answer = answer ≡ Ok (view found)
Gives view tokens (Err error) answer = error ≢ Memory → answer ≡ Err (refused tokens error)

-- a part of the tree, and where what follows it begins
abbrev pub Reads : {A : Type 0} → List Token → Result (A × ℕ) ReadErr → Result (A × List Token) Refused → Type 0
Reads tokens result answer = Gives (λ found. (found.0, drop found.1 tokens)) tokens result answer

-- where what follows begins
abbrev pub Leads : List Token → Result ℕ ReadErr → Result (List Token) Refused → Type 0
Leads tokens result answer = Gives (λ next. drop next tokens) tokens result answer
