-- What was read, where the reading's result is known by an equation.
use Rattle.std.proofs.Common.{◌≡◌, ◌≢◌, ℕ, List, drop, Result, Ok, Err, subst}
use Rattle.dbpl_base.specs.declared.token.Token.{Token}
use Rattle.dbpl_grammar.specs.Reading.{Refused}
use Rattle.dbpl_parse_expr.specs.Gives.{Leads, Reads, refused}
use Rattle.dbpl_parse_expr.specs.declared.read_err.ReadErr.{ReadErr}
use Rattle.dbpl_parse_expr.specs.declared.read_err.ReadErr.TheVariants.{Memory}

pub read_ok : {A : Type 0} (tokens : List Token) (result : Result (A × ℕ) ReadErr) (answer : Result (A × List Token) Refused) (found : A) (next : ℕ) → result ≡ Ok (found, next) → Reads tokens result answer → answer ≡ Ok (found, drop next tokens)
read_ok tokens result answer found next e h = subst (λ r. Reads tokens r answer) e h

pub read_err : {A : Type 0} (tokens : List Token) (result : Result (A × ℕ) ReadErr) (answer : Result (A × List Token) Refused) (error : ReadErr) → result ≡ Err error → Reads tokens result answer → error ≢ Memory → answer ≡ Err (refused tokens error)
read_err tokens result answer error e h = subst (λ r. Reads tokens r answer) e h

pub led_ok : (tokens : List Token) (result : Result ℕ ReadErr) (answer : Result (List Token) Refused) (next : ℕ) → result ≡ Ok next → Leads tokens result answer → answer ≡ Ok (drop next tokens)
led_ok tokens result answer next e h = subst (λ r. Leads tokens r answer) e h

pub led_err : (tokens : List Token) (result : Result ℕ ReadErr) (answer : Result (List Token) Refused) (error : ReadErr) → result ≡ Err error → Leads tokens result answer → error ≢ Memory → answer ≡ Err (refused tokens error)
led_err tokens result answer error e h = subst (λ r. Leads tokens r answer) e h

pub ruleset pairs = (read_ok, read_err, led_ok, led_err)
