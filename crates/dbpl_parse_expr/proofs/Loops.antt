-- A loop that reads one part after another, beside the same by a count of turns.
use Rattle.std.proofs.Common.{◌≡◌, ℕ, suc, true, false, ◌+◌, ◌-◌, ◌<◌, ◌≤◌, ◌∙◌, List, [], ◌∷◌, ◌++◌, length, Result, Ok, Err, refl, arith}
use Rattle.dbpl_base.specs.declared.lexeme.Lexeme.{Lexeme}
use Rattle.dbpl_base.specs.declared.token.Token.{Token}
use Rattle.dbpl_grammar.specs.Reading.{Parser, Refused, begins, many, many_from, wrong}

one_turn : (n turn : ℕ) → turn < n → n - turn ≡ suc (n - (turn + 1))
one_turn n turn below = omega (arith, below)

-- nothing is read yet
pub starts : {A : Type 0} (set : List Lexeme) (read : Parser A) (n : ℕ) (tokens : List Token) → n ≡ suc (length tokens) → many set read tokens ≡ many_from set read (n - 0) [] tokens
starts set read n tokens is = let none : n - 0 ≡ suc (length tokens) = omega (arith, is) in rw none refl

-- nothing more is read
pub stops : {A : Type 0} (set : List Lexeme) (read : Parser A) (n turn : ℕ) (found : List A) (tokens : List Token) (whole : Result (List A × List Token) Refused) → turn < n → whole ≡ many_from set read (n - turn) found tokens → begins set tokens ≡ false → whole ≡ Ok (found, tokens)
stops set read n turn found tokens whole below h e = h ∙ (rw (one_turn n turn below, e) refl)

-- one more can't be read
pub fails : {A : Type 0} (set : List Lexeme) (read : Parser A) (n turn : ℕ) (found : List A) (tokens : List Token) (whole : Result (List A × List Token) Refused) (refused : Refused) → turn < n → whole ≡ many_from set read (n - turn) found tokens → begins set tokens ≡ true → read tokens ≡ Err refused → whole ≡ Err refused
fails set read n turn found tokens whole refused below h e r = h ∙ (rw (one_turn n turn below, e, r) refl)

-- one more is read
pub goes_on : {A : Type 0} (set : List Lexeme) (read : Parser A) (n turn : ℕ) (found : List A) (tokens : List Token) (whole : Result (List A × List Token) Refused) (next : A) (rest : List Token) → turn < n → whole ≡ many_from set read (n - turn) found tokens → begins set tokens ≡ true → read tokens ≡ Ok (next, rest) → whole ≡ many_from set read (n - (turn + 1)) (found ++ next ∷ []) rest
goes_on set read n turn found tokens whole next rest below h e r = h ∙ (rw (one_turn n turn below, e, r) refl)

-- no turn is left
pub ends : {A : Type 0} (set : List Lexeme) (read : Parser A) (n turn : ℕ) (found : List A) (tokens : List Token) (whole : Result (List A × List Token) Refused) → n ≤ turn → whole ≡ many_from set read (n - turn) found tokens → whole ≡ Err (wrong tokens)
ends set read n turn found tokens whole done h = let none : n - turn ≡ 0 = omega (arith, done) in h ∙ (rw none refl)

pub ruleset loops = (starts, stops, fails, goes_on, ends)
