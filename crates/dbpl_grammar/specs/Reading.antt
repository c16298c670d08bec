-- What a function reads at the front of a list of tokens, and how such functions are put together.
use Rattle.std.specs.Prelude.{ℕ, zero, suc, Bool, true, false, ◌==◌, ◌&&◌, List, [], ◌∷◌, ◌++◌, length, Option, Some, None, Result, Ok, Err, if◌then◌else◌}
use Rattle.std.specs.List.{list_any}
use Rattle.dbpl_base.specs.declared.lexeme.Lexeme.{Lexeme}
use Rattle.dbpl_base.specs.declared.lexeme.Lexeme.TheVariants.{Ident, Number, CharCode, Text, Reserved, Sign, Finish}
use Rattle.dbpl_base.specs.declared.place.Place.{Place}
use Rattle.dbpl_base.specs.declared.token.Token.{Token}

-- no tree, or only a tree that is too deep
pub data Reason : Type 0 where
  Wrong : Reason
  Deep : Reason

-- why nothing was read, and the tokens from the one on at which that is seen
pub record Refused : Type 0 where
  pub reason : Reason
  pub rest : List Token

abbrev pub wrong : List Token → Refused
wrong rest = record { reason = Wrong; rest = rest }

abbrev pub deep : List Token → Refused
deep rest = record { reason = Deep; rest = rest }

-- what is read at the front of these tokens, and the tokens left
abbrev pub Parser : Type 0 → Type 0
Parser A = List Token → Result (A × List Token) Refused

infixl 10 ◌>>=◌
abbrev pub ◌>>=◌ : {A B : Type 0} → Result A Refused → (A → Result B Refused) → Result B Refused
Ok found >>= next = next found
Err refused >>= next = Err refused

-- ---- lexemes by their kinds

-- its kind, and which of them it is where there are several without a content
abbrev pub kind_of : Lexeme → ℕ × ℕ
kind_of (Ident name) = (0, 0)
kind_of (Number n) = (1, 0)
kind_of (CharCode n) = (2, 0)
kind_of (Text text) = (3, 0)
kind_of (Reserved row) = (4, row)
kind_of (Sign row) = (5, row)
kind_of Finish = (6, 0)

-- the same reserved word, the same sign, or two identifiers, two numbers, ..
abbrev pub like : Lexeme → Lexeme → Bool
like one other = (kind_of other).0 == (kind_of one).0 && (kind_of other).1 == (kind_of one).1

abbrev pub among : List Lexeme → Lexeme → Bool
among set lexeme = list_any (λ one. like one lexeme) set

-- the first token is like one of these lexemes
abbrev pub begins : List Lexeme → List Token → Bool
begins set [] = false
begins set (token ∷ tokens) = among set token.lexeme

-- ---- single tokens

-- the place of the first token, which stays
abbrev pub here : Parser Place
here [] = Err (wrong [])
here (token ∷ tokens) = Ok (token.place, token ∷ tokens)

-- what follows this word or sign
abbrev pub expect : Lexeme → List Token → Result (List Token) Refused
expect lexeme [] = Err (wrong [])
expect lexeme (token ∷ tokens) = if like lexeme token.lexeme then Ok tokens else Err (wrong (token ∷ tokens))

abbrev pub found_or : {A : Type 0} → Option A → List Token → List Token → Result (A × List Token) Refused
found_or None tokens rest = Err (wrong tokens)
found_or (Some found) tokens rest = Ok (found, rest)

-- a token that stands for a part of the tree
abbrev pub leaf : {A : Type 0} → (Lexeme → Option A) → Parser A
leaf meaning [] = Err (wrong [])
leaf meaning (token ∷ tokens) = found_or (meaning token.lexeme) (token ∷ tokens) tokens

-- which of these has this lexeme
abbrev pub by_table : {A : Type 0} → (A → Lexeme) → List A → Lexeme → Option A
by_table lexeme_of [] lexeme = None
by_table lexeme_of (one ∷ others) lexeme =
    if like (lexeme_of one) lexeme then Some one else by_table lexeme_of others lexeme

-- ---- one after another

infixl 20 ◌<$>◌
abbrev pub ◌<$>◌ : {A B : Type 0} → (A → B) → Parser A → Parser B
(make <$> read) tokens = read tokens >>= λ found. Ok (make found.0, found.1)

infixr 30 ◌⊗◌
abbrev pub ◌⊗◌ : {A B : Type 0} → Parser A → Parser B → Parser (A × B)
(read ⊗ next) tokens = read tokens >>= λ found. next found.1 >>= λ more. Ok ((found.0, more.0), more.1)

-- what is read behind depends on what was read
infixr 30 ◌⊗>◌
abbrev pub ◌⊗>◌ : {A B : Type 0} → Parser A → (A → Parser B) → Parser (A × B)
(read ⊗> next) tokens = read tokens >>= λ found. next found.0 found.1 >>= λ more. Ok ((found.0, more.0), more.1)

abbrev pub after : {A : Type 0} → Lexeme → Parser A → Parser A
after lexeme read tokens = expect lexeme tokens >>= λ rest. read rest

abbrev pub closed : {A : Type 0} → Parser A → Lexeme → Parser A
closed read lexeme tokens = read tokens >>= λ found. expect lexeme found.1 >>= λ rest. Ok (found.0, rest)

-- ---- by the first token

abbrev pub either : {A : Type 0} → List Lexeme → Parser A → Parser A → Parser A
either set read other tokens = if begins set tokens then read tokens else other tokens

abbrev pub nothing : {A : Type 0} → Parser (Option A)
nothing tokens = Ok (None, tokens)

abbrev pub optional : {A : Type 0} → List Lexeme → Parser A → Parser (Option A)
optional set read = either set ((λ found. Some found) <$> read) nothing

-- whether this word stands there
abbrev pub flag : Lexeme → Parser Bool
flag lexeme = either (lexeme ∷ []) (after lexeme (λ tokens. Ok (true, tokens))) (λ tokens. Ok (false, tokens))

-- these, and those that follow in at most so many turns
abbrev pub many_from : {A : Type 0} → List Lexeme → Parser A → ℕ → List A → Parser (List A)
many_from set read zero found tokens = Err (wrong tokens)
many_from set read (suc turns) found tokens =
    if begins set tokens then (read tokens >>= λ next. many_from set read turns (found ++ next.0 ∷ []) next.1)
    else Ok (found, tokens)

-- as many as there are
abbrev pub many : {A : Type 0} → List Lexeme → Parser A → Parser (List A)
many set read tokens = many_from set read (suc (length tokens)) [] tokens

-- no phrase may stand here any more: too deep where one begins
abbrev pub too_deep : {A : Type 0} → List Lexeme → Parser A
too_deep set tokens = if begins set tokens then Err (deep tokens) else Err (wrong tokens)
