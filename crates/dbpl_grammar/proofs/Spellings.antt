-- Spellings that begin with tokens: other tokens of the same lexemes spell a tree too.
use Rattle.std.proofs.Common.{◌≡◌, ◌≤◌, List, [], ◌∷◌, ◌++◌, length, length-append, append_assoc, refl, sym, ap, ap₂, ◌∙◌, arith}
use Rattle.dbpl_base.specs.Scans.{lexemes_of}
use Rattle.dbpl_base.specs.declared.lexeme.Lexeme.{Lexeme}
use Rattle.dbpl_base.specs.declared.place.Place.{Place}
use Rattle.dbpl_base.specs.declared.token.Token.{Token}
use Rattle.dbpl_tree.specs.Marks.{Mark, Of, Before, Meets, lexemes_in}
use Rattle.dbpl_grammar.specs.Laws.{SpellingBegins}
use Rattle.dbpl_grammar.proofs.Law.{Lexed}
use Rattle.dbpl_grammar.proofs.OpenLaw.{token_at}

-- the shorter of two rests stands behind the other one's first token
pub behind_next : (front other ahead rest : List Token) (next : Token) → ahead ++ rest ≡ front ++ next ∷ other → length rest ≤ length other → (between : List Token) × (other ≡ between ++ rest)
behind_next front other [] rest next e le =
    let lengths : length rest ≡ length (front ++ next ∷ other) = ap (λ (t : List Token). length t) e in
    let parts = length-append front (next ∷ other) in
    absurd (omega arith)
behind_next [] other (token ∷ ahead) rest next e le = (ahead, sym (ap (λ (t : List Token). tail_of t) e))
  where
    tail_of : List Token → List Token
    tail_of [] = []
    tail_of (first ∷ others) = others
behind_next (first ∷ front) other (token ∷ ahead) rest next e le =
    behind_next front other ahead rest next (ap (λ (t : List Token). tail_of t) e) le
  where
    tail_of : List Token → List Token
    tail_of [] = []
    tail_of (first ∷ others) = others

-- tokens of these lexemes
pub tokens_of : Place → List Lexeme → List Token
tokens_of place [] = []
tokens_of place (lexeme ∷ lexemes) = token_at place lexeme ∷ tokens_of place lexemes

lexemes_back : (place : Place) (lexemes : List Lexeme) → lexemes_of (tokens_of place lexemes) ≡ lexemes
unfolding tokens_of
lexemes_back place [] = refl
lexemes_back place (lexeme ∷ lexemes) = ap (λ (ls : List Lexeme). lexeme ∷ ls) (lexemes_back place lexemes)

pub lexemes_of_append : (front rest : List Token) → lexemes_of (front ++ rest) ≡ lexemes_of front ++ lexemes_of rest
lexemes_of_append [] rest = refl
lexemes_of_append (token ∷ front) rest = ap (λ (ls : List Lexeme). token.lexeme ∷ ls) (lexemes_of_append front rest)

-- the tokens in front of the rest have the lexemes of the spelling
pub meets_lexemes : (marks : List Mark) (tokens rest : List Token) → Meets tokens marks rest → (front : List Token) × (tokens ≡ front ++ rest) × (lexemes_in marks ≡ lexemes_of front)
meets_lexemes [] tokens rest h = ([], h, refl)
meets_lexemes (mark ∷ marks) [] rest h = absurd h
meets_lexemes (Of lexeme ∷ marks) (token ∷ tokens) rest h =
    let more = meets_lexemes marks tokens rest h.1 in
    (token ∷ more.0, ap (λ (t : List Token). token ∷ t) more.1, ap₂ (λ (l : Lexeme) (ls : List Lexeme). l ∷ ls) (sym h.0) more.2)
meets_lexemes (Before place ∷ marks) (token ∷ tokens) rest h = meets_lexemes marks (token ∷ tokens) rest h.1

-- tokens of the lexemes of a spelling, and one more behind them
pub lexed : (marks : List Mark) (tokens : List Token) (last : Token) → lexemes_in marks ≡ lexemes_of tokens → Lexed (tokens ++ last ∷ []) marks (last ∷ [])
lexed [] [] last e = refl
lexed [] (token ∷ tokens) last e = absurd (let none : [] ≡ token.lexeme ∷ lexemes_of tokens = e in cc)
lexed (Of lexeme ∷ marks) [] last e = absurd (let some : lexeme ∷ lexemes_in marks ≡ [] = e in cc)
lexed (Of lexeme ∷ marks) (token ∷ tokens) last e =
    (sym (ap (λ (ls : List Lexeme). head_or lexeme ls) e), lexed marks tokens last (ap (λ (ls : List Lexeme). tail_of ls) e))
  where
    head_or : Lexeme → List Lexeme → Lexeme
    head_or lexeme [] = lexeme
    head_or lexeme (l ∷ ls) = l

    tail_of : List Lexeme → List Lexeme
    tail_of [] = []
    tail_of (l ∷ ls) = ls
lexed (Before place ∷ marks) [] last e = lexed marks [] last e
lexed (Before place ∷ marks) (token ∷ tokens) last e = lexed marks (token ∷ tokens) last e

-- the tokens that a spelling begins with, and others that complete it
pub completing : (spelling : List Lexeme) (front : List Token) (next : Token) → SpellingBegins spelling (front ++ next ∷ []) → (behind : List Token) × (spelling ≡ lexemes_of (front ++ next ∷ behind))
completing spelling front next begins =
    let behind = tokens_of next.place begins.0 in
    (behind, begins.1 ∙ ap (λ (ls : List Lexeme). lexemes_of (front ++ next ∷ []) ++ ls) (sym (lexemes_back next.place begins.0)) ∙ sym (lexemes_of_append (front ++ next ∷ []) behind) ∙ ap (λ (t : List Token). lexemes_of t) (append_assoc front (next ∷ []) behind))

-- a spelling that goes beyond these tokens begins with them
pub begins_so : (spelling : List Lexeme) (front between : List Token) → spelling ≡ lexemes_of (front ++ between) → SpellingBegins spelling front
begins_so spelling front between e = (lexemes_of between, e ∙ lexemes_of_append front between)

-- tokens of the lexemes of marks with a word or sign at the end
pub lexed_closed : (marks : List Mark) (lexeme : Lexeme) (tokens : List Token) → lexemes_in (marks ++ Of lexeme ∷ []) ≡ lexemes_of tokens → Lexed tokens (marks ++ Of lexeme ∷ []) []
lexed_closed [] lexeme [] e = absurd (let some : lexeme ∷ [] ≡ [] = e in cc)
lexed_closed [] lexeme (token ∷ []) e = (sym (ap (λ (ls : List Lexeme). head_or lexeme ls) e), refl)
  where
    head_or : Lexeme → List Lexeme → Lexeme
    head_or lexeme [] = lexeme
    head_or lexeme (l ∷ ls) = l
lexed_closed [] lexeme (token ∷ next ∷ tokens) e =
    absurd (let lengths : length (lexeme ∷ []) ≡ length (token.lexeme ∷ next.lexeme ∷ lexemes_of tokens) = ap (λ (ls : List Lexeme). length ls) e in omega arith)
lexed_closed (Of first ∷ marks) lexeme [] e = absurd (let some : first ∷ lexemes_in (marks ++ Of lexeme ∷ []) ≡ [] = e in cc)
lexed_closed (Of first ∷ marks) lexeme (token ∷ tokens) e =
    (sym (ap (λ (ls : List Lexeme). head_or first ls) e), lexed_closed marks lexeme tokens (ap (λ (ls : List Lexeme). tail_of ls) e))
  where
    head_or : Lexeme → List Lexeme → Lexeme
    head_or lexeme [] = lexeme
    head_or lexeme (l ∷ ls) = l

    tail_of : List Lexeme → List Lexeme
    tail_of [] = []
    tail_of (l ∷ ls) = ls
lexed_closed (Before place ∷ marks) lexeme [] e = never marks (lexed_closed marks lexeme [] e)
  where
    never : (marks : List Mark) → Lexed [] (marks ++ Of lexeme ∷ []) [] → ⊥
    never [] h = h
    never (mark ∷ marks) h = h
lexed_closed (Before place ∷ marks) lexeme (token ∷ tokens) e = lexed_closed marks lexeme (token ∷ tokens) e
