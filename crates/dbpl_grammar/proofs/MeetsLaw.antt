-- Tokens that begin as a list of marks asks: two lists one behind the other.
use Rattle.std.proofs.Common.{◌≡◌, ◌≤◌, List, [], ◌∷◌, ◌++◌, length, refl, sym, ap, ap₂, ◌∙◌, subst, length-append, arith}
use Rattle.dbpl_base.specs.declared.token.Token.{Token}
use Rattle.dbpl_tree.specs.Marks.{Mark, Of, Before, Meets}

pub meets_split : (marks more : List Mark) (tokens rest : List Token) → Meets tokens (marks ++ more) rest → (middle : List Token) × Meets tokens marks middle × Meets middle more rest
meets_split [] more tokens rest h = (tokens, refl, h)
meets_split (mark ∷ marks) more [] rest h = absurd h
meets_split (Of lexeme ∷ marks) more (token ∷ tokens) rest h =
    let parts = meets_split marks more tokens rest h.1 in
    (parts.0, (h.0, parts.1), parts.2)
meets_split (Before place ∷ marks) more (token ∷ tokens) rest h =
    let parts = meets_split marks more (token ∷ tokens) rest h.1 in
    (parts.0, (h.0, parts.1), parts.2)

pub meets_join : (marks more : List Mark) (tokens middle rest : List Token) → Meets tokens marks middle → Meets middle more rest → Meets tokens (marks ++ more) rest
meets_join [] more tokens middle rest h k = subst (λ (t : List Token). Meets t more rest) (sym h) k
meets_join (mark ∷ marks) more [] middle rest h k = absurd h
meets_join (Of lexeme ∷ marks) more (token ∷ tokens) middle rest h k =
    (h.0, meets_join marks more tokens middle rest h.1 k)
meets_join (Before place ∷ marks) more (token ∷ tokens) middle rest h k =
    (h.0, meets_join marks more (token ∷ tokens) middle rest h.1 k)

pub meets_shorter : (marks : List Mark) (tokens rest : List Token) → Meets tokens marks rest → length rest ≤ length tokens
meets_shorter [] tokens rest h = let same : length tokens ≡ length rest = ap (λ (t : List Token). length t) h in omega arith
meets_shorter (mark ∷ marks) [] rest h = absurd h
meets_shorter (Of lexeme ∷ marks) (token ∷ tokens) rest h =
    let less = meets_shorter marks tokens rest h.1 in
    omega arith
meets_shorter (Before place ∷ marks) (token ∷ tokens) rest h = meets_shorter marks (token ∷ tokens) rest h.1

-- the tokens in front of the rest
pub meets_front : (marks : List Mark) (tokens rest : List Token) → Meets tokens marks rest → (front : List Token) × (tokens ≡ front ++ rest)
meets_front [] tokens rest h = ([], h)
meets_front (mark ∷ marks) [] rest h = absurd h
meets_front (Of lexeme ∷ marks) (token ∷ tokens) rest h =
    let more = meets_front marks tokens rest h.1 in
    (token ∷ more.0, ap (λ (t : List Token). token ∷ t) more.1)
meets_front (Before place ∷ marks) (token ∷ tokens) rest h = meets_front marks (token ∷ tokens) rest h.1

-- the second begins at the same place, if the first begins at all
abbrev pub SamePlace : List Token → List Token → Type 0
SamePlace [] other = Unit {0}
SamePlace (token ∷ rest) [] = ⊥
SamePlace (token ∷ rest) (first ∷ other) = first.place ≡ token.place

pub no_front : (front rest : List Token) → front ++ rest ≡ rest → front ≡ []
no_front [] rest e = refl
no_front (token ∷ front) rest e =
    let same : length ((token ∷ front) ++ rest) ≡ length rest = ap (λ (t : List Token). length t) e in
    let parts = length-append (token ∷ front) rest in
    absurd (omega arith)

-- a spelling stays one where something else stands behind
pub meets_swap : (marks : List Mark) (front rest other : List Token) → SamePlace rest other → Meets (front ++ rest) marks rest → Meets (front ++ other) marks other
meets_swap [] front rest other same h = rw (no_front front rest h) refl
meets_swap (Of lexeme ∷ marks) [] [] other same h = absurd h
meets_swap (Of lexeme ∷ marks) [] (token ∷ rest) other same h =
    let less = meets_shorter marks rest (token ∷ rest) h.1 in
    absurd (omega arith)
meets_swap (Of lexeme ∷ marks) (token ∷ front) rest other same h = (h.0, meets_swap marks front rest other same h.1)
meets_swap (Before place ∷ marks) [] [] other same h = absurd h
meets_swap (Before place ∷ marks) [] (token ∷ rest) [] same h = absurd same
meets_swap (Before place ∷ marks) [] (token ∷ rest) (first ∷ other) same h =
    (same ∙ h.0, meets_swap marks [] (token ∷ rest) (first ∷ other) same h.1)
meets_swap (Before place ∷ marks) (token ∷ front) rest other same h =
    (h.0, meets_swap marks (token ∷ front) rest other same h.1)

-- what stands in front of the same rest
pub same_front : (front other rest : List Token) → front ++ rest ≡ other ++ rest → front ≡ other
same_front [] [] rest e = refl
same_front [] (token ∷ other) rest e =
    let lengths : length rest ≡ length ((token ∷ other) ++ rest) = ap (λ (t : List Token). length t) e in
    let parts = length-append (token ∷ other) rest in
    absurd (omega arith)
same_front (token ∷ front) [] rest e =
    let lengths : length ((token ∷ front) ++ rest) ≡ length rest = ap (λ (t : List Token). length t) e in
    let parts = length-append (token ∷ front) rest in
    absurd (omega arith)
same_front (token ∷ front) (first ∷ other) rest e =
    let heads : token ≡ first = ap (λ (t : List Token). head_or token t) e in
    let tails = same_front front other rest (ap (λ (t : List Token). tail_of t) e) in
    ap₂ (λ (a : Token) (b : List Token). a ∷ b) heads tails
  where
    head_or : Token → List Token → Token
    head_or token [] = token
    head_or token (first ∷ others) = first

    tail_of : List Token → List Token
    tail_of [] = []
    tail_of (first ∷ others) = others

pub same_place : (front behind other : List Token) (next : Token) → SamePlace (front ++ next ∷ behind) (front ++ next ∷ other)
same_place [] behind other next = refl
same_place (token ∷ front) behind other next = refl
