-- What is proved of each reading function: it reads what is spelled, what it reads was spelled so, and what it answers
-- rests on the tokens up to the first one left.
use Rattle.std.proofs.Common.{◌≡◌, ℕ, ◌≤◌, Bool, true, false, not, List, [], ◌∷◌, ◌++◌, length, Result, Ok, Err}
use Rattle.std.specs.List.{list_all}
use Rattle.dbpl_base.specs.declared.lexeme.Lexeme.{Lexeme}
use Rattle.dbpl_base.specs.declared.lexeme.Lexeme.TheVariants.{Finish}
use Rattle.dbpl_base.specs.declared.place.Place.{Place}
use Rattle.dbpl_base.specs.declared.token.Token.{Token}
use Rattle.dbpl_tree.specs.Marks.{Mark, Of, Before, Meets, lexemes_in}
use Rattle.dbpl_grammar.specs.Reading.{Parser, Refused, among, begins, like}

-- how the tokens of a phrase begin, which lead to `rest`: with one of these lexemes, or the phrase has no token
pub data BeginsBy (first : List Lexeme) (empty : Bool) (tokens rest : List Token) : Type 0 where
  by_token : (token : Token) (behind : List Token) → tokens ≡ token ∷ behind → among first token.lexeme ≡ true → length rest ≤ length behind → BeginsBy first empty tokens rest
  by_nothing : empty ≡ true → tokens ≡ rest → BeginsBy first empty tokens rest

-- these tokens don't go on with one of these lexemes
abbrev pub Ends : List Lexeme → List Token → Type 0
Ends more rest = begins more rest ≡ false

-- this tree was spelled, and isn't too deep
pub record Wrote {A : Type 0} (marks : A → List Mark) (depth : A → ℕ) (limit : ℕ) (Is : A → Type 0) (found : A) (tokens rest : List Token) : Type 0 where
  pub is : Is found
  pub fits : depth found ≤ limit
  pub meets : Meets tokens (marks found) rest

-- the tokens left, also those that weren't read
abbrev pub left : {A : Type 0} → Result (A × List Token) Refused → List Token
left (Ok found) = found.1
left (Err refused) = refused.rest

-- the same answer, with these tokens left
abbrev pub leaving : {A : Type 0} → List Token → Result (A × List Token) Refused → Result (A × List Token) Refused
leaving rest (Ok found) = Ok (found.0, rest)
leaving rest (Err refused) = Err (record { reason = refused.reason; rest = rest })

-- the end of the text is not among them
abbrev pub no_end : List Token → Bool
no_end tokens = list_all (λ (token : Token). not (like Finish token.lexeme)) tokens

-- the answer rests on the tokens up to and with the first one left, and the end of the text is none of those in front
pub record Steady {A : Type 0} (read : Parser A) (tokens : List Token) (answer : Result (A × List Token) Refused) : Type 0 where
  pub front : List Token
  pub split : tokens ≡ front ++ left answer
  pub inside : no_end front ≡ true
  pub holds : (token : Token) (behind other : List Token) → left answer ≡ token ∷ behind → read (front ++ token ∷ other) ≡ leaving (token ∷ other) answer

-- ---- tokens that can be completed

-- these tokens begin at this place
abbrev pub StartsAt : Place → List Token → Type 0
StartsAt place [] = ⊥
StartsAt place (token ∷ rest) = token.place ≡ place

-- they do, if there are any
abbrev pub AtPlace : Place → List Token → Type 0
AtPlace place [] = Unit {0}
AtPlace place (token ∷ rest) = token.place ≡ place

-- each of them stands there
abbrev pub AllAt : Place → List Token → Type 0
AllAt place [] = Unit {0}
AllAt place (token ∷ tokens) = (token.place ≡ place) × AllAt place tokens

-- tokens at this place complete the front to a spelling, of any depth, where what stands behind begins there too
pub record Completed {A : Type 0} (marks : A → List Mark) (Is : A → Type 0) (place : Place) (front : List Token) : Type 0 where
  pub tree : A
  pub tokens : List Token
  pub is : Is tree
  pub placed : AllAt place tokens
  pub meets : (rest : List Token) → StartsAt place rest → Meets (front ++ (tokens ++ rest)) (marks tree) rest

-- the tokens in front of a refusal can be completed, at the place of the first one left
abbrev pub Opens : {A : Type 0} → (A → List Mark) → (A → Type 0) → Parser A → Type 0
Opens {A = A} marks Is read =
    (tokens front : List Token) (refused : Refused) (place : Place) → read tokens ≡ Err refused → tokens ≡ front ++ refused.rest → AtPlace place refused.rest → Completed marks Is place front

-- ---- lexemes alone

-- the tokens begin with the lexemes that the marks ask for, wherever they stand, and the rest stands behind
abbrev pub Lexed : List Token → List Mark → List Token → Type 0
Lexed tokens [] rest = tokens ≡ rest
Lexed [] (mark ∷ marks) rest = ⊥
Lexed (token ∷ tokens) (Of lexeme ∷ marks) rest = (token.lexeme ≡ lexeme) × Lexed tokens marks rest
Lexed (token ∷ tokens) (Before place ∷ marks) rest = Lexed (token ∷ tokens) marks rest

-- a tree of the same lexemes, with the places of these tokens
pub record Placed {A : Type 0} (marks : A → List Mark) (depth : A → ℕ) (limit : ℕ) (Is : A → Type 0) (found : A) (tokens rest : List Token) : Type 0 where
  pub tree : A
  pub is : Is tree
  pub fits : depth tree ≤ limit
  pub meets : Meets tokens (marks tree) rest
  pub same : lexemes_in (marks tree) ≡ lexemes_in (marks found)

-- The law of a reading function. Its trees are those that satisfy `Is`; their spellings begin with a lexeme of `first`
-- or may be empty; where none of `more` stands behind, the phrase ends.
pub record Law {A : Type 0} (marks : A → List Mark) (depth : A → ℕ) (limit : ℕ) (first more : List Lexeme) (empty : Bool) (Is : A → Type 0) (read : Parser A) : Type 0 where
  pub begins_by : (found : A) (tokens rest : List Token) → Is found → depth found ≤ limit → Meets tokens (marks found) rest → BeginsBy first empty tokens rest
  pub reads : (found : A) (tokens rest : List Token) → Is found → depth found ≤ limit → Meets tokens (marks found) rest → Ends more rest → read tokens ≡ Ok (found, rest)
  pub wrote : (found : A) (tokens rest : List Token) → read tokens ≡ Ok (found, rest) → Wrote marks depth limit Is found tokens rest
  pub steady : (tokens : List Token) → Steady read tokens (read tokens)
  pub some : (place : Place) → Completed marks Is place []
  pub opens : Opens marks Is read
  pub places : (found : A) (tokens rest : List Token) → Is found → depth found ≤ limit → Lexed tokens (marks found) rest → Placed marks depth limit Is found tokens rest
