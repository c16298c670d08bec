-- The law of a reading function, with what is read where nothing longer begins; of phrases of which each tree is meant.
use Rattle.std.proofs.Common.{◌≡◌, ℕ, ◌≤◌, max, Bool, true, false, ◌&&◌, not, ◌||◌, List, [], ◌∷◌, ◌++◌, flat_map, map, ⊎_elim, Some, None, refl, sym, arith, true≢false}
use Rattle.std.proofs.lemmas.Bool.{and_parts, or_cases}
use Rattle.dbpl_base.specs.declared.lexeme.Lexeme.{Lexeme}
use Rattle.dbpl_base.specs.declared.place.Place.{Place}
use Rattle.dbpl_base.specs.declared.token.Token.{Token}
use Rattle.dbpl_tree.specs.Depths.{greatest, option_depth}
use Rattle.dbpl_tree.specs.Marks.{Mark, Of, Before, Meets, option_marks}
use Rattle.dbpl_grammar.specs.Reading.{Parser, ◌<$>◌, ◌⊗◌, among, here, like, many, optional}
use Rattle.dbpl_grammar.proofs.Every.{Every, all_those, both, made, maybe}
use Rattle.dbpl_grammar.proofs.JoinLaw.{first_of, may_follow}
use Rattle.dbpl_grammar.proofs.Law.{BeginsBy}
use Rattle.dbpl_grammar.proofs.ListLaw.{takes_one}
use Rattle.dbpl_grammar.proofs.Longest.{Exact, Starts, exact_all, exact_made, exact_plain, exact_then}
use Rattle.dbpl_grammar.proofs.LongestLists.{exact_many, exact_optional}
use Rattle.dbpl_grammar.proofs.MeetsLaw.{meets_shorter, meets_split}
use Rattle.dbpl_grammar.proofs.Numbers.{max_left}
use Rattle.dbpl_grammar.proofs.Sets.{apart, fixed_is, is_fixed, is_word, within, word_fixed}
use Rattle.dbpl_grammar.proofs.TokenLaw.{law_here}

pub record Sharp {A : Type 0} (marks : A → List Mark) (depth : A → ℕ) (limit : ℕ) (first more : List Lexeme) (empty : Bool) (read : Parser A) : Type 0 where
  pub law : Every marks depth limit first more empty read
  pub exact : Exact marks depth limit (λ (x : A). Unit {0}) read

-- a phrase without a token has no marks
abbrev pub Bare : {A : Type 0} → (A → List Mark) → (A → ℕ) → ℕ → Type 0
Bare {A = A} marks depth limit = (x : A) (rest : List Token) → depth x ≤ limit → Meets rest (marks x) rest → marks x ≡ []

takes_none : (first : List Lexeme) (rest : List Token) → BeginsBy first false rest rest → ⊥
takes_none first rest begun = let less = takes_one first rest rest begun in omega arith

pub bare_never : {A : Type 0} {w : A → List Mark} {n : A → ℕ} {limit : ℕ} {first more : List Lexeme} {read : Parser A} → Sharp w n limit first more false read → Bare w n limit
bare_never {first = first} sharp x rest fits meets =
    absurd (takes_none first rest (sharp.law.begins_by x rest rest tt fits meets))

pub bare_maybe : {A : Type 0} {w : A → List Mark} {n : A → ℕ} {limit : ℕ} {first more : List Lexeme} {read : Parser A} → Sharp w n limit first more false read → Bare (option_marks w) (option_depth n) limit
bare_maybe sharp None rest fits meets = refl
bare_maybe {first = first} sharp (Some x) rest fits meets =
    absurd (takes_none first rest (sharp.law.begins_by x rest rest tt fits meets))

pub bare_many : {A : Type 0} {w : A → List Mark} {n : A → ℕ} {limit : ℕ} {first more : List Lexeme} {read : Parser A} → Sharp w n limit first more false read → Bare (flat_map w) (greatest n) limit
bare_many sharp [] rest fits meets = refl
bare_many {w = w} {n = n} {limit = limit} {first = first} sharp (x ∷ xs) rest fits meets =
    let parts = meets_split (w x) (flat_map w xs) rest rest meets in
    let less = takes_one first rest parts.0 (sharp.law.begins_by x rest parts.0 tt (max_left (n x) (greatest n xs) limit fits) parts.1) in
    let more = meets_shorter (flat_map w xs) parts.0 rest parts.2 in
    absurd (omega arith)

-- ---- put together

pub sharp_plain : {A : Type 0} {w : A → List Mark} {n : A → ℕ} {limit : ℕ} {first : List Lexeme} {empty : Bool} {read : Parser A} → Every w n limit first [] empty read → Sharp w n limit first [] empty read
sharp_plain law = record { law = law; exact = exact_plain law }

pub sharp_here : (limit : ℕ) → Sharp (λ (p : Place). Before p ∷ []) (λ (p : Place). 0) limit [] [] true here
sharp_here limit = sharp_plain (law_here limit)

pub sharp_pair : {A B : Type 0} {w : A → List Mark} {n : A → ℕ} {limit : ℕ} {first more : List Lexeme} {empty : Bool} {read : Parser A} {w' : B → List Mark} {n' : B → ℕ} {second wider : List Lexeme} {none : Bool} {next : Parser B} → Sharp w n limit first more empty read → Sharp w' n' limit second wider none next → Bare w' n' limit → may_follow more second none wider ≡ true → Sharp (λ (x : A × B). w x.0 ++ w' x.1) (λ (x : A × B). max (n x.0) (n' x.1)) limit (first_of empty first second) wider (empty && none) (read ⊗ next)
sharp_pair {A = A} {B = B} {more = more} {second = second} {wider = wider} {none = none} one other bare follows = record {
  law = both one.law other.law follows;
  exact = exact_all (λ (x : A × B). Unit {0}) (λ x is. (tt, tt)) (λ x is. tt) (exact_then one.law (λ found is. other.law) (and_parts (apart second more) (not none || within more wider) follows).0 one.exact (λ found is. other.exact) bare (λ x x' y e is. tt));
}

-- the second takes a token
pub sharp_both : {A B : Type 0} {w : A → List Mark} {n : A → ℕ} {limit : ℕ} {first more : List Lexeme} {empty : Bool} {read : Parser A} {w' : B → List Mark} {n' : B → ℕ} {second wider : List Lexeme} {next : Parser B} → Sharp w n limit first more empty read → Sharp w' n' limit second wider false next → may_follow more second false wider ≡ true → Sharp (λ (x : A × B). w x.0 ++ w' x.1) (λ (x : A × B). max (n x.0) (n' x.1)) limit (first_of empty first second) wider (empty && false) (read ⊗ next)
sharp_both one other follows = sharp_pair one other (bare_never other) follows

pub sharp_maybe : {A : Type 0} {w : A → List Mark} {n : A → ℕ} {limit : ℕ} {first more : List Lexeme} {read : Parser A} → Sharp w n limit first more false read → Starts w (λ (x : A). Unit {0}) first → Sharp (option_marks w) (option_depth n) limit first (first ++ more) true (optional first read)
sharp_maybe sharp starts = record { law = maybe sharp.law; exact = exact_optional sharp.law sharp.exact starts }

pub sharp_many : {A : Type 0} {w : A → List Mark} {n : A → ℕ} {limit : ℕ} {first more : List Lexeme} {read : Parser A} → Sharp w n limit first more false read → may_follow more first true (first ++ more) ≡ true → Starts w (λ (x : A). Unit {0}) first → Sharp (flat_map w) (greatest n) limit first (first ++ more) true (many first read)
sharp_many {first = first} {more = more} sharp follows starts = record {
  law = all_those sharp.law follows;
  exact = exact_many sharp.law sharp.exact starts (and_parts (apart first more) (within more (first ++ more)) follows).0;
}

pub sharp_made : {A B : Type 0} {w : A → List Mark} {n : A → ℕ} {limit : ℕ} {first more : List Lexeme} {empty : Bool} {read : Parser A} (w' : B → List Mark) (n' : B → ℕ) → Sharp w n limit first more empty read → (make : A → B) (unmake : B → A) → ((x : A) → w' (make x) ≡ w x) → ((x : A) → n' (make x) ≡ n x) → ((y : B) → make (unmake y) ≡ y) → Sharp w' n' limit first more empty (make <$> read)
sharp_made {A = A} {B = B} w' n' sharp make unmake marks depth again = record {
  law = made w' n' sharp.law make unmake marks depth again;
  exact = exact_made w' n' (λ (y : B). Unit {0}) sharp.exact make (λ x is. marks x) (λ x is. depth x) (λ x is. tt) (λ y is. (unmake y, tt, again y));
}

-- ---- what a spelling begins with

-- a spelling with a first token
abbrev pub SomeOf : {A : Type 0} → (A → List Mark) → Type 0
SomeOf {A = A} marks = (x : A) × (token : Token) × (behind : List Token) × Meets (token ∷ behind) (marks x) []

-- a lexeme among those of a table is one of them
pub in_table : {A : Type 0} (lexeme_of : A → Lexeme) (table : List A) (lexeme : Lexeme) → ((x : A) → is_fixed (lexeme_of x) ≡ true) → among (map lexeme_of table) lexeme ≡ true → (x : A) × (lexeme ≡ lexeme_of x)
in_table lexeme_of [] lexeme fixed is = absurd (true≢false (sym is))
in_table {A = A} lexeme_of (one ∷ table) lexeme fixed is =
    ⊎_elim (λ same. (one, fixed_is (lexeme_of one) lexeme (fixed one) same)) (λ later. in_table lexeme_of table lexeme fixed later) (or_cases (like (lexeme_of one) lexeme) (among (map lexeme_of table) lexeme) is)

pub starts_leaf : {A : Type 0} (lexeme_of : A → Lexeme) (first : List Lexeme) → ((lexeme : Lexeme) → among first lexeme ≡ true → (x : A) × (lexeme ≡ lexeme_of x)) → Starts (λ (x : A). Of (lexeme_of x) ∷ []) (λ (x : A). Unit {0}) first
starts_leaf lexeme_of first all token is =
    let one = all token.lexeme is in
    (one.0, [], tt, (one.1, refl))

-- a lexeme among one is that one
pub only_one : (one lexeme : Lexeme) → is_word one ≡ true → among (one ∷ []) lexeme ≡ true → lexeme ≡ one
only_one one lexeme word is =
    fixed_is one lexeme (word_fixed one word) (left_true (like one lexeme) is)
  where
    left_true : (b : Bool) → (b || false) ≡ true → b ≡ true
    left_true true e = refl
    left_true false e = e
