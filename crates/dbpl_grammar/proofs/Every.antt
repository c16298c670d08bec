-- The laws where each tree of its type is meant.
use Rattle.std.proofs.Common.{◌≡◌, ℕ, max, Bool, true, false, ◌&&◌, List, [], ◌∷◌, ◌++◌, flat_map, Option, Some, None, refl, arith}
use Rattle.dbpl_base.specs.declared.lexeme.Lexeme.{Lexeme}
use Rattle.dbpl_tree.specs.Depths.{greatest, option_depth}
use Rattle.dbpl_tree.specs.Marks.{Mark, option_marks}
use Rattle.dbpl_grammar.specs.Reading.{Parser, ◌<$>◌, ◌⊗◌, many, optional}
use Rattle.dbpl_grammar.proofs.ChoiceLaw.{IfThere, law_all, law_optional}
use Rattle.dbpl_grammar.proofs.JoinLaw.{first_of, law_made, law_seq, may_follow}
use Rattle.dbpl_grammar.proofs.Law.{Law}
use Rattle.dbpl_grammar.proofs.ListLaw.{EachIs, law_many}

-- the law of every tree of this type
abbrev pub Every : {A : Type 0} → (A → List Mark) → (A → ℕ) → ℕ → List Lexeme → List Lexeme → Bool → Parser A → Type 0
Every {A = A} marks depth limit first more empty read = Law marks depth limit first more empty (λ (x : A). Unit {0}) read

pub both : {A B : Type 0} {w : A → List Mark} {n : A → ℕ} {limit : ℕ} {first more : List Lexeme} {empty : Bool} {read : Parser A} {w' : B → List Mark} {n' : B → ℕ} {second wider : List Lexeme} {none : Bool} {next : Parser B} → Law w n limit first more empty (λ (x : A). Unit {0}) read → Law w' n' limit second wider none (λ (x : B). Unit {0}) next → may_follow more second none wider ≡ true → Law (λ (x : A × B). w x.0 ++ w' x.1) (λ (x : A × B). max (n x.0) (n' x.1)) limit (first_of empty first second) wider (empty && none) (λ (x : A × B). Unit {0}) (read ⊗ next)
both {A = A} {B = B} law later follows = law_all (λ (x : A × B). Unit {0}) (λ x is. (tt, tt)) (λ x is. tt) (law_seq law later follows)

any_there : {A : Type 0} (x : Option A) → IfThere (λ (x : A). Unit {0}) x
any_there None = tt
any_there (Some x) = tt

pub maybe : {A : Type 0} {w : A → List Mark} {n : A → ℕ} {limit : ℕ} {first more : List Lexeme} {read : Parser A} → Law w n limit first more false (λ (x : A). Unit {0}) read → Law (option_marks w) (option_depth n) limit first (first ++ more) true (λ (x : Option A). Unit {0}) (optional first read)
maybe {A = A} law = law_all (λ (x : Option A). Unit {0}) (λ x is. any_there x) (λ x is. tt) (law_optional law)

any_each : {A : Type 0} (xs : List A) → EachIs (λ (x : A). Unit {0}) xs
any_each [] = tt
any_each (x ∷ xs) = (tt, any_each xs)

pub all_those : {A : Type 0} {w : A → List Mark} {n : A → ℕ} {limit : ℕ} {first more : List Lexeme} {read : Parser A} → Law w n limit first more false (λ (x : A). Unit {0}) read → may_follow more first true (first ++ more) ≡ true → Law (flat_map w) (greatest n) limit first (first ++ more) true (λ (x : List A). Unit {0}) (many first read)
all_those {A = A} law follows = law_all (λ (x : List A). Unit {0}) (λ x is. any_each x) (λ x is. tt) (law_many law follows)

-- trees of one alternative, made of what was read
pub variant : {A B : Type 0} {w : A → List Mark} {n : A → ℕ} {limit : ℕ} {first more : List Lexeme} {empty : Bool} {read : Parser A} (w' : B → List Mark) (n' : B → ℕ) → Law w n limit first more empty (λ (x : A). Unit {0}) read → (make : A → B) → ((x : A) → w' (make x) ≡ w x) → ((x : A) → n' (make x) ≡ n x) → Law w' n' limit first more empty (λ (y : B). (x : A) × (make x ≡ y)) (make <$> read)
variant {A = A} {B = B} w' n' law make marks depth =
    law_made make w' n' (λ (y : B). (x : A) × (make x ≡ y)) law (λ x is. marks x) (λ x is. depth x) (λ x is. (x, refl)) (λ y is. (is.0, tt, is.1))

-- every tree is made so
pub made : {A B : Type 0} {w : A → List Mark} {n : A → ℕ} {limit : ℕ} {first more : List Lexeme} {empty : Bool} {read : Parser A} (w' : B → List Mark) (n' : B → ℕ) → Law w n limit first more empty (λ (x : A). Unit {0}) read → (make : A → B) (unmake : B → A) → ((x : A) → w' (make x) ≡ w x) → ((x : A) → n' (make x) ≡ n x) → ((y : B) → make (unmake y) ≡ y) → Law w' n' limit first more empty (λ (y : B). Unit {0}) (make <$> read)
made {A = A} {B = B} w' n' law make unmake marks depth again =
    law_all (λ (y : B). Unit {0}) (λ y is. (unmake y, again y)) (λ y is. tt) (variant w' n' law make marks depth)

-- ---- what has nothing deep in it

pub shallow_list : {A : Type 0} (xs : List A) → greatest (λ (x : A). 0) xs ≡ 0
shallow_list [] = refl
shallow_list (x ∷ xs) = let one = shallow_list xs in omega arith

pub shallow_option : {A : Type 0} (x : Option A) → option_depth (λ (y : A). 0) x ≡ 0
shallow_option None = refl
shallow_option (Some x) = refl
