-- A phrase is read where nothing longer begins with its tokens and the next one, whatever that is.
use Rattle.std.proofs.Common.{◌≡◌, ℕ, suc, ◌≤◌, max, Bool, true, false, ◌&&◌, List, [], ◌∷◌, ◌++◌, length, append_assoc, append-nil, length-append, Ok, refl, sym, ap, ◌∙◌, subst, arith}
use Rattle.dbpl_base.specs.declared.lexeme.Lexeme.{Lexeme}
use Rattle.dbpl_base.specs.declared.token.Token.{Token}
use Rattle.dbpl_tree.specs.Marks.{Mark, Meets}
use Rattle.dbpl_grammar.specs.Reading.{Parser, ◌<$>◌, ◌⊗>◌, among}
use Rattle.dbpl_grammar.proofs.JoinLaw.{ends_before}
use Rattle.dbpl_grammar.proofs.Law.{BeginsBy, Ends, Law, by_nothing, by_token}
use Rattle.dbpl_grammar.proofs.MeetsLaw.{meets_front, meets_join, meets_split, meets_swap, same_front, same_place}
use Rattle.dbpl_grammar.proofs.Numbers.{max_left, max_right}
use Rattle.dbpl_grammar.proofs.Sets.{apart}

-- no spelling begins with these tokens and the next one
abbrev pub Longest : {A : Type 0} → (A → List Mark) → (A → Type 0) → List Token → Token → Type 0
Longest {A = A} marks Is front next =
    (other rest : List Token) (x : A) → Is x → Meets (front ++ next ∷ other) (marks x) rest → length rest ≤ length other → ⊥

-- what is spelled, where nothing longer is, is read
pub record Exact {A : Type 0} (marks : A → List Mark) (depth : A → ℕ) (limit : ℕ) (Is : A → Type 0) (read : Parser A) : Type 0 where
  pub reads : (front behind : List Token) (next : Token) (x : A) → Is x → depth x ≤ limit → Meets (front ++ next ∷ behind) (marks x) (next ∷ behind) → Longest marks Is front next → read (front ++ next ∷ behind) ≡ Ok (x, next ∷ behind)

-- with each of these lexemes a spelling begins
abbrev pub Starts : {A : Type 0} → (A → List Mark) → (A → Type 0) → List Lexeme → Type 0
Starts {A = A} marks Is first =
    (token : Token) → among first token.lexeme ≡ true → (x : A) × (behind : List Token) × Is x × Meets (token ∷ behind) (marks x) []

-- ---- what reads to a fixed end

pub none_ends : (tokens : List Token) → Ends [] tokens
none_ends [] = refl
none_ends (token ∷ tokens) = refl

pub exact_plain : {A : Type 0} {w : A → List Mark} {n : A → ℕ} {limit : ℕ} {first : List Lexeme} {empty : Bool} {Is : A → Type 0} {read : Parser A} → Law w n limit first [] empty Is read → Exact w n limit Is read
exact_plain law = record {
  reads = λ front behind next x is fits meets longest.
      law.reads x (front ++ next ∷ behind) (next ∷ behind) is fits meets (none_ends (next ∷ behind));
}

pub exact_never : {A : Type 0} (w : A → List Mark) (n : A → ℕ) (limit : ℕ) (Is : A → Type 0) (read : Parser A) → ((x : A) → n x ≤ limit → ⊥) → Exact w n limit Is read
exact_never w n limit Is read never = record {
  reads = λ front behind next x is fits meets longest. absurd (never x fits);
}

-- ---- said otherwise

pub exact_counted : {A : Type 0} {w : A → List Mark} {n : A → ℕ} {limit : ℕ} {Is : A → Type 0} {read : Parser A} → Exact w n limit Is read → Exact w (λ (x : A). suc (n x)) (suc limit) Is read
exact_counted exact = record {
  reads = λ front behind next x is fits meets longest. exact.reads front behind next x is (omega arith) meets longest;
}

pub exact_all : {A : Type 0} {w : A → List Mark} {n : A → ℕ} {limit : ℕ} {Is : A → Type 0} {read : Parser A} (Is' : A → Type 0) → ((x : A) → Is' x → Is x) → ((x : A) → Is x → Is' x) → Exact w n limit Is read → Exact w n limit Is' read
exact_all Is' to back exact = record {
  reads = λ front behind next x is fits meets longest.
      exact.reads front behind next x (to x is) fits meets (λ other rest y good m le. longest other rest y (back y good) m le);
}

pub exact_made : {A B : Type 0} {w : A → List Mark} {n : A → ℕ} {limit : ℕ} {Is : A → Type 0} {read : Parser A} (w' : B → List Mark) (n' : B → ℕ) (Is' : B → Type 0) → Exact w n limit Is read → (make : A → B) → ((x : A) → Is x → w' (make x) ≡ w x) → ((x : A) → Is x → n' (make x) ≡ n x) → ((x : A) → Is x → Is' (make x)) → ((y : B) → Is' y → (x : A) × Is x × (make x ≡ y)) → Exact w' n' limit Is' (make <$> read)
exact_made {A = A} {B = B} {limit = limit} {read = read} w' n' Is' exact make marks depth to back = record {
  reads = λ front behind next y is fits meets longest.
      (let made = back y is in
      let spelled = subst (λ (ms : List Mark). Meets (front ++ next ∷ behind) ms (next ∷ behind)) (sym (ap w' made.2) ∙ marks made.0 made.1) meets in
      let one = exact.reads front behind next made.0 made.1 (subst (λ (k : ℕ). k ≤ limit) (sym (ap n' made.2) ∙ depth made.0 made.1) fits) spelled (λ other rest x good m le. longest other rest (make x) (to x good) (subst (λ (ms : List Mark). Meets (front ++ next ∷ other) ms rest) (sym (marks x good)) m) le) in
      rw one (ap (λ (x : B). Ok (x, next ∷ behind)) made.2));
}

-- ---- one behind the other

module _ {A B : Type 0} {w : A → List Mark} {n : A → ℕ} {limit : ℕ} {first more : List Lexeme} {empty : Bool} {Is : A → Type 0} {read : Parser A} {w' : B → List Mark} {n' : B → ℕ} {second wider : List Lexeme} {none : Bool} {Is' : A → B → Type 0} {next_read : A → Parser B} (law : Law w n limit first more empty Is read) (later : (found : A) → Is found → Law w' n' limit second wider none (Is' found) (next_read found)) (follows : apart second more ≡ true) (exact : Exact w n limit Is read) (exact' : (found : A) → Is found → Exact w' n' limit (Is' found) (next_read found)) (bare : (y : B) (rest : List Token) → n' y ≤ limit → Meets rest (w' y) rest → w' y ≡ []) (free : (x x' : A) (y : B) → w' y ≡ [] → Is' x y → Is' x' y) where
  -- the first part, where these tokens lead from it to the next
  first_read : (x : A) (y : B) (front middle behind : List Token) (next : Token) → Is x → Is' x y → n x ≤ limit → n' y ≤ limit → Meets (front ++ (middle ++ next ∷ behind)) (w x) (middle ++ next ∷ behind) → Meets (middle ++ next ∷ behind) (w' y) (next ∷ behind) → Longest (λ (z : A × B). w z.0 ++ w' z.1) (λ (z : A × B). Is z.0 × Is' z.0 z.1) (front ++ middle) next → BeginsBy second none (middle ++ next ∷ behind) (next ∷ behind) → read (front ++ (middle ++ next ∷ behind)) ≡ Ok (x, middle ++ next ∷ behind)
  first_read x y front middle behind next is is' fits fits' h k longest (by_token token rest split begun shorter) =
      law.reads x (front ++ (middle ++ next ∷ behind)) (middle ++ next ∷ behind) is fits h (ends_before more second [] false (middle ++ next ∷ behind) (next ∷ behind) (both_true (apart second more) follows) (by_token token rest split begun shorter) (none_ends (next ∷ behind)))
    where
      both_true : (b : Bool) → b ≡ true → (b && true) ≡ true
      both_true true e = refl
      both_true false e = e
  first_read x y front [] behind next is is' fits fits' h k longest (by_nothing e split) =
      let empty_y = bare y (next ∷ behind) fits' k in
      exact.reads front behind next x is fits h (λ other rest x' good m le.
      longest other rest (x', y) (good, free x x' y empty_y is') (subst (λ (ms : List Mark). Meets ((front ++ []) ++ next ∷ other) ms rest) (sym (append-nil (w x')) ∙ ap (λ (ms : List Mark). w x' ++ ms) (sym empty_y)) (subst (λ (f : List Token). Meets (f ++ next ∷ other) (w x') rest) (sym (append-nil front)) m)) le)
  first_read x y front (token ∷ middle) behind next is is' fits fits' h k longest (by_nothing e split) =
      let lengths : length ((token ∷ middle) ++ next ∷ behind) ≡ length (next ∷ behind) = ap (λ (t : List Token). length t) split in
      let parts = length-append (token ∷ middle) (next ∷ behind) in
      absurd (omega arith)

  then_exact : (x : A) (y : B) (front middle behind : List Token) (next : Token) → Is x → Is' x y → n x ≤ limit → n' y ≤ limit → Meets (front ++ (middle ++ next ∷ behind)) (w x) (middle ++ next ∷ behind) → Meets (middle ++ next ∷ behind) (w' y) (next ∷ behind) → Longest (λ (z : A × B). w z.0 ++ w' z.1) (λ (z : A × B). Is z.0 × Is' z.0 z.1) (front ++ middle) next → (read ⊗> next_read) (front ++ (middle ++ next ∷ behind)) ≡ Ok ((x, y), next ∷ behind)
  then_exact x y front middle behind next is is' fits fits' h k longest =
      let one = first_read x y front middle behind next is is' fits fits' h k longest ((later x is).begins_by y (middle ++ next ∷ behind) (next ∷ behind) is' fits' k) in
      let two = (exact' x is).reads middle behind next y is' fits' k (λ other rest y' good m le.
      longest other rest (x, y') (is, good) (subst (λ (t : List Token). Meets t (w x ++ w' y') rest) (sym (append_assoc front middle (next ∷ other))) (meets_join (w x) (w' y') (front ++ (middle ++ next ∷ other)) (middle ++ next ∷ other) rest (meets_swap (w x) front (middle ++ next ∷ behind) (middle ++ next ∷ other) (same_place middle behind other next) h) m)) le) in
      rw (one, two) refl

  pub exact_then : Exact (λ (z : A × B). w z.0 ++ w' z.1) (λ (z : A × B). max (n z.0) (n' z.1)) limit (λ (z : A × B). Is z.0 × Is' z.0 z.1) (read ⊗> next_read)
  exact_then = record {
    reads = λ front behind next z is fits meets longest.
        (let parts = meets_split (w z.0) (w' z.1) (front ++ next ∷ behind) (next ∷ behind) meets in
        let before = meets_front (w z.0) (front ++ next ∷ behind) parts.0 parts.1 in
        let between = meets_front (w' z.1) parts.0 (next ∷ behind) parts.2 in
        let same : front ≡ before.0 ++ between.0 = same_front front (before.0 ++ between.0) (next ∷ behind) (before.1 ∙ ap (λ (t : List Token). before.0 ++ t) between.1 ∙ sym (append_assoc before.0 between.0 (next ∷ behind))) in
        let all : front ++ next ∷ behind ≡ before.0 ++ (between.0 ++ next ∷ behind) = before.1 ∙ ap (λ (t : List Token). before.0 ++ t) between.1 in
        let h = subst (λ (t : List Token). Meets t (w z.0) (between.0 ++ next ∷ behind)) all (subst (λ (t : List Token). Meets (front ++ next ∷ behind) (w z.0) t) between.1 parts.1) in
        let k = subst (λ (t : List Token). Meets t (w' z.1) (next ∷ behind)) between.1 parts.2 in
        let read_all = then_exact z.0 z.1 before.0 between.0 behind next is.0 is.1 (max_left (n z.0) (n' z.1) limit fits) (max_right (n z.0) (n' z.1) limit fits) h k (subst (λ (f : List Token). Longest (λ (y : A × B). w y.0 ++ w' y.1) (λ (y : A × B). Is y.0 × Is' y.0 y.1) f next) same longest) in
        subst (λ (t : List Token). (read ⊗> next_read) t ≡ Ok (z, next ∷ behind)) (sym all) read_all);
  }
