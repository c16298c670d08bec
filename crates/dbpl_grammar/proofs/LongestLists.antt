-- The same for a choice, for a phrase that may be absent, and for phrases that stand again and again.
use Rattle.std.proofs.Common.{◌≡◌, ℕ, zero, suc, ◌≤◌, ◌<◌, Bool, true, false, ◌&&◌, ◌⊎◌, inl, inr, List, [], ◌∷◌, ◌++◌, length, flat_map, append_assoc, append-nil, length-append, Option, Some, None, Ok, refl, sym, ap, ap₂, ◌∙◌, subst, zero-le, le_refl, arith, not-suc-le-zero, true≢false}
use Rattle.dbpl_base.specs.declared.lexeme.Lexeme.{Lexeme}
use Rattle.dbpl_base.specs.declared.token.Token.{Token}
use Rattle.dbpl_tree.specs.Depths.{greatest, option_depth}
use Rattle.dbpl_tree.specs.Marks.{Mark, Meets, option_marks}
use Rattle.dbpl_grammar.specs.Reading.{Parser, among, begins, either, many, many_from, optional}
use Rattle.dbpl_grammar.proofs.ChoiceLaw.{begins_with}
use Rattle.dbpl_grammar.proofs.JoinLaw.{ends_before}
use Rattle.dbpl_grammar.proofs.Law.{BeginsBy, Law, by_nothing, by_token}
use Rattle.dbpl_grammar.proofs.ListLaw.{takes_one}
use Rattle.dbpl_grammar.proofs.Longest.{Exact, Longest, Starts, none_ends}
use Rattle.dbpl_grammar.proofs.MeetsLaw.{meets_front, meets_join, meets_split, meets_swap, no_front, same_front, same_place}
use Rattle.dbpl_grammar.proofs.Numbers.{max_left, max_right}
use Rattle.dbpl_grammar.proofs.Sets.{apart}

and_true : (b : Bool) → b ≡ true → (b && true) ≡ true
and_true true e = refl
and_true false e = e

-- where a phrase would begin, nothing was longest
not_begun : {A B : Type 0} (w : A → List Mark) (Is : A → Type 0) (w' : B → List Mark) (Is' : B → Type 0) (first : List Lexeme) (make : A → B) → ((x : A) → Is x → Is' (make x)) → ((x : A) → w' (make x) ≡ w x) → Starts w Is first → (next : Token) → Longest w' Is' [] next → among first next.lexeme ≡ false
not_begun w Is w' Is' first make to marks starts next longest = by_answer (among first next.lexeme) refl
  where
    by_answer : (b : Bool) → among first next.lexeme ≡ b → among first next.lexeme ≡ false
    by_answer true is =
        let one = starts next is in
        absurd (longest one.1 [] (make one.0) (to one.0 one.2) (subst (λ (ms : List Mark). Meets (next ∷ one.1) ms []) (sym (marks one.0)) one.3) zero-le)
    by_answer false is = is

-- ---- a choice

module _ {A : Type 0} {w : A → List Mark} {n : A → ℕ} {limit : ℕ} {first more : List Lexeme} {Is : A → Type 0} {read : Parser A} {second more' : List Lexeme} {empty : Bool} {Is' : A → Type 0} {other : Parser A} (law : Law w n limit first more false Is read) (law' : Law w n limit second more' empty Is' other) (exact : Exact w n limit Is read) (exact' : Exact w n limit Is' other) (apart_too : apart second first ≡ true) (starts : empty ≡ true → Starts w Is first) where
  other_begins : (x : A) (front behind : List Token) (next : Token) → Longest w (λ (y : A). Is y ⊎ Is' y) front next → BeginsBy second empty (front ++ next ∷ behind) (next ∷ behind) → begins first (front ++ next ∷ behind) ≡ false
  other_begins x front behind next longest (by_token token rest split is shorter) =
      ends_before first second [] false (front ++ next ∷ behind) (next ∷ behind) (and_true (apart second first) apart_too) (by_token token rest split is shorter) (none_ends (next ∷ behind))
  other_begins x front behind next longest (by_nothing e split) =
      ap (begins first) split ∙ not_begun w Is w (λ (y : A). Is y ⊎ Is' y) first (λ y. y) (λ y is. inl is) (λ y. refl) (starts e) next (subst (λ (f : List Token). Longest w (λ (y : A). Is y ⊎ Is' y) f next) (no_front front (next ∷ behind) split) longest)

  either_exact : (front behind : List Token) (next : Token) (x : A) → Is x ⊎ Is' x → n x ≤ limit → Meets (front ++ next ∷ behind) (w x) (next ∷ behind) → Longest w (λ (y : A). Is y ⊎ Is' y) front next → either first read other (front ++ next ∷ behind) ≡ Ok (x, next ∷ behind)
  either_exact front behind next x (inl is) fits meets longest =
      rw (begins_with first (front ++ next ∷ behind) (next ∷ behind) (law.begins_by x (front ++ next ∷ behind) (next ∷ behind) is fits meets)) (exact.reads front behind next x is fits meets (λ other rest y good m le. longest other rest y (inl good) m le))
  either_exact front behind next x (inr is) fits meets longest =
      rw (other_begins x front behind next longest (law'.begins_by x (front ++ next ∷ behind) (next ∷ behind) is fits meets)) (exact'.reads front behind next x is fits meets (λ other rest y good m le. longest other rest y (inr good) m le))

  pub exact_either : Exact w n limit (λ (y : A). Is y ⊎ Is' y) (either first read other)
  exact_either = record { reads = either_exact }

-- where the other isn't empty, no spelling has to begin with each lexeme
pub not_empty : {A : Type 0} (w : A → List Mark) (Is : A → Type 0) (first : List Lexeme) → false ≡ true → Starts w Is first
not_empty w Is first e = absurd (true≢false (sym e))

-- ---- a phrase or nothing

module _ {A : Type 0} {w : A → List Mark} {n : A → ℕ} {limit : ℕ} {first more : List Lexeme} {read : Parser A} (law : Law w n limit first more false (λ (x : A). Unit {0}) read) (exact : Exact w n limit (λ (x : A). Unit {0}) read) (starts : Starts w (λ (x : A). Unit {0}) first) where
  optional_exact : (front behind : List Token) (next : Token) (x : Option A) → option_depth n x ≤ limit → Meets (front ++ next ∷ behind) (option_marks w x) (next ∷ behind) → Longest (option_marks w) (λ (y : Option A). Unit {0}) front next → optional first read (front ++ next ∷ behind) ≡ Ok (x, next ∷ behind)
  optional_exact front behind next None fits meets longest =
      let none = not_begun w (λ (x : A). Unit {0}) (option_marks w) (λ (x : Option A). Unit {0}) first (λ y. Some y) (λ y is. tt) (λ y. refl) starts next (subst (λ (f : List Token). Longest (option_marks w) (λ (y : Option A). Unit {0}) f next) (no_front front (next ∷ behind) meets) longest) in
      rw (ap (begins first) meets ∙ none) (ap (λ (t : List Token). Ok (None, t)) meets)
  optional_exact front behind next (Some x) fits meets longest =
      rw (begins_with first (front ++ next ∷ behind) (next ∷ behind) (law.begins_by x (front ++ next ∷ behind) (next ∷ behind) tt fits meets), exact.reads front behind next x tt fits meets (λ other rest y good m le. longest other rest (Some y) tt m le)) refl

  pub exact_optional : Exact (option_marks w) (option_depth n) limit (λ (x : Option A). Unit {0}) (optional first read)
  exact_optional = record {
    reads = λ front behind next x is fits meets longest. optional_exact front behind next x fits meets longest;
  }

-- ---- again and again

module _ {A : Type 0} {w : A → List Mark} {n : A → ℕ} {limit : ℕ} {first more : List Lexeme} {read : Parser A} (law : Law w n limit first more false (λ (x : A). Unit {0}) read) (exact : Exact w n limit (λ (x : A). Unit {0}) read) (starts : Starts w (λ (x : A). Unit {0}) first) (follows : apart first more ≡ true) where
  -- the first of them, where these tokens lead from it to the next
  one_exact : (x : A) (xs : List A) (front middle behind : List Token) (next : Token) → n x ≤ limit → greatest n xs ≤ limit → Meets (front ++ (middle ++ next ∷ behind)) (w x) (middle ++ next ∷ behind) → Meets (middle ++ next ∷ behind) (flat_map w xs) (next ∷ behind) → Longest (flat_map w) (λ (ys : List A). Unit {0}) (front ++ middle) next → read (front ++ (middle ++ next ∷ behind)) ≡ Ok (x, middle ++ next ∷ behind)
  one_exact x [] front [] behind next fits fits' h k longest =
      exact.reads front behind next x tt fits h (λ other rest y good m le.
      longest other rest (y ∷ []) tt (subst (λ (ms : List Mark). Meets ((front ++ []) ++ next ∷ other) ms rest) (sym (append-nil (w y))) (subst (λ (f : List Token). Meets (f ++ next ∷ other) (w y) rest) (sym (append-nil front)) m)) le)
  one_exact x [] front (token ∷ middle) behind next fits fits' h k longest =
      let lengths : length ((token ∷ middle) ++ next ∷ behind) ≡ length (next ∷ behind) = ap (λ (t : List Token). length t) k in
      let parts = length-append (token ∷ middle) (next ∷ behind) in
      absurd (omega arith)
  one_exact x (y ∷ ys) front middle behind next fits fits' h k longest =
      let parts = meets_split (w y) (flat_map w ys) (middle ++ next ∷ behind) (next ∷ behind) k in
      let begun = law.begins_by y (middle ++ next ∷ behind) parts.0 tt (max_left (n y) (greatest n ys) limit fits') parts.1 in
      law.reads x (front ++ (middle ++ next ∷ behind)) (middle ++ next ∷ behind) tt fits h (ends_before more first [] false (middle ++ next ∷ behind) parts.0 (and_true (apart first more) follows) begun (none_ends parts.0))

  many_exact : (xs : List A) (turns : ℕ) (before : List A) (front behind : List Token) (next : Token) → greatest n xs ≤ limit → Meets (front ++ next ∷ behind) (flat_map w xs) (next ∷ behind) → Longest (flat_map w) (λ (ys : List A). Unit {0}) front next → length (front ++ next ∷ behind) < turns → many_from first read turns before (front ++ next ∷ behind) ≡ Ok (before ++ xs, next ∷ behind)
  many_exact xs zero before front behind next fits meets longest enough = absurd (not-suc-le-zero enough)
  many_exact [] (suc turns) before front behind next fits meets longest enough =
      let none = not_begun w (λ (x : A). Unit {0}) (flat_map w) (λ (xs : List A). Unit {0}) first (λ y. y ∷ []) (λ y is. tt) (λ y. append-nil (w y)) starts next (subst (λ (f : List Token). Longest (flat_map w) (λ (ys : List A). Unit {0}) f next) (no_front front (next ∷ behind) meets) longest) in
      rw (ap (begins first) meets ∙ none) (ap₂ (λ (ys : List A) (t : List Token). Ok (ys, t)) (sym (append-nil before)) meets)
  many_exact (x ∷ xs) (suc turns) before front behind next fits meets longest enough =
      let parts = meets_split (w x) (flat_map w xs) (front ++ next ∷ behind) (next ∷ behind) meets in
      let ahead = meets_front (w x) (front ++ next ∷ behind) parts.0 parts.1 in
      let between = meets_front (flat_map w xs) parts.0 (next ∷ behind) parts.2 in
      let same : front ≡ ahead.0 ++ between.0 = same_front front (ahead.0 ++ between.0) (next ∷ behind) (ahead.1 ∙ ap (λ (t : List Token). ahead.0 ++ t) between.1 ∙ sym (append_assoc ahead.0 between.0 (next ∷ behind))) in
      let all : front ++ next ∷ behind ≡ ahead.0 ++ (between.0 ++ next ∷ behind) = ahead.1 ∙ ap (λ (t : List Token). ahead.0 ++ t) between.1 in
      let h = subst (λ (t : List Token). Meets t (w x) (between.0 ++ next ∷ behind)) all (subst (λ (t : List Token). Meets (front ++ next ∷ behind) (w x) t) between.1 parts.1) in
      let k = subst (λ (t : List Token). Meets t (flat_map w xs) (next ∷ behind)) between.1 parts.2 in
      let long = subst (λ (f : List Token). Longest (flat_map w) (λ (ys : List A). Unit {0}) f next) same longest in
      let one = one_exact x xs ahead.0 between.0 behind next (max_left (n x) (greatest n xs) limit fits) (max_right (n x) (greatest n xs) limit fits) h k long in
      let begun = law.begins_by x (ahead.0 ++ (between.0 ++ next ∷ behind)) (between.0 ++ next ∷ behind) tt (max_left (n x) (greatest n xs) limit fits) h in
      let shorter = takes_one first (ahead.0 ++ (between.0 ++ next ∷ behind)) (between.0 ++ next ∷ behind) begun in
      let enough_left : length (ahead.0 ++ (between.0 ++ next ∷ behind)) < suc turns = subst (λ (t : List Token). length t < suc turns) all enough in
      let later = many_exact xs turns (before ++ x ∷ []) between.0 behind next (max_right (n x) (greatest n xs) limit fits) k (λ other rest ys good m le.
      long other rest (x ∷ ys) tt (subst (λ (t : List Token). Meets t (w x ++ flat_map w ys) rest) (sym (append_assoc ahead.0 between.0 (next ∷ other))) (meets_join (w x) (flat_map w ys) (ahead.0 ++ (between.0 ++ next ∷ other)) (between.0 ++ next ∷ other) rest (meets_swap (w x) ahead.0 (between.0 ++ next ∷ behind) (between.0 ++ next ∷ other) (same_place between.0 behind other next) h) m)) le) (omega arith) in
      subst (λ (t : List Token). many_from first read (suc turns) before t ≡ Ok (before ++ x ∷ xs, next ∷ behind)) (sym all) (rw (begins_with first (ahead.0 ++ (between.0 ++ next ∷ behind)) (between.0 ++ next ∷ behind) begun, one) (later ∙ ap (λ (ys : List A). Ok (ys, next ∷ behind)) (append_assoc before (x ∷ []) xs)))

  pub exact_many : Exact (flat_map w) (greatest n) limit (λ (x : List A). Unit {0}) (many first read)
  exact_many = record {
    reads = λ front behind next x is fits meets longest.
        many_exact x (suc (length (front ++ next ∷ behind))) [] front behind next fits meets longest (le_refl (suc (length (front ++ next ∷ behind))));
  }
