-- Expressions and designators over any factors are read where nothing longer begins.
use Rattle.std.proofs.Common.{◌≡◌, ℕ, max, true, false, List, [], ◌∷◌, ◌++◌, append-nil, None, refl, sym, subst, arith, ◌⊎◌, inl, inr}
use Rattle.std.proofs.lemmas.Bool.{or_cases}
use Rattle.dbpl_base.specs.declared.lexeme.Lexeme.{Lexeme}
use Rattle.dbpl_base.specs.declared.lexeme.Lexeme.TheVariants as lexemes
use Rattle.dbpl_base.specs.declared.place.Place.{Place}
use Rattle.dbpl_base.specs.declared.token.Token.{Token}
use Rattle.dbpl_tree.specs.Depths.{added_depth, arguments_depth, compared_depth, designator_depth, expr_depth, multiplied_depth, option_depth, simple_depth, term_depth}
use Rattle.dbpl_tree.specs.Expressions.{added_marks, arguments_marks, compared_marks, designator_marks, expr_marks, exprs_marks, multiplied_marks, part_marks, simple_marks, term_marks}
use Rattle.dbpl_tree.specs.Marks.{Mark, Of, Meets, option_marks}
use Rattle.dbpl_tree.specs.Operators.{sign_lexeme}
use Rattle.dbpl_tree.specs.Words.{full_stop, left_bracket, left_parenthesis, right_bracket, right_parenthesis}
use Rattle.dbpl_tree.specs.declared.designator.ArgumentsOf.{ArgumentsOf}
use Rattle.dbpl_tree.specs.declared.designator.PartOf.{PartOf}
use Rattle.dbpl_tree.specs.declared.designator.PartOf.TheVariants.{Field, Subscripts}
use Rattle.dbpl_tree.specs.declared.expr.ComparedOf.{ComparedOf}
use Rattle.dbpl_tree.specs.declared.expr.ExprOf.{ExprOf}
use Rattle.dbpl_tree.specs.declared.operators.SignOperator.{SignOperator}
use Rattle.dbpl_tree.specs.declared.simple.AddedOf.{AddedOf}
use Rattle.dbpl_tree.specs.declared.term.MultipliedOf.{MultipliedOf}
use Rattle.dbpl_grammar.specs.Expressions.{added, adding_first, arguments, compared, designator, expr, expr_first, factor_first, ident_first, multiplied, multiplying_first, part_first, relations_first, signs_first, simple, term}
use Rattle.dbpl_grammar.specs.Reading.{Parser, among, like, optional}
use Rattle.dbpl_grammar.proofs.Every.{Every, shallow_option}
use Rattle.dbpl_grammar.proofs.ExprLaw.{expr_more, factor_more, law_arguments, law_part, simple_more, term_more}
use Rattle.dbpl_grammar.proofs.Longest.{Starts}
use Rattle.dbpl_grammar.proofs.MeetsLaw.{meets_join, meets_swap}
use Rattle.dbpl_grammar.proofs.NameLaw.{law_ident}
use Rattle.dbpl_grammar.proofs.OperatorLaw.{law_adding, law_multiplying, law_relation, law_sign}
use Rattle.dbpl_grammar.proofs.OperatorTables.{all_adding, all_multiplying, all_relation, all_sign}
use Rattle.dbpl_grammar.proofs.Sets.{fixed_is}
use Rattle.dbpl_grammar.proofs.Sharp.{Sharp, SomeOf, bare_many, bare_maybe, only_one, sharp_both, sharp_here, sharp_made, sharp_many, sharp_maybe, sharp_pair, sharp_plain, starts_leaf}

starts_sign : Starts (λ (x : SignOperator). Of (sign_lexeme x) ∷ []) (λ (x : SignOperator). Unit {0}) signs_first
starts_sign = starts_leaf sign_lexeme signs_first all_sign

-- a spelling that ends here goes on with nothing
meets_nothing : (marks : List Mark) (tokens : List Token) → Meets tokens marks [] → Meets tokens (marks ++ []) []
meets_nothing marks tokens h = subst (λ (ms : List Mark). Meets tokens ms []) (sym (append-nil marks)) h

module _ {F : Type 0} (w : F → List Mark) (some : SomeOf w) where
  some_term : SomeOf (term_marks w)
  some_term =
      (record { place = some.1.place; first = some.0; others = [] }, some.1, some.2, (refl, meets_nothing (w some.0) (some.1 ∷ some.2) some.3))

  some_simple : SomeOf (simple_marks w)
  some_simple =
      (record { place = some_term.1.place; sign = None; first = some_term.0; others = [] }, some_term.1, some_term.2, (refl, meets_nothing (term_marks w some_term.0) (some_term.1 ∷ some_term.2) some_term.3))

  pub some_expr : SomeOf (expr_marks w)
  some_expr =
      (record { place = some_simple.1.place; left = some_simple.0; right = None }, some_simple.1, some_simple.2, (refl, meets_nothing (simple_marks w some_simple.0) (some_simple.1 ∷ some_simple.2) some_simple.3))

module _ {F : Type 0} {w : F → List Mark} {n : F → ℕ} {limit : ℕ} {factor : Parser F} (sharp : Sharp w n limit factor_first factor_more false factor) (some : SomeOf w) where
  sharp_multiplied : Sharp (multiplied_marks w) (multiplied_depth n) limit multiplying_first factor_more false (multiplied factor)
  unfolding multiplied
  sharp_multiplied =
      sharp_made (multiplied_marks w) (multiplied_depth n) (sharp_both (sharp_here limit) (sharp_both (sharp_plain (law_multiplying limit)) sharp refl) refl) (λ found. record { place = found.0; operator = found.1.0; factor = found.1.1 }) (λ x. (x.place, (x.operator, x.factor))) (λ x. refl) (λ x. omega arith) (λ x. refl)

  starts_multiplied : Starts (multiplied_marks w) (λ (x : MultipliedOf F). Unit {0}) multiplying_first
  starts_multiplied token is =
      let one = all_multiplying token.lexeme is in
      (record { place = token.place; operator = one.0; factor = some.0 }, some.1 ∷ some.2, tt, (refl, (one.1, some.3)))

  sharp_term : Sharp (term_marks w) (term_depth n) limit factor_first term_more false (term factor)
  unfolding term
  sharp_term =
      sharp_made (term_marks w) (term_depth n) (sharp_both (sharp_here limit) (sharp_pair sharp (sharp_many sharp_multiplied refl starts_multiplied) (bare_many sharp_multiplied) refl) refl) (λ found. record { place = found.0; first = found.1.0; others = found.1.1 }) (λ x. (x.place, (x.first, x.others))) (λ x. refl) (λ x. omega arith) (λ x. refl)

  sharp_added : Sharp (added_marks w) (added_depth n) limit adding_first term_more false (added factor)
  unfolding added
  sharp_added =
      sharp_made (added_marks w) (added_depth n) (sharp_both (sharp_here limit) (sharp_both (sharp_plain (law_adding limit)) sharp_term refl) refl) (λ found. record { place = found.0; operator = found.1.0; term = found.1.1 }) (λ x. (x.place, (x.operator, x.term))) (λ x. refl) (λ x. omega arith) (λ x. refl)

  starts_added : Starts (added_marks w) (λ (x : AddedOf F). Unit {0}) adding_first
  starts_added token is =
      let one = all_adding token.lexeme is in
      (record { place = token.place; operator = one.0; term = (some_term w some).0 }, (some_term w some).1 ∷ (some_term w some).2, tt, (refl, (one.1, (some_term w some).3)))

  sharp_simple : Sharp (simple_marks w) (simple_depth n) limit expr_first simple_more false (simple factor)
  unfolding simple
  sharp_simple =
      sharp_made (simple_marks w) (simple_depth n) (sharp_both (sharp_here limit) (sharp_both (sharp_maybe (sharp_plain (law_sign limit)) starts_sign) (sharp_pair sharp_term (sharp_many sharp_added refl starts_added) (bare_many sharp_added) refl) refl) refl) (λ found. record { place = found.0; sign = found.1.0; first = found.1.1.0; others = found.1.1.1 }) (λ x. (x.place, (x.sign, (x.first, x.others)))) (λ x. refl) (λ x. let none = shallow_option x.1.0 in omega arith) (λ x. refl)

  sharp_compared : Sharp (compared_marks w) (compared_depth n) limit relations_first simple_more false (compared factor)
  unfolding compared
  sharp_compared =
      sharp_made (compared_marks w) (compared_depth n) (sharp_both (sharp_here limit) (sharp_both (sharp_plain (law_relation limit)) sharp_simple refl) refl) (λ found. record { place = found.0; relation = found.1.0; right = found.1.1 }) (λ x. (x.place, (x.relation, x.right))) (λ x. refl) (λ x. omega arith) (λ x. refl)

  starts_compared : Starts (compared_marks w) (λ (x : ComparedOf F). Unit {0}) relations_first
  starts_compared token is =
      let one = all_relation token.lexeme is in
      (record { place = token.place; relation = one.0; right = (some_simple w some).0 }, (some_simple w some).1 ∷ (some_simple w some).2, tt, (refl, (one.1, (some_simple w some).3)))

  -- but for itself, which counts one more
  pub sharp_expr_inside : Sharp (expr_marks w) (λ (x : ExprOf F). max (simple_depth n x.left) (option_depth (compared_depth n) x.right)) limit expr_first expr_more false (expr factor)
  unfolding expr
  sharp_expr_inside =
      sharp_made (expr_marks w) (λ (x : ExprOf F). max (simple_depth n x.left) (option_depth (compared_depth n) x.right)) (sharp_both (sharp_here limit) (sharp_pair sharp_simple (sharp_maybe sharp_compared starts_compared) (bare_maybe sharp_compared) refl) refl) (λ found. record { place = found.0; left = found.1.0; right = found.1.1 }) (λ x. (x.place, (x.left, x.right))) (λ x. refl) (λ x. omega arith) (λ x. refl)

-- ---- designators

abbrev pub a_place : Place
a_place = record { unit = 0; line = 0; col = 0 }

abbrev pub sign_token : Lexeme → Token
sign_token lexeme = record { lexeme = lexeme; place = a_place }

-- a spelling, and a word or sign behind it
meets_closed : (lexeme : Lexeme) (marks : List Mark) (tokens : List Token) → Meets tokens marks [] → Meets (tokens ++ sign_token lexeme ∷ []) (marks ++ Of lexeme ∷ []) []
meets_closed lexeme marks tokens h =
    meets_join marks (Of lexeme ∷ []) (tokens ++ sign_token lexeme ∷ []) (sign_token lexeme ∷ []) [] (meets_swap marks tokens [] (sign_token lexeme ∷ []) tt (subst (λ (t : List Token). Meets t marks []) (sym (append-nil tokens)) h)) (refl, refl)

module _ {F : Type 0} (w : F → List Mark) (n : F → ℕ) {limit : ℕ} {read : Parser (ExprOf F)} (law : Every (expr_marks w) (expr_depth n) limit expr_first expr_more false read) (some : SomeOf (expr_marks w)) where
  starts_part : Starts (part_marks w) (λ (x : PartOf F). Unit {0}) part_first
  starts_part token is = by_lexeme (or_cases (like full_stop token.lexeme) (among (left_bracket ∷ []) token.lexeme) is)
    where
      by_lexeme : (like full_stop token.lexeme ≡ true) ⊎ (among (left_bracket ∷ []) token.lexeme ≡ true) → (x : PartOf F) × (behind : List Token) × Unit {0} × Meets (token ∷ behind) (part_marks w x) []
      by_lexeme (inl same) =
          (Field (record { place = a_place; name = [] }), sign_token (lexemes.Ident []) ∷ [], tt, (fixed_is full_stop token.lexeme refl same, (refl, (refl, refl))))
      by_lexeme (inr later) =
          (Subscripts token.place (record { first = some.0; others = [] }), some.1 ∷ (some.2 ++ sign_token right_bracket ∷ []), tt, (refl, (only_one left_bracket token.lexeme refl later, meets_closed right_bracket (exprs_marks w (record { first = some.0; others = [] })) (some.1 ∷ some.2) (meets_nothing (expr_marks w some.0) (some.1 ∷ some.2) some.3))))

  pub sharp_designator : Sharp (designator_marks w) (designator_depth n) limit ident_first part_first false (designator read)
  unfolding designator
  sharp_designator =
      sharp_made (designator_marks w) (designator_depth n) (sharp_pair (sharp_plain (law_ident limit)) (sharp_many (sharp_plain (law_part w n law)) refl starts_part) (bare_many (sharp_plain (law_part w n law))) refl) (λ found. record { head = found.0; parts = found.1 }) (λ x. (x.head, x.parts)) (λ x. refl) (λ x. omega arith) (λ x. refl)

  starts_arguments : Starts (arguments_marks w) (λ (x : ArgumentsOf F). Unit {0}) (left_parenthesis ∷ [])
  starts_arguments token is =
      (record { place = token.place; exprs = None }, sign_token right_parenthesis ∷ [], tt, (refl, (only_one left_parenthesis token.lexeme refl is, (refl, refl))))

  -- the arguments of a call, if there are any
  pub sharp_maybe_arguments : Sharp (option_marks (arguments_marks w)) (option_depth (arguments_depth n)) limit (left_parenthesis ∷ []) (left_parenthesis ∷ []) true (optional (left_parenthesis ∷ []) (arguments read))
  sharp_maybe_arguments = sharp_maybe (sharp_plain (law_arguments w n law)) starts_arguments
