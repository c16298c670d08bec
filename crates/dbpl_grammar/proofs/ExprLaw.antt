-- The law of expressions and designators, over any factors.
use Rattle.std.proofs.Common.{◌≡◌, ℕ, max, false, ◌⊎◌, inl, inr, List, [], ◌∷◌, ◌++◌, refl, arith}
use Rattle.dbpl_base.specs.declared.lexeme.Lexeme.{Lexeme}
use Rattle.dbpl_base.specs.declared.place.Place.{Place}
use Rattle.dbpl_tree.specs.Depths.{added_depth, arguments_depth, compared_depth, designator_depth, expr_depth, exprs_depth, multiplied_depth, option_depth, part_depth, simple_depth, term_depth}
use Rattle.dbpl_tree.specs.Expressions.{added_marks, arguments_marks, compared_marks, designator_marks, expr_marks, exprs_marks, multiplied_marks, part_marks, simple_marks, term_marks}
use Rattle.dbpl_tree.specs.Marks.{Mark}
use Rattle.dbpl_tree.specs.Words.{comma, full_stop, left_brace, left_bracket, left_parenthesis, right_bracket, right_parenthesis}
use Rattle.dbpl_tree.specs.declared.designator.PartOf.{PartOf}
use Rattle.dbpl_tree.specs.declared.designator.PartOf.TheVariants.{Field, Subscripts}
use Rattle.dbpl_tree.specs.declared.expr.ExprOf.{ExprOf}
use Rattle.dbpl_tree.specs.declared.expr.ExprsOf.{ExprsOf}
use Rattle.dbpl_tree.specs.declared.ident.Ident.{Ident}
use Rattle.dbpl_grammar.specs.Expressions.{added, adding_first, arguments, compared, designator, expr, expr_first, exprs, factor_first, ident, ident_first, multiplied, multiplying_first, part, part_first, relations_first, simple, subscripts, term}
use Rattle.dbpl_grammar.specs.Reading.{Parser, ◌<$>◌, after}
use Rattle.dbpl_grammar.proofs.ChoiceLaw.{law_all, law_either}
use Rattle.dbpl_grammar.proofs.Every.{Every, all_those, both, made, maybe, shallow_option, variant}
use Rattle.dbpl_grammar.proofs.JoinLaw.{law_closed}
use Rattle.dbpl_grammar.proofs.Law.{Law}
use Rattle.dbpl_grammar.proofs.NameLaw.{law_ident}
use Rattle.dbpl_grammar.proofs.OperatorLaw.{law_adding, law_multiplying, law_relation, law_sign}
use Rattle.dbpl_grammar.proofs.TokenLaw.{law_after, law_here}

-- what a factor may go on with, and so on upwards
abbrev pub factor_more : List Lexeme
factor_more = full_stop ∷ left_bracket ∷ left_brace ∷ left_parenthesis ∷ []

abbrev pub term_more : List Lexeme
term_more = multiplying_first ++ factor_more

abbrev pub simple_more : List Lexeme
simple_more = adding_first ++ term_more

abbrev pub expr_more : List Lexeme
expr_more = relations_first ++ simple_more

module _ {F : Type 0} {w : F → List Mark} {n : F → ℕ} {limit : ℕ} {factor : Parser F} (law : Every w n limit factor_first factor_more false factor) where
  pub law_multiplied : Every (multiplied_marks w) (multiplied_depth n) limit multiplying_first factor_more false (multiplied factor)
  unfolding multiplied
  law_multiplied =
      made (multiplied_marks w) (multiplied_depth n) (both (law_here limit) (both (law_multiplying limit) law refl) refl) (λ found. record { place = found.0; operator = found.1.0; factor = found.1.1 }) (λ x. (x.place, (x.operator, x.factor))) (λ x. refl) (λ x. omega arith) (λ x. refl)

  pub law_term : Every (term_marks w) (term_depth n) limit factor_first term_more false (term factor)
  unfolding term
  law_term =
      made (term_marks w) (term_depth n) (both (law_here limit) (both law (all_those law_multiplied refl) refl) refl) (λ found. record { place = found.0; first = found.1.0; others = found.1.1 }) (λ x. (x.place, (x.first, x.others))) (λ x. refl) (λ x. omega arith) (λ x. refl)

  pub law_added : Every (added_marks w) (added_depth n) limit adding_first term_more false (added factor)
  unfolding added
  law_added =
      made (added_marks w) (added_depth n) (both (law_here limit) (both (law_adding limit) law_term refl) refl) (λ found. record { place = found.0; operator = found.1.0; term = found.1.1 }) (λ x. (x.place, (x.operator, x.term))) (λ x. refl) (λ x. omega arith) (λ x. refl)

  pub law_simple : Every (simple_marks w) (simple_depth n) limit expr_first simple_more false (simple factor)
  unfolding simple
  law_simple =
      made (simple_marks w) (simple_depth n) (both (law_here limit) (both (maybe (law_sign limit)) (both law_term (all_those law_added refl) refl) refl) refl) (λ found. record { place = found.0; sign = found.1.0; first = found.1.1.0; others = found.1.1.1 }) (λ x. (x.place, (x.sign, (x.first, x.others)))) (λ x. refl) (λ x. let none = shallow_option x.1.0 in omega arith) (λ x. refl)

  pub law_compared : Every (compared_marks w) (compared_depth n) limit relations_first simple_more false (compared factor)
  unfolding compared
  law_compared =
      made (compared_marks w) (compared_depth n) (both (law_here limit) (both (law_relation limit) law_simple refl) refl) (λ found. record { place = found.0; relation = found.1.0; right = found.1.1 }) (λ x. (x.place, (x.relation, x.right))) (λ x. refl) (λ x. omega arith) (λ x. refl)

  -- but for itself, which counts one more
  pub law_expr_inside : Every (expr_marks w) (λ (x : ExprOf F). max (simple_depth n x.left) (option_depth (compared_depth n) x.right)) limit expr_first expr_more false (expr factor)
  unfolding expr
  law_expr_inside =
      made (expr_marks w) (λ (x : ExprOf F). max (simple_depth n x.left) (option_depth (compared_depth n) x.right)) (both (law_here limit) (both law_simple (maybe law_compared) refl) refl) (λ found. record { place = found.0; left = found.1.0; right = found.1.1 }) (λ x. (x.place, (x.left, x.right))) (λ x. refl) (λ x. omega arith) (λ x. refl)

module _ {F : Type 0} (w : F → List Mark) (n : F → ℕ) {limit : ℕ} {expr : Parser (ExprOf F)} (law : Every (expr_marks w) (expr_depth n) limit expr_first expr_more false expr) where
  pub law_exprs : Every (exprs_marks w) (exprs_depth n) limit expr_first (comma ∷ expr_more) false (exprs expr)
  unfolding exprs
  law_exprs =
      made (exprs_marks w) (exprs_depth n) (both law (all_those (law_after comma refl law) refl) refl) (λ found. record { first = found.0; others = found.1 }) (λ x. (x.first, x.others)) (λ x. refl) (λ x. refl) (λ x. refl)

  pub law_arguments : Every (arguments_marks w) (arguments_depth n) limit (left_parenthesis ∷ []) [] false (arguments expr)
  unfolding arguments
  law_arguments =
      made (arguments_marks w) (arguments_depth n) (both (law_here limit) (law_after left_parenthesis refl (law_closed right_parenthesis refl refl (maybe law_exprs))) refl) (λ found. record { place = found.0; exprs = found.1 }) (λ x. (x.place, x.exprs)) (λ x. refl) (λ x. omega arith) (λ x. refl)

  law_field : Law (part_marks w) (part_depth n) limit (full_stop ∷ []) [] false (λ (y : PartOf F). (x : Ident) × (Field x ≡ y)) (Field <$> after full_stop ident)
  law_field = variant (part_marks w) (part_depth n) (law_after full_stop refl (law_ident limit)) Field (λ x. refl) (λ x. refl)

  law_subscripts : Law (part_marks w) (part_depth n) limit (left_bracket ∷ []) [] false (λ (y : PartOf F). (x : Place × ExprsOf F) × (Subscripts x.0 x.1 ≡ y)) ((λ found. Subscripts found.0 found.1) <$> subscripts expr)
  unfolding subscripts
  law_subscripts =
      variant (part_marks w) (part_depth n) (both (law_here limit) (law_after left_bracket refl (law_closed right_bracket refl refl law_exprs)) refl) (λ found. Subscripts found.0 found.1) (λ x. refl) (λ x. omega arith)

  pub law_part : Every (part_marks w) (part_depth n) limit part_first [] false (part expr)
  unfolding part
  law_part = law_all (λ (y : PartOf F). Unit {0}) (λ y is. cases y) (λ y is. tt) (law_either law_field law_subscripts refl)
    where
      cases : (y : PartOf F) → ((x : Ident) × (Field x ≡ y)) ⊎ ((x : Place × ExprsOf F) × (Subscripts x.0 x.1 ≡ y))
      cases (Field x) = inl (x, refl)
      cases (Subscripts place es) = inr ((place, es), refl)

  pub law_designator : Every (designator_marks w) (designator_depth n) limit ident_first part_first false (designator expr)
  unfolding designator
  law_designator =
      made (designator_marks w) (designator_depth n) (both (law_ident limit) (all_those law_part refl) refl) (λ found. record { head = found.0; parts = found.1 }) (λ x. (x.head, x.parts)) (λ x. refl) (λ x. omega arith) (λ x. refl)
