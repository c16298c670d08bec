-- Factors, ranges and aggregates are read where nothing longer begins, and so are expressions at every depth.
use Rattle.std.proofs.Common.{◌≡◌, ℕ, zero, suc, Bool, true, false, ◌⊎◌, inl, inr, List, [], ◌∷◌, Option, Some, None, refl, sym, ◌∙◌, subst, arith, not-suc-le-zero, true≢false, if◌then◌else◌}
use Rattle.dbpl_base.specs.declared.lexeme.Lexeme.{Lexeme}
use Rattle.dbpl_base.specs.declared.lexeme.Lexeme.TheVariants as lexemes
use Rattle.dbpl_base.specs.declared.place.Place.{Place}
use Rattle.dbpl_base.specs.declared.token.Token.{Token}
use Rattle.dbpl_tree.specs.Depths.{element_depth, expr_depth, factor_depth, greatest, option_depth, range_depth}
use Rattle.dbpl_tree.specs.Expressions.{expr_marks}
use Rattle.dbpl_tree.specs.Factors.{factor_marks, range_marks}
use Rattle.dbpl_tree.specs.Marks.{Mark, Of, Before, Meets, option_marks}
use Rattle.dbpl_tree.specs.Words.{left_brace, left_parenthesis, right_brace}
use Rattle.dbpl_tree.specs.declared.designator.ArgumentsOf.{ArgumentsOf}
use Rattle.dbpl_tree.specs.declared.designator.DesignatorOf.{DesignatorOf}
use Rattle.dbpl_tree.specs.declared.element.Element.{Element}
use Rattle.dbpl_tree.specs.declared.expr.ExprOf.{ExprOf}
use Rattle.dbpl_tree.specs.declared.factor.Factor.{Factor}
use Rattle.dbpl_tree.specs.declared.factor.Factor.TheVariants as factors
use Rattle.dbpl_tree.specs.declared.operators.NotOperator.{NotOperator}
use Rattle.dbpl_tree.specs.declared.range.Range.{Range}
use Rattle.dbpl_grammar.specs.Expressions.{Behind, Braced, Called, Inner, at_depth, behind, braced, called, expr, expr_first, factor, factor_first, ident_first, is_qual, named, named_made, negated, not_first, quantifier_first, range, range_made}
use Rattle.dbpl_grammar.specs.Lexemes.{a_char_code, a_number, a_text}
use Rattle.dbpl_grammar.specs.Reading.{◌<$>◌, either, nothing, optional, too_deep}
use Rattle.dbpl_grammar.proofs.ChoiceLaw.{law_either, law_nothing}
use Rattle.dbpl_grammar.proofs.Every.{variant}
use Rattle.dbpl_grammar.proofs.ExprLaw.{factor_more, law_designator}
use Rattle.dbpl_grammar.proofs.FactorLaw.{IsNamed, IsNot, MayStand, behind_depth, behind_marks, factor_as, factor_cases, inner_law, law_behind, law_braces, law_called, law_char_code, law_factor, law_named, law_not_factor, law_number, law_parenthesized, law_quantified, law_text, named_depth, named_marks, plain_char_code, plain_number, plain_parenthesized, plain_quantified, plain_text, range_counts}
use Rattle.dbpl_grammar.proofs.FactorLaw as alternatives
use Rattle.dbpl_grammar.proofs.InnerLaw.{InnerLaw, braced_marks, law_braced, negated_depth, negated_marks}
use Rattle.dbpl_grammar.proofs.Longest.{Exact, Starts, exact_all, exact_counted, exact_made, exact_never, exact_plain, exact_then}
use Rattle.dbpl_grammar.proofs.LongestLists.{exact_either, not_empty}
use Rattle.dbpl_grammar.proofs.MeetsLaw.{meets_shorter}
use Rattle.dbpl_grammar.proofs.OperatorLaw.{law_not}
use Rattle.dbpl_grammar.proofs.RangeLaw.{MayBrace, brace_first, range_cases, range_depth_made, range_marks_made}
use Rattle.dbpl_grammar.proofs.RangeLaw as ranges
use Rattle.dbpl_grammar.proofs.Sharp.{Sharp, SomeOf, only_one, sharp_both, sharp_here, sharp_maybe, sharp_plain}
use Rattle.dbpl_grammar.proofs.SharpExpr.{sharp_designator, sharp_expr_inside, sharp_maybe_arguments, sign_token, some_expr}

-- 0
some_factor : SomeOf factor_marks
some_factor =
    let zero_token : Token = record { lexeme = lexemes.Number 0; place = record { unit = 0; line = 0; col = 0 } } in
    (factors.Number zero_token.place 0, zero_token, [], subst (λ (ms : List Mark). Meets (zero_token ∷ []) ms []) (sym (factor_as (factors.Number zero_token.place 0) _ (factors.outs-Number zero_token.place 0))) (refl, (refl, refl)))

pub some_whole : SomeOf (expr_marks factor_marks)
some_whole = some_expr factor_marks some_factor

-- the phrases that count
pub record InnerExact (limit : ℕ) (inner : Inner) : Type 0 where
  pub laws : InnerLaw limit inner
  pub expr : Exact (expr_marks factor_marks) (expr_depth factor_depth) limit (λ (x : ExprOf Factor). Unit {0}) inner.expr
  pub range : Exact range_marks range_depth limit (λ (x : Range). Unit {0}) inner.range
  pub negated : Exact negated_marks negated_depth limit (λ (x : Place × (NotOperator × Factor)). Unit {0}) inner.negated

starts_braced : Starts braced_marks (λ (x : List Element). Unit {0}) (left_brace ∷ [])
starts_braced token is =
    ([], sign_token right_brace ∷ [], tt, (only_one left_brace token.lexeme refl is, (refl, refl)))

-- a token stands in front of each of these marks
of_takes : (lexeme : Lexeme) (marks : List Mark) (rest : List Token) → Meets rest (Of lexeme ∷ marks) rest → ⊥
of_takes lexeme marks [] h = h
of_takes lexeme marks (token ∷ rest) h = let less = meets_shorter marks rest (token ∷ rest) h.1 in omega arith

before_takes : (place : Place) (lexeme : Lexeme) (marks : List Mark) (rest : List Token) → Meets rest (Before place ∷ Of lexeme ∷ marks) rest → ⊥
before_takes place lexeme marks [] h = h
before_takes place lexeme marks (token ∷ rest) h = of_takes lexeme marks (token ∷ rest) h.1

-- ---- factors that begin with a name

bare_behind : (y : Behind) (rest : List Token) → Meets rest (behind_marks y) rest → behind_marks y ≡ []
bare_behind (Braced xs) rest h = absurd (of_takes left_brace _ rest h)
bare_behind (Called None) rest h = refl
bare_behind (Called (Some a)) rest h = absurd (before_takes a.place left_parenthesis _ rest h)

free_behind : (x x' : DesignatorOf Factor) (y : Behind) → behind_marks y ≡ [] → MayStand x y → MayStand x' y
free_behind x x' (Braced xs) e is = absurd (let some : Of left_brace ∷ _ ≡ [] = e in cc)
free_behind x x' (Called arguments) e is = tt

abbrev IsBraced : Behind → Type 0
IsBraced y = (x : List Element) × (Braced x ≡ y)

abbrev IsCalled : Behind → Type 0
IsCalled y = (x : Option (ArgumentsOf Factor)) × (Called x ≡ y)

starts_braces : Starts behind_marks IsBraced (left_brace ∷ [])
starts_braces token is =
    let one = starts_braced token is in
    (Braced one.0, one.1, (one.0, refl), one.3)

module _ {limit : ℕ} {inner : Inner} (all : InnerExact limit inner) where
  exact_called : Exact behind_marks behind_depth limit IsCalled (called inner)
  unfolding called
  exact_called =
      exact_made behind_marks behind_depth IsCalled (sharp_maybe_arguments factor_marks factor_depth all.laws.expr some_whole).exact Called (λ x is. refl) (λ x is. refl) (λ x is. (x, refl)) (λ y is. (is.0, tt, is.1))

  exact_braces : Exact behind_marks behind_depth limit IsBraced (Braced <$> braced inner)
  exact_braces = exact_plain (variant behind_marks behind_depth (law_braced all.laws) Braced (λ x. refl) (λ x. refl))

  exact_behind : (found : DesignatorOf Factor) (b : Bool) → is_qual found ≡ b → Exact behind_marks behind_depth limit (MayStand found) (if b then either (left_brace ∷ []) (Braced <$> braced inner) (called inner) else called inner)
  exact_behind found true is =
      exact_all (MayStand found) (λ x may. to x) (λ x may. back x) (exact_either (law_braces all.laws) (law_called all.laws) exact_braces exact_called refl (λ e. starts_braces))
    where
      to : (y : Behind) → IsBraced y ⊎ IsCalled y
      to (Braced xs) = inl (xs, refl)
      to (Called arguments) = inr (arguments, refl)

      back : (y : Behind) → MayStand found y
      back (Braced xs) = is
      back (Called arguments) = tt
  exact_behind found false is =
      exact_all (MayStand found) (λ x may. to x may) (λ x may. subst (λ (y : Behind). MayStand found y) may.1 tt) exact_called
    where
      to : (y : Behind) → MayStand found y → IsCalled y
      to (Braced xs) may = absurd (true≢false (sym may ∙ is))
      to (Called arguments) may = (arguments, refl)

  exact_named : Exact factor_marks factor_depth limit IsNamed (named inner)
  unfolding named behind
  exact_named =
      exact_made factor_marks factor_depth IsNamed (exact_then (law_designator factor_marks factor_depth all.laws.expr) (λ found is. alternatives.law_behind all.laws found (is_qual found) refl) refl (sharp_designator factor_marks factor_depth all.laws.expr some_whole).exact (λ found is. exact_behind found (is_qual found) refl) (λ y rest fits h. bare_behind y rest h) free_behind) named_made (λ x is. named_marks x.0 x.1 is.1) (λ x is. named_depth x.0 x.1 is.1) (λ x is. (x, is, refl)) (λ y is. is)

  exact_not : Exact factor_marks factor_depth limit IsNot ((λ found. factors.Not found.0 found.1.0 found.1.1) <$> inner.negated)
  exact_not =
      exact_made factor_marks factor_depth IsNot all.negated (λ found. factors.Not found.0 found.1.0 found.1.1) (λ x is. factor_as (factors.Not x.0 x.1.0 x.1.1) _ (factors.outs-Not x.0 x.1.0 x.1.1)) (λ x is. alternatives.factor_deep (factors.Not x.0 x.1.0 x.1.1) _ (factors.outs-Not x.0 x.1.0 x.1.1)) (λ x is. (x, refl)) (λ y is. (is.0, tt, is.1))

  exact_factor : Exact factor_marks factor_depth limit (λ (x : Factor). Unit {0}) (factor inner)
  unfolding factor
  exact_factor =
      let laws_5 = law_either (law_quantified all.laws) (law_named all.laws) refl in
      let laws_4 = law_either (law_not_factor all.laws) laws_5 refl in
      let laws_3 = law_either (law_parenthesized all.laws) laws_4 refl in
      let laws_2 = law_either (law_text all.laws) laws_3 refl in
      let laws_1 = law_either (law_char_code all.laws) laws_2 refl in
      let exact_5 = exact_either (law_quantified all.laws) (law_named all.laws) (exact_plain (plain_quantified all.laws)) exact_named refl (not_empty factor_marks alternatives.IsQuantified quantifier_first) in
      let exact_4 = exact_either (law_not_factor all.laws) laws_5 exact_not exact_5 refl (not_empty factor_marks IsNot not_first) in
      let exact_3 = exact_either (law_parenthesized all.laws) laws_4 (exact_plain (plain_parenthesized all.laws)) exact_4 refl (not_empty factor_marks alternatives.IsParenthesized (left_parenthesis ∷ [])) in
      let exact_2 = exact_either (law_text all.laws) laws_3 (exact_plain (plain_text all.laws)) exact_3 refl (not_empty factor_marks alternatives.IsText (a_text ∷ [])) in
      let exact_1 = exact_either (law_char_code all.laws) laws_2 (exact_plain (plain_char_code all.laws)) exact_2 refl (not_empty factor_marks alternatives.IsCharCode (a_char_code ∷ [])) in
      exact_all (λ (y : Factor). Unit {0}) (λ y is. factor_cases y) (λ y is. tt) (exact_either (law_number all.laws) laws_1 (exact_plain (plain_number all.laws)) exact_1 refl (not_empty factor_marks alternatives.IsNumber (a_number ∷ [])))

  -- ---- ranges

  exact_elements : (found : DesignatorOf Factor) (b : Bool) → is_qual found ≡ b → Exact (option_marks braced_marks) (option_depth (greatest element_depth)) limit (MayBrace found) (if b then optional brace_first (braced inner) else nothing)
  exact_elements found true is =
      exact_all (MayBrace found) (λ x may. tt) (λ x may. by_option x) (sharp_maybe (sharp_plain (law_braced all.laws)) starts_braced).exact
    where
      by_option : (x : Option (List Element)) → MayBrace found x
      by_option None = tt
      by_option (Some xs) = is
  exact_elements found false is =
      exact_all (MayBrace found) (λ x may. by_option x may) (λ x none. subst (λ (y : Option (List Element)). MayBrace found y) (sym none) tt) (exact_plain (law_nothing braced_marks (greatest element_depth) limit))
    where
      by_option : (x : Option (List Element)) → MayBrace found x → x ≡ None
      by_option None may = refl
      by_option (Some xs) may = absurd (true≢false (sym may ∙ is))

  exact_range : Exact range_marks range_depth (suc limit) (λ (x : Range). Unit {0}) (range inner)
  unfolding range
  exact_range =
      exact_made range_marks range_depth (λ (y : Range). Unit {0}) (exact_counted (exact_then (law_designator factor_marks factor_depth all.laws.expr) (λ found is. ranges.law_behind all.laws found (is_qual found) refl) refl (sharp_designator factor_marks factor_depth all.laws.expr some_whole).exact (λ found is. exact_elements found (is_qual found) refl) (λ y rest fits h. bare_elements y rest h) free_elements)) range_made (λ x is. range_marks_made x.0 x.1 is.1) (λ x is. range_depth_made x.0 x.1 is.1) (λ x is. tt) (λ y is. range_cases y)
    where
      bare_elements : (y : Option (List Element)) (rest : List Token) → Meets rest (option_marks braced_marks y) rest → option_marks braced_marks y ≡ []
      bare_elements None rest h = refl
      bare_elements (Some xs) rest h = absurd (of_takes left_brace _ rest h)

      free_elements : (x x' : DesignatorOf Factor) (y : Option (List Element)) → option_marks braced_marks y ≡ [] → MayBrace x y → MayBrace x' y
      free_elements x x' None e is = tt
      free_elements x x' (Some xs) e is = absurd (let some : Of left_brace ∷ _ ≡ [] = e in cc)

  -- ---- negations and expressions

  sharp_factor : Sharp factor_marks factor_depth limit factor_first factor_more false (factor inner)
  sharp_factor = record { law = law_factor all.laws; exact = exact_factor }

  exact_negated : Exact negated_marks negated_depth (suc limit) (λ (x : Place × (NotOperator × Factor)). Unit {0}) (negated inner)
  unfolding negated
  exact_negated =
      let inside = exact_counted (sharp_both (sharp_here limit) (sharp_both (sharp_plain (law_not limit)) sharp_factor refl) refl).exact in
      record {
        reads = λ front behind next x is fits meets longest.
            inside.reads front behind next x is (let below = fits in omega arith) meets longest;
      }

  exact_expr : Exact (expr_marks factor_marks) (expr_depth factor_depth) (suc limit) (λ (x : ExprOf Factor). Unit {0}) (expr (factor inner))
  exact_expr = exact_counted (sharp_expr_inside sharp_factor some_factor).exact

-- ---- at every depth

pub inner_exact : (depth : ℕ) → InnerExact depth (at_depth depth)
unfolding at_depth
inner_exact zero = record {
  laws = inner_law zero;
  expr = exact_never (expr_marks factor_marks) (expr_depth factor_depth) 0 (λ (x : ExprOf Factor). Unit {0}) (too_deep expr_first) (λ x h. not-suc-le-zero h);
  range = exact_never range_marks range_depth 0 (λ (x : Range). Unit {0}) (too_deep ident_first) range_counts;
  negated = exact_never negated_marks negated_depth 0 (λ (x : Place × (NotOperator × Factor)). Unit {0}) (too_deep not_first) (λ x h. not-suc-le-zero h);
}
inner_exact (suc depth) = record {
  laws = inner_law (suc depth);
  expr = exact_expr (inner_exact depth);
  range = exact_range (inner_exact depth);
  negated = exact_negated (inner_exact depth);
}
