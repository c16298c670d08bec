-- The law of factors, and of expressions, ranges and negations at every depth.
use Rattle.std.proofs.Common.{◌≡◌, ℕ, zero, suc, ◌≤◌, max, Bool, true, false, ◌⊎◌, inl, inr, List, [], ◌∷◌, ◌++◌, Option, refl, sym, ap, ◌∙◌, subst, arith, not-suc-le-zero, true≢false, if◌then◌else◌}
use Rattle.dbpl_base.specs.declared.lexeme.Lexeme.{Lexeme}
use Rattle.dbpl_base.specs.declared.lexeme.Lexeme.TheVariants as lexemes
use Rattle.dbpl_base.specs.declared.place.Place.{Place}
use Rattle.dbpl_tree.proofs.Levels.{aggregate_depth-out, aggregate_marks-out, factor_depth-out, factor_marks-out, range_depth-out}
use Rattle.dbpl_tree.specs.Depths.{arguments_depth, depths, designator_depth, element_depth, expr_depth, factor_depth, factor_depth_level, greatest, option_depth, range_depth, range_depth_level}
use Rattle.dbpl_tree.specs.Expressions.{arguments_marks, designator_marks, expr_marks}
use Rattle.dbpl_tree.specs.Factors.{factor_level, factor_marks, range_marks, spelling}
use Rattle.dbpl_tree.specs.Marks.{Mark, lexemes_in, option_marks}
use Rattle.dbpl_tree.specs.Words.{left_brace, left_parenthesis, right_parenthesis, word_in}
use Rattle.dbpl_tree.specs.declared.aggregate.Aggregate.{Aggregate}
use Rattle.dbpl_tree.specs.declared.designator.ArgumentsOf.{ArgumentsOf}
use Rattle.dbpl_tree.specs.declared.designator.DesignatorOf.{DesignatorOf}
use Rattle.dbpl_tree.specs.declared.each.Each.{Each}
use Rattle.dbpl_tree.specs.declared.element.Element.{Element}
use Rattle.dbpl_tree.specs.declared.element.Element.TheOpen as phrases
use Rattle.dbpl_tree.specs.declared.expr.ExprOf.{ExprOf}
use Rattle.dbpl_tree.specs.declared.factor.Factor.{Factor, Factor-F, out-Factor, roll-Factor, roll-out-Factor}
use Rattle.dbpl_tree.specs.declared.factor.Factor.TheVariants as factors
use Rattle.dbpl_tree.specs.declared.ident.Ident.{Ident}
use Rattle.dbpl_tree.specs.declared.operators.NotOperator.{NotOperator}
use Rattle.dbpl_tree.specs.declared.operators.Quantifier.{Quantifier}
use Rattle.dbpl_tree.specs.declared.range.Range.{Range, Range-F, out-Range}
use Rattle.dbpl_grammar.specs.Expressions.{Behind, Braced, Called, Inner, at_depth, behind, braced, called, char_code, char_code_of, expr, expr_first, factor, factor_first, ident_first, is_qual, named, named_made, negated, not_first, number, number_of, parenthesized, qual_in, quantified, quantifier_first, text, text_of}
use Rattle.dbpl_grammar.specs.Lexemes.{a_char_code, a_number, a_text}
use Rattle.dbpl_grammar.specs.Reading.{◌<$>◌, either}
use Rattle.dbpl_grammar.proofs.Ready.{ready_expr, ready_negated, ready_range}
use Rattle.dbpl_grammar.proofs.ChoiceLaw.{law_all, law_counted, law_deep, law_either, law_same, law_wider}
use Rattle.dbpl_grammar.proofs.Every.{Every, both, maybe, variant}
use Rattle.dbpl_grammar.proofs.ExprLaw.{expr_more, factor_more, law_arguments, law_designator, law_expr_inside}
use Rattle.dbpl_grammar.proofs.InnerLaw.{InnerLaw, are_as, as_designator, braced_marks, law_braced, negated_depth, negated_marks, qual_marks_in, qual_shallow, range_more, same_qual, second_as}
use Rattle.dbpl_grammar.proofs.JoinLaw.{law_closed, law_made, law_then}
use Rattle.dbpl_grammar.proofs.Law.{Law}
use Rattle.dbpl_grammar.proofs.NameLaw.{char_code_is, law_ident, number_is, text_is}
use Rattle.dbpl_grammar.proofs.OperatorLaw.{law_not, law_quantifier}
use Rattle.dbpl_grammar.proofs.RangeLaw.{law_range}
use Rattle.dbpl_grammar.proofs.TokenLaw.{law_after, law_here, law_leaf}

abbrev Level : Type 0
Level = Factor-F Element Factor Range Aggregate Each

pub factor_as : (x : Factor) (l : Level) → out-Factor x ≡ l → factor_marks x ≡ factor_level spelling l
factor_as x l e = factor_marks-out x ∙ ap (factor_level spelling) e

pub factor_deep : (x : Factor) (l : Level) → out-Factor x ≡ l → factor_depth x ≡ factor_depth_level depths l
factor_deep x l e = factor_depth-out x ∙ ap (factor_depth_level depths) e

-- ---- the alternatives

abbrev pub IsNumber : Factor → Type 0
IsNumber y = (x : Place × ℕ) × (factors.Number x.0 x.1 ≡ y)

abbrev pub IsCharCode : Factor → Type 0
IsCharCode y = (x : Place × ℕ) × (factors.CharCode x.0 x.1 ≡ y)

abbrev pub IsText : Factor → Type 0
IsText y = (x : Place × List ℕ) × (factors.Text x.0 x.1 ≡ y)

abbrev pub IsParenthesized : Factor → Type 0
IsParenthesized y = (x : Place × ExprOf Factor) × (factors.Parenthesized x.0 x.1 ≡ y)

abbrev pub IsNot : Factor → Type 0
IsNot y = (x : Place × (NotOperator × Factor)) × (factors.Not x.0 x.1.0 x.1.1 ≡ y)

abbrev pub IsQuantified : Factor → Type 0
IsQuantified y =
    (x : Place × (Quantifier × (Ident × (Range × ExprOf Factor)))) × (factors.Quantified x.0 x.1.0 x.1.1.0 x.1.1.1.0 x.1.1.1.1 ≡ y)

-- elements stand behind a name alone
abbrev pub MayStand : DesignatorOf Factor → Behind → Type 0
MayStand found (Braced xs) = is_qual found ≡ true
MayStand found (Called arguments) = Unit {0}

pub keep_standing : (one other : DesignatorOf Factor) (x : Behind) → lexemes_in (designator_marks factor_marks other) ≡ lexemes_in (designator_marks factor_marks one) → MayStand one x → MayStand other x
keep_standing one other (Braced xs) same is = same_qual one other same is
keep_standing one other (Called arguments) same is = tt

abbrev pub IsNamed : Factor → Type 0
IsNamed y = (x : DesignatorOf Factor × Behind) × (Unit {0} × MayStand x.0 x.1) × (named_made x ≡ y)

abbrev pub Cases : Factor → Type 0
Cases y = IsNumber y ⊎ (IsCharCode y ⊎ (IsText y ⊎ (IsParenthesized y ⊎ (IsNot y ⊎ (IsQuantified y ⊎ IsNamed y)))))

pub factor_cases : (y : Factor) → Cases y
factor_cases y = by_level (out-Factor y) (roll-out-Factor y)
  where
    by_level : (l : Level) → roll-Factor l ≡ y → Cases y
    by_level (phrases.Number place n) is = inl ((place, n), sym (factors.rolls-Number place n) ∙ is)
    by_level (phrases.CharCode place n) is = inr (inl ((place, n), sym (factors.rolls-CharCode place n) ∙ is))
    by_level (phrases.Text place t) is = inr (inr (inl ((place, t), sym (factors.rolls-Text place t) ∙ is)))
    by_level (phrases.Parenthesized place e) is =
        inr (inr (inr (inl ((place, e), sym (factors.rolls-Parenthesized place e) ∙ is))))
    by_level (phrases.Not place operator f) is =
        inr (inr (inr (inr (inl ((place, (operator, f)), sym (factors.rolls-Not place operator f) ∙ is)))))
    by_level (phrases.Quantified place quantifier x r e) is =
        inr (inr (inr (inr (inr (inl ((place, (quantifier, (x, (r, e)))), sym (factors.rolls-Quantified place quantifier x r e) ∙ is))))))
    by_level (phrases.Factor::Designator d a) is =
        inr (inr (inr (inr (inr (inr ((d, Called a), (tt, tt), sym (factors.rolls-Designator d a) ∙ is))))))
    by_level (phrases.Factor::Aggregate a) is =
        inr (inr (inr (inr (inr (inr ((as_designator a.kind, Braced a.elements), (tt, are_as a.kind.second), ap (λ (second : Option Ident). factors.Aggregate (record { kind = record { first = a.kind.first; second = second }; elements = a.elements })) (second_as a.kind.second) ∙ sym (factors.rolls-Aggregate a) ∙ is))))))

-- ---- factors that begin with a name

abbrev pub behind_marks : Behind → List Mark
behind_marks (Braced xs) = braced_marks xs
behind_marks (Called arguments) = option_marks (arguments_marks factor_marks) arguments

abbrev pub behind_depth : Behind → ℕ
behind_depth (Braced xs) = greatest element_depth xs
behind_depth (Called arguments) = option_depth (arguments_depth factor_depth) arguments

pub named_marks : (found : DesignatorOf Factor) (x : Behind) → MayStand found x → factor_marks (named_made (found, x)) ≡ designator_marks factor_marks found ++ behind_marks x
named_marks found (Called arguments) is = factor_as (factors.Designator found arguments) _ (factors.outs-Designator found arguments)
named_marks found (Braced xs) is =
    factor_as (factors.Aggregate (record { kind = qual_in found; elements = xs })) _ (factors.outs-Aggregate (record { kind = qual_in found; elements = xs })) ∙ aggregate_marks-out (record { kind = qual_in found; elements = xs }) ∙ ap (λ (ms : List Mark). ms ++ braced_marks xs) (qual_marks_in found is)

pub named_depth : (found : DesignatorOf Factor) (x : Behind) → MayStand found x → factor_depth (named_made (found, x)) ≡ max (designator_depth factor_depth found) (behind_depth x)
named_depth found (Called arguments) is = factor_deep (factors.Designator found arguments) _ (factors.outs-Designator found arguments)
named_depth found (Braced xs) is =
    factor_deep (factors.Aggregate (record { kind = qual_in found; elements = xs })) _ (factors.outs-Aggregate (record { kind = qual_in found; elements = xs })) ∙ aggregate_depth-out (record { kind = qual_in found; elements = xs }) ∙ none_before (designator_depth factor_depth found) (greatest element_depth xs) (qual_shallow found is)
  where
    none_before : (j k : ℕ) → j ≡ 0 → k ≡ max j k
    none_before j k e = omega arith

abbrev pub behind_first : List Lexeme
behind_first = left_brace ∷ left_parenthesis ∷ []

module _ {limit : ℕ} {inner : Inner} (laws : InnerLaw limit inner) where
  pub law_called : Law behind_marks behind_depth limit (left_parenthesis ∷ []) factor_more true (λ (y : Behind). (x : Option (ArgumentsOf Factor)) × (Called x ≡ y)) (called inner)
  unfolding called
  law_called =
      law_wider (left_parenthesis ∷ []) factor_more refl refl (variant behind_marks behind_depth (maybe (law_arguments factor_marks factor_depth laws.expr)) Called (λ x. refl) (λ x. refl))

  pub law_braces : Law behind_marks behind_depth limit (left_brace ∷ []) factor_more false (λ (y : Behind). (x : List Element) × (Braced x ≡ y)) (Braced <$> braced inner)
  law_braces =
      law_wider (left_brace ∷ []) factor_more refl refl (variant behind_marks behind_depth (law_braced laws) Braced (λ x. refl) (λ x. refl))

  pub law_behind : (found : DesignatorOf Factor) (b : Bool) → is_qual found ≡ b → Law behind_marks behind_depth limit behind_first factor_more true (MayStand found) (if b then either (left_brace ∷ []) (Braced <$> braced inner) (called inner) else called inner)
  law_behind found true is = law_all (MayStand found) (λ x may. to x) (λ x may. back x) (law_either law_braces law_called refl)
    where
      to : (y : Behind) → ((x : List Element) × (Braced x ≡ y)) ⊎ ((x : Option (ArgumentsOf Factor)) × (Called x ≡ y))
      to (Braced xs) = inl (xs, refl)
      to (Called arguments) = inr (arguments, refl)

      back : (y : Behind) → MayStand found y
      back (Braced xs) = is
      back (Called arguments) = tt
  law_behind found false is =
      law_all (MayStand found) (λ x may. to x may) (λ x may. subst (λ (y : Behind). MayStand found y) may.1 tt) (law_wider behind_first factor_more refl refl law_called)
    where
      to : (y : Behind) → MayStand found y → (x : Option (ArgumentsOf Factor)) × (Called x ≡ y)
      to (Braced xs) may = absurd (true≢false (sym may ∙ is))
      to (Called arguments) may = (arguments, refl)

  pub law_named : Law factor_marks factor_depth limit ident_first factor_more false IsNamed (named inner)
  unfolding named behind
  law_named =
      law_made named_made factor_marks factor_depth IsNamed (law_then (law_designator factor_marks factor_depth laws.expr) (λ found is. law_behind found (is_qual found) refl) refl keep_standing) (λ x is. named_marks x.0 x.1 is.1) (λ x is. named_depth x.0 x.1 is.1) (λ x is. (x, is, refl)) (λ y is. is)

  -- ---- the others

  pub plain_number : Law factor_marks factor_depth limit (a_number ∷ []) [] false IsNumber number
  unfolding number
  plain_number =
      variant factor_marks factor_depth (both (law_here limit) (law_leaf limit number_of lexemes.Number (a_number ∷ []) 0 refl (λ x. refl) number_is (λ x. refl)) refl) (λ found. factors.Number found.0 found.1) (λ x. factor_as (factors.Number x.0 x.1) _ (factors.outs-Number x.0 x.1)) (λ x. factor_deep (factors.Number x.0 x.1) _ (factors.outs-Number x.0 x.1))

  pub law_number : Law factor_marks factor_depth limit (a_number ∷ []) factor_more false IsNumber number
  law_number = law_wider (a_number ∷ []) factor_more refl refl plain_number

  pub plain_char_code : Law factor_marks factor_depth limit (a_char_code ∷ []) [] false IsCharCode char_code
  unfolding char_code
  plain_char_code =
      variant factor_marks factor_depth (both (law_here limit) (law_leaf limit char_code_of lexemes.CharCode (a_char_code ∷ []) 0 refl (λ x. refl) char_code_is (λ x. refl)) refl) (λ found. factors.CharCode found.0 found.1) (λ x. factor_as (factors.CharCode x.0 x.1) _ (factors.outs-CharCode x.0 x.1)) (λ x. factor_deep (factors.CharCode x.0 x.1) _ (factors.outs-CharCode x.0 x.1))

  pub law_char_code : Law factor_marks factor_depth limit (a_char_code ∷ []) factor_more false IsCharCode char_code
  law_char_code = law_wider (a_char_code ∷ []) factor_more refl refl plain_char_code

  pub plain_text : Law factor_marks factor_depth limit (a_text ∷ []) [] false IsText text
  unfolding text
  plain_text =
      variant factor_marks factor_depth (both (law_here limit) (law_leaf limit text_of lexemes.Text (a_text ∷ []) [] refl (λ x. refl) text_is (λ x. refl)) refl) (λ found. factors.Text found.0 found.1) (λ x. factor_as (factors.Text x.0 x.1) _ (factors.outs-Text x.0 x.1)) (λ x. factor_deep (factors.Text x.0 x.1) _ (factors.outs-Text x.0 x.1))

  pub law_text : Law factor_marks factor_depth limit (a_text ∷ []) factor_more false IsText text
  law_text = law_wider (a_text ∷ []) factor_more refl refl plain_text

  pub plain_parenthesized : Law factor_marks factor_depth limit (left_parenthesis ∷ []) [] false IsParenthesized (parenthesized inner)
  unfolding parenthesized
  plain_parenthesized =
      variant factor_marks factor_depth (both (law_here limit) (law_after left_parenthesis refl (law_closed right_parenthesis refl refl laws.expr)) refl) (λ found. factors.Parenthesized found.0 found.1) (λ x. factor_as (factors.Parenthesized x.0 x.1) _ (factors.outs-Parenthesized x.0 x.1)) (λ x. let one = factor_deep (factors.Parenthesized x.0 x.1) _ (factors.outs-Parenthesized x.0 x.1) in omega (arith, one))

  pub law_parenthesized : Law factor_marks factor_depth limit (left_parenthesis ∷ []) factor_more false IsParenthesized (parenthesized inner)
  law_parenthesized = law_wider (left_parenthesis ∷ []) factor_more refl refl plain_parenthesized

  pub law_not_factor : Law factor_marks factor_depth limit not_first factor_more false IsNot ((λ found. factors.Not found.0 found.1.0 found.1.1) <$> inner.negated)
  law_not_factor =
      variant factor_marks factor_depth laws.negated (λ found. factors.Not found.0 found.1.0 found.1.1) (λ x. factor_as (factors.Not x.0 x.1.0 x.1.1) _ (factors.outs-Not x.0 x.1.0 x.1.1)) (λ x. factor_deep (factors.Not x.0 x.1.0 x.1.1) _ (factors.outs-Not x.0 x.1.0 x.1.1))

  pub plain_quantified : Law factor_marks factor_depth limit quantifier_first [] false IsQuantified (quantified inner)
  unfolding quantified
  plain_quantified =
      variant factor_marks factor_depth (both (law_here limit) (both (law_quantifier limit) (both (law_ident limit) (both (law_after word_in refl laws.range) (law_after left_parenthesis refl (law_closed right_parenthesis refl refl laws.expr)) refl) refl) refl) refl) (λ found. factors.Quantified found.0 found.1.0 found.1.1.0 found.1.1.1.0 found.1.1.1.1) (λ x. factor_as (factors.Quantified x.0 x.1.0 x.1.1.0 x.1.1.1.0 x.1.1.1.1) _ (factors.outs-Quantified x.0 x.1.0 x.1.1.0 x.1.1.1.0 x.1.1.1.1)) (λ x. let one = factor_deep (factors.Quantified x.0 x.1.0 x.1.1.0 x.1.1.1.0 x.1.1.1.1) _ (factors.outs-Quantified x.0 x.1.0 x.1.1.0 x.1.1.1.0 x.1.1.1.1) in omega (arith, one))

  pub law_quantified : Law factor_marks factor_depth limit quantifier_first factor_more false IsQuantified (quantified inner)
  law_quantified = law_wider quantifier_first factor_more refl refl plain_quantified

  pub law_factor : Every factor_marks factor_depth limit factor_first factor_more false (factor inner)
  unfolding factor
  law_factor =
      law_all (λ (y : Factor). Unit {0}) (λ y is. factor_cases y) (λ y is. tt) (law_either law_number (law_either law_char_code (law_either law_text (law_either law_parenthesized (law_either law_not_factor (law_either law_quantified law_named refl) refl) refl) refl) refl) refl)

-- ---- at every depth

law_negated : {limit : ℕ} {inner : Inner} → InnerLaw limit inner → Every negated_marks negated_depth (suc limit) not_first factor_more false (negated inner)
unfolding negated
law_negated {limit = limit} laws =
    law_same negated_marks negated_depth (λ x. refl) (λ x. omega arith) (law_counted (both (law_here limit) (both (law_not limit) (law_factor laws) refl) refl))

law_expr : {limit : ℕ} {inner : Inner} → InnerLaw limit inner → Every (expr_marks factor_marks) (expr_depth factor_depth) (suc limit) expr_first expr_more false (expr (factor inner))
law_expr laws = law_counted (law_expr_inside (law_factor laws))

pub range_counts : (x : Range) → range_depth x ≤ 0 → ⊥
range_counts x h = by_level (out-Range x) (subst (λ (k : ℕ). k ≤ 0) (range_depth-out x) h)
  where
    by_level : (l : Range-F Element Factor Range Aggregate Each) → range_depth_level depths l ≤ 0 → ⊥
    by_level (phrases.Range::Designator d) h = not-suc-le-zero h
    by_level (phrases.Range::Aggregate a) h = not-suc-le-zero h

pub inner_law : (depth : ℕ) → InnerLaw depth (at_depth depth)
unfolding at_depth
inner_law zero = record {
  expr = law_deep (expr_marks factor_marks) (expr_depth factor_depth) 0 expr_first expr_more expr_first false (λ (x : ExprOf Factor). Unit {0}) ready_expr (λ x h. not-suc-le-zero h);
  range = law_deep range_marks range_depth 0 ident_first range_more ident_first false (λ (x : Range). Unit {0}) ready_range range_counts;
  negated = law_deep negated_marks negated_depth 0 not_first factor_more not_first false (λ (x : Place × (NotOperator × Factor)). Unit {0}) ready_negated (λ x h. not-suc-le-zero h);
}
inner_law (suc depth) = record {
  expr = law_expr (inner_law depth);
  range = law_range (inner_law depth);
  negated = law_negated (inner_law depth);
}
