-- The law of EACH, elements, aggregates and ranges, over the phrases that count as one deeper.
use Rattle.std.proofs.Common.{◌≡◌, ℕ, suc, max, true, false, ◌⊎◌, inl, inr, List, [], ◌∷◌, ◌++◌, flat_map, append-nil, Option, Some, None, refl, sym, ap, ◌∙◌, arith, true≢false, drop}
use Rattle.dbpl_base.specs.declared.lexeme.Lexeme.{Lexeme}
use Rattle.dbpl_base.specs.declared.place.Place.{Place}
use Rattle.dbpl_tree.proofs.Levels.{aggregate_depth-out, aggregate_marks-out, each_depth-out, each_marks-out, element_depth-out, element_marks-out}
use Rattle.dbpl_tree.specs.Depths.{aggregate_depth, depths, designator_depth, each_depth, element_depth, element_depth_level, expr_depth, factor_depth, greatest, option_depth, part_depth, range_depth}
use Rattle.dbpl_tree.specs.Expressions.{designator_marks, expr_marks, part_marks}
use Rattle.dbpl_tree.specs.Factors.{aggregate_marks, each_marks, element_level, element_marks, factor_marks, range_marks, spelling}
use Rattle.dbpl_tree.specs.Marks.{Before, Mark, Of, between_marks, further_marks, lexemes_in, option_marks}
use Rattle.dbpl_tree.specs.Names.{ident_marks, qual_marks}
use Rattle.dbpl_tree.specs.Operators.{not_lexeme}
use Rattle.dbpl_tree.specs.Words.{colon, comma, full_stop, left_brace, left_bracket, right_brace, word_each, word_in, word_of}
use Rattle.dbpl_tree.specs.declared.aggregate.Aggregate.{Aggregate}
use Rattle.dbpl_tree.specs.declared.designator.DesignatorOf.{DesignatorOf}
use Rattle.dbpl_tree.specs.declared.designator.PartOf.{PartOf}
use Rattle.dbpl_tree.specs.declared.designator.PartOf.TheVariants.{Field, Subscripts}
use Rattle.dbpl_tree.specs.declared.each.Each.{Each}
use Rattle.dbpl_tree.specs.declared.element.Element.{Element, Element-F, out-Element, roll-Element, roll-out-Element}
use Rattle.dbpl_tree.specs.declared.element.Element.TheOpen as phrases
use Rattle.dbpl_tree.specs.declared.element.Element.TheVariants as elements
use Rattle.dbpl_tree.specs.declared.expr.ExprOf.{ExprOf}
use Rattle.dbpl_tree.specs.declared.factor.Factor.{Factor}
use Rattle.dbpl_tree.specs.declared.ident.Ident.{Ident}
use Rattle.dbpl_tree.specs.declared.ident.Qual.{Qual}
use Rattle.dbpl_tree.specs.declared.operators.NotOperator.{NotOperator}
use Rattle.dbpl_tree.specs.declared.range.Range.{Range}
use Rattle.dbpl_grammar.specs.Expressions.{Inner, aggregate, all_of, are_qual, braced, each, each_of, element, element_first, element_made, expr_first, ident_first, is_qual, not_first, qual_in, second_of}
use Rattle.dbpl_grammar.specs.Reading.{◌<$>◌, ◌⊗◌, after, optional, kind_of}
use Rattle.dbpl_grammar.proofs.ChoiceLaw.{law_all, law_either, law_wider}
use Rattle.dbpl_grammar.proofs.Every.{Every, all_those, both, made, maybe, variant}
use Rattle.dbpl_grammar.proofs.ExprLaw.{expr_more, factor_more}
use Rattle.dbpl_grammar.proofs.JoinLaw.{law_closed}
use Rattle.dbpl_grammar.proofs.Law.{Law}
use Rattle.dbpl_grammar.proofs.NameLaw.{law_ident, law_qual}
use Rattle.dbpl_grammar.proofs.TokenLaw.{law_after, law_here}

abbrev pub negated_marks : Place × (NotOperator × Factor) → List Mark
negated_marks x = Before x.0 ∷ Of (not_lexeme x.1.0) ∷ factor_marks x.1.1

abbrev pub negated_depth : Place × (NotOperator × Factor) → ℕ
negated_depth x = suc (factor_depth x.1.1)

-- what a range may go on with
abbrev pub range_more : List Lexeme
range_more = full_stop ∷ left_bracket ∷ left_brace ∷ []

-- the law of the phrases that count
pub record InnerLaw (limit : ℕ) (inner : Inner) : Type 0 where
  pub expr : Every (expr_marks factor_marks) (expr_depth factor_depth) limit expr_first expr_more false inner.expr
  pub range : Every range_marks range_depth limit ident_first range_more false inner.range
  pub negated : Every negated_marks negated_depth limit not_first factor_more false inner.negated

-- the elements in their braces
abbrev pub braced_marks : List Element → List Mark
braced_marks xs = Of left_brace ∷ (between_marks comma element_marks xs ++ Of right_brace ∷ [])

abbrev pub element_more : List Lexeme
element_more = word_of ∷ expr_more

-- ---- how an element opens

abbrev pub each_marks_of : Each × (List Each × ExprOf Factor) → List Mark
each_marks_of x =
    Of word_of ∷ (each_marks x.0 ++ (further_marks comma each_marks x.1.0 ++ Of colon ∷ expr_marks factor_marks x.1.1))

abbrev pub each_depth_of : Each × (List Each × ExprOf Factor) → ℕ
each_depth_of x = max (each_depth x.0) (max (greatest each_depth x.1.0) (expr_depth factor_depth x.1.1))

made_marks : (x : ExprOf Factor × Option (Each × (List Each × ExprOf Factor))) → element_marks (element_made x) ≡ expr_marks factor_marks x.0 ++ option_marks each_marks_of x.1
made_marks x = by_other x.0 x.1
  where
    by_other : (target : ExprOf Factor) (other : Option (Each × (List Each × ExprOf Factor))) → element_marks (element_made (target, other)) ≡ expr_marks factor_marks target ++ option_marks each_marks_of other
    by_other target None =
        element_marks-out (elements.Plain target) ∙ ap (element_level spelling) (elements.outs-Plain target) ∙ sym (append-nil (expr_marks factor_marks target))
    by_other target (Some other) =
        element_marks-out (elements.Of target other.0 other.1.0 other.1.1) ∙ ap (element_level spelling) (elements.outs-Of target other.0 other.1.0 other.1.1)

made_deep : (x : ExprOf Factor × Option (Each × (List Each × ExprOf Factor))) → element_depth (element_made x) ≡ max (expr_depth factor_depth x.0) (option_depth each_depth_of x.1)
made_deep x = by_other x.0 x.1
  where
    by_other : (target : ExprOf Factor) (other : Option (Each × (List Each × ExprOf Factor))) → element_depth (element_made (target, other)) ≡ max (expr_depth factor_depth target) (option_depth each_depth_of other)
    by_other target None =
        element_depth-out (elements.Plain target) ∙ ap (element_depth_level depths) (elements.outs-Plain target) ∙ same_alone (expr_depth factor_depth target)
      where
        same_alone : (k : ℕ) → k ≡ max k 0
        same_alone k = omega arith
    by_other target (Some other) =
        element_depth-out (elements.Of target other.0 other.1.0 other.1.1) ∙ ap (element_depth_level depths) (elements.outs-Of target other.0 other.1.0 other.1.1)

abbrev pub IsEach : Element → Type 0
IsEach y = (x : Each × ExprOf Factor) × (elements.Each x.0 x.1 ≡ y)

abbrev pub IsOther : Element → Type 0
IsOther y = (x : ExprOf Factor × Option (Each × (List Each × ExprOf Factor))) × (element_made x ≡ y)

element_cases : (y : Element) → IsEach y ⊎ IsOther y
element_cases y = by_level (out-Element y) (roll-out-Element y)
  where
    by_level : (l : Element-F Element Factor Range Aggregate Each) → roll-Element l ≡ y → IsEach y ⊎ IsOther y
    by_level (phrases.Each each e) is = inl ((each, e), sym (elements.rolls-Each each e) ∙ is)
    by_level (phrases.Plain e) is = inr ((e, None), sym (elements.rolls-Plain e) ∙ is)
    by_level (phrases.Of e each others predicate) is =
        inr ((e, Some (each, (others, predicate))), sym (elements.rolls-Of e each others predicate) ∙ is)

-- ---- a designator that is a name

abbrev pub as_parts : Option Ident → List (PartOf Factor)
as_parts None = []
as_parts (Some name) = Field name ∷ []

abbrev pub as_designator : Qual → DesignatorOf Factor
as_designator name = record { head = name.first; parts = as_parts name.second }

pub second_as : (name : Option Ident) → second_of {F = Factor} (as_parts name) ≡ name
second_as None = refl
second_as (Some name) = refl

pub are_as : (name : Option Ident) → are_qual {F = Factor} (as_parts name) ≡ true
are_as None = refl
are_as (Some name) = refl

pub qual_marks_in : (found : DesignatorOf Factor) → is_qual found ≡ true → qual_marks (qual_in found) ≡ designator_marks factor_marks found
qual_marks_in found is = ap (λ (ms : List Mark). ident_marks found.head ++ ms) (by_parts found.parts is)
  where
    by_parts : (parts : List (PartOf Factor)) → are_qual parts ≡ true → option_marks (λ (x : Ident). Of full_stop ∷ ident_marks x) (second_of parts) ≡ flat_map (part_marks factor_marks) parts
    by_parts [] is = refl
    by_parts (Field name ∷ []) is = refl
    by_parts (Field name ∷ next ∷ others) is = absurd (true≢false (sym is))
    by_parts (Subscripts place es ∷ others) is = absurd (true≢false (sym is))

-- that a designator is a name is seen by its lexemes
pub same_qual : (one other : DesignatorOf Factor) → lexemes_in (designator_marks factor_marks other) ≡ lexemes_in (designator_marks factor_marks one) → is_qual one ≡ true → is_qual other ≡ true
same_qual one other same is = by_parts one.parts other.parts (ap (λ (ls : List Lexeme). drop 1 ls) same) is
  where
    behind_name : (parts : List (PartOf Factor)) → lexemes_in (flat_map (part_marks factor_marks) parts) ≡ [] → parts ≡ []
    behind_name [] e = refl
    behind_name (Field name ∷ parts) e = absurd (let some : full_stop ∷ _ ≡ [] = e in cc)
    behind_name (Subscripts place es ∷ parts) e = absurd (let some : left_bracket ∷ _ ≡ [] = e in cc)

    by_parts : (parts others : List (PartOf Factor)) → lexemes_in (flat_map (part_marks factor_marks) others) ≡ lexemes_in (flat_map (part_marks factor_marks) parts) → are_qual parts ≡ true → are_qual others ≡ true
    by_parts [] others e is = ap (λ (ps : List (PartOf Factor)). are_qual ps) (behind_name others e)
    by_parts (Field name ∷ []) [] e is = refl
    by_parts (Field name ∷ []) (Field other ∷ others) e is =
        ap (λ (ps : List (PartOf Factor)). are_qual (Field other ∷ ps)) (behind_name others (ap (λ (ls : List Lexeme). drop 2 ls) e))
    by_parts (Field name ∷ []) (Subscripts place es ∷ others) e is =
        absurd (let heads : sign_row left_bracket ≡ sign_row full_stop = ap (λ (ls : List Lexeme). head_row ls) e in omega arith)
      where
        sign_row : Lexeme → ℕ
        sign_row l = (kind_of l).1

        head_row : List Lexeme → ℕ
        head_row [] = 0
        head_row (l ∷ ls) = (kind_of l).1
    by_parts (Field name ∷ next ∷ parts) others e is = absurd (true≢false (sym is))
    by_parts (Subscripts place es ∷ parts) others e is = absurd (true≢false (sym is))

pub qual_shallow : (found : DesignatorOf Factor) → is_qual found ≡ true → designator_depth factor_depth found ≡ 0
qual_shallow found is = by_parts found.parts is
  where
    by_parts : (parts : List (PartOf Factor)) → are_qual parts ≡ true → greatest (part_depth factor_depth) parts ≡ 0
    by_parts [] is = refl
    by_parts (Field name ∷ []) is = refl
    by_parts (Field name ∷ next ∷ others) is = absurd (true≢false (sym is))
    by_parts (Subscripts place es ∷ others) is = absurd (true≢false (sym is))

-- ---- the laws

module _ {limit : ℕ} {inner : Inner} (laws : InnerLaw limit inner) where
  pub law_each : Every each_marks each_depth limit (word_each ∷ []) range_more false (each inner)
  unfolding each
  law_each =
      made each_marks each_depth (both (law_here limit) (law_after word_each refl (both (law_ident limit) (law_after word_in refl laws.range) refl)) refl) (λ found. record { place = found.0; variable = found.1.0; range = found.1.1 }) (λ x. (x.place, (x.variable, x.range))) (λ x. each_marks-out (record { place = x.0; variable = x.1.0; range = x.1.1 })) (λ x. let one = each_depth-out (record { place = x.0; variable = x.1.0; range = x.1.1 }) in omega (arith, one)) (λ x. refl)

  law_each_of : Every each_marks_of each_depth_of limit (word_of ∷ []) expr_more false (each_of inner)
  unfolding each_of
  law_each_of =
      law_after word_of refl (both law_each (both (all_those (law_after comma refl law_each) refl) (law_after colon refl laws.expr) refl) refl)

  law_each_element : Law element_marks element_depth limit (word_each ∷ []) element_more false IsEach ((λ found. elements.Each found.0 found.1) <$> (each inner ⊗ after colon inner.expr))
  law_each_element =
      law_wider (word_each ∷ []) element_more refl refl (variant element_marks element_depth (both law_each (law_after colon refl laws.expr) refl) (λ found. elements.Each found.0 found.1) (λ x. element_marks-out (elements.Each x.0 x.1) ∙ ap (element_level spelling) (elements.outs-Each x.0 x.1)) (λ x. element_depth-out (elements.Each x.0 x.1) ∙ ap (element_depth_level depths) (elements.outs-Each x.0 x.1)))

  law_other_element : Law element_marks element_depth limit expr_first element_more false IsOther (element_made <$> (inner.expr ⊗ optional (word_of ∷ []) (each_of inner)))
  law_other_element =
      variant element_marks element_depth (both laws.expr (maybe law_each_of) refl) element_made made_marks made_deep

  pub law_element : Every element_marks element_depth limit element_first element_more false (element inner)
  unfolding element
  law_element =
      law_all (λ (y : Element). Unit {0}) (λ y is. element_cases y) (λ y is. tt) (law_either law_each_element law_other_element refl)

  pub law_braced : Every braced_marks (greatest element_depth) limit (left_brace ∷ []) [] false (braced inner)
  unfolding braced
  law_braced =
      made braced_marks (greatest element_depth) (law_after left_brace refl (law_closed right_brace refl refl (maybe (both law_element (all_those (law_after comma refl law_element) refl) refl)))) all_of unmake marks depth again
    where
      unmake : List Element → Option (Element × List Element)
      unmake [] = None
      unmake (x ∷ xs) = Some (x, xs)

      again : (xs : List Element) → all_of (unmake xs) ≡ xs
      again [] = refl
      again (x ∷ xs) = refl

      marks : (x : Option (Element × List Element)) → braced_marks (all_of x) ≡ Of left_brace ∷ (option_marks (λ (y : Element × List Element). element_marks y.0 ++ flat_map (λ (z : Element). Of comma ∷ element_marks z) y.1) x ++ Of right_brace ∷ [])
      marks None = refl
      marks (Some x) = refl

      depth : (x : Option (Element × List Element)) → greatest element_depth (all_of x) ≡ option_depth (λ (y : Element × List Element). max (element_depth y.0) (greatest element_depth y.1)) x
      depth None = refl
      depth (Some x) = refl

  pub law_aggregate : Every aggregate_marks aggregate_depth limit ident_first [] false (aggregate inner)
  unfolding aggregate
  law_aggregate =
      made aggregate_marks aggregate_depth (both (law_qual limit) law_braced refl) (λ found. record { kind = found.0; elements = found.1 }) (λ x. (x.kind, x.elements)) (λ x. aggregate_marks-out (record { kind = x.0; elements = x.1 })) (λ x. let one = aggregate_depth-out (record { kind = x.0; elements = x.1 }) in omega (arith, one)) (λ x. refl)
