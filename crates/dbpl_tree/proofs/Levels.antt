-- One level of a phrase: its marks are made of those of the phrases that stand in it, and so is its depth. Each is the law of
-- any fold, and that the step takes the marks and depths of a phrase with others in its place.
use Rattle.std.proofs.Common.{◌≡◌, ℕ, suc, max, List, [], ◌∷◌, ◌++◌, map, refl, ◌∙◌}
use Rattle.dbpl_tree.proofs.Folds.{aggregate-out, aggregate-roll, each-out, each-roll, element-out, element-roll, factor-out, factor-roll, folded, range-out, range-roll}
use Rattle.dbpl_tree.proofs.Mapped.{arguments-depth, arguments-marks, designator-depth, designator-marks, expr-depth, expr-marks, greatest-map, marks-map}
use Rattle.dbpl_tree.specs.Depths.{aggregate_depth, aggregate_depth_level, counted, depths, each_depth, each_depth_level, element_depth, element_depth_level, factor_depth, factor_depth_level, range_depth, range_depth_level}
use Rattle.dbpl_tree.specs.Factors.{aggregate_level, aggregate_marks, each_level, each_marks, element_level, element_marks, factor_level, factor_marks, range_level, range_marks, spelled, spelling}
use Rattle.dbpl_tree.specs.Maps.{Making, aggregate_with, element_with, factor_with, range_with}
use Rattle.dbpl_tree.specs.Marks.{Mark, Of, Before, between_marks}
use Rattle.dbpl_tree.specs.Names.{ident_marks, qual_marks}
use Rattle.dbpl_tree.specs.Operators.{quantifier_lexeme}
use Rattle.dbpl_tree.specs.Words.{colon, comma, left_brace, left_parenthesis, right_brace, right_parenthesis, word_in, word_of}
use Rattle.dbpl_tree.specs.declared.aggregate.Aggregate.{Aggregate, Aggregate-F, out-Aggregate, roll-Aggregate}
use Rattle.dbpl_tree.specs.declared.each.Each.{Each, Each-F, out-Each, roll-Each}
use Rattle.dbpl_tree.specs.declared.element.Element.{Element, Element-F, out-Element, roll-Element}
use Rattle.dbpl_tree.specs.declared.element.Element.TheOpen as phrases
use Rattle.dbpl_tree.specs.declared.factor.Factor.{Factor, Factor-F, out-Factor, roll-Factor}
use Rattle.dbpl_tree.specs.declared.range.Range.{Range, Range-F, out-Range, roll-Range}

-- ---- marks

abbrev same : List Mark → List Mark
same marks = marks

abbrev all_marks : Making Element Factor Range Aggregate Each (List Mark) (List Mark) (List Mark) (List Mark) (List Mark)
all_marks =
    folded (element_level spelled) (factor_level spelled) (range_level spelled) (aggregate_level spelled) (each_level spelled)

factor_level-with :
    (x : Factor-F Element Factor Range Aggregate Each) →
    factor_level spelled (factor_with all_marks x) ≡ factor_level spelling x
factor_level-with (phrases.Number place n) = refl
factor_level-with (phrases.CharCode place n) = refl
factor_level-with (phrases.Text place text) = refl
factor_level-with (phrases.Factor::Aggregate a) = refl
factor_level-with (phrases.Factor::Designator d a) =
    λ i. designator-marks factor_marks same d i ++
    arguments-marks factor_marks same a i
factor_level-with (phrases.Parenthesized place e) =
    λ i. Before place ∷ Of left_parenthesis ∷
    (expr-marks factor_marks same e i ++ Of right_parenthesis ∷ [])
factor_level-with (phrases.Not place operator f) = refl
factor_level-with (phrases.Quantified place quantifier x r e) =
    λ i. Before place ∷ Of (quantifier_lexeme quantifier) ∷
    (ident_marks x ++ Of word_in ∷
    (range_marks r ++ Of left_parenthesis ∷
    (expr-marks factor_marks same e i ++ Of right_parenthesis ∷ [])))

range_level-with :
    (x : Range-F Element Factor Range Aggregate Each) →
    range_level spelled (range_with all_marks x) ≡ range_level spelling x
range_level-with (phrases.Range::Designator d) = designator-marks factor_marks same d
range_level-with (phrases.Range::Aggregate a) = refl

element_level-with :
    (x : Element-F Element Factor Range Aggregate Each) →
    element_level spelled (element_with all_marks x) ≡ element_level spelling x
element_level-with (phrases.Each c e) =
    λ i. each_marks c ++ Of colon ∷ expr-marks factor_marks same e i
element_level-with (phrases.Plain e) = expr-marks factor_marks same e
element_level-with (phrases.Of target c cs e) =
    λ i. expr-marks factor_marks same target i ++ Of word_of ∷
    (each_marks c ++
    (marks-map (λ x. Of comma ∷ same x) each_marks (λ x. Of comma ∷ each_marks x) (λ x. refl) cs i ++ Of colon ∷
    expr-marks factor_marks same e i))

elements-map :
    (elements : List Element) → between_marks comma same (map element_marks elements) ≡ between_marks comma element_marks elements
elements-map [] = refl
elements-map (x ∷ xs) =
    λ i. element_marks x ++
    marks-map (λ y. Of comma ∷ same y) element_marks (λ y. Of comma ∷ element_marks y) (λ y. refl) xs i

aggregate_level-with :
    (x : Aggregate-F Element Factor Range Aggregate Each) →
    aggregate_level spelled (aggregate_with all_marks x) ≡ aggregate_level spelling x
aggregate_level-with x = λ i. qual_marks x.kind ++ Of left_brace ∷ (elements-map x.elements i ++ Of right_brace ∷ [])

pub factor_marks-out : (x : Factor) → factor_marks x ≡ factor_level spelling (out-Factor x)
factor_marks-out x =
    factor-out (element_level spelled)
    (factor_level spelled) (range_level spelled) (aggregate_level spelled) (each_level spelled) x
    ∙ factor_level-with (out-Factor x)

pub factor_marks-roll :
    (x : Factor-F Element Factor Range Aggregate Each) → factor_marks (roll-Factor x) ≡ factor_level spelling x
factor_marks-roll x =
    factor-roll (element_level spelled)
    (factor_level spelled) (range_level spelled) (aggregate_level spelled) (each_level spelled) x
    ∙ factor_level-with x

pub range_marks-out : (x : Range) → range_marks x ≡ range_level spelling (out-Range x)
range_marks-out x =
    range-out (element_level spelled)
    (factor_level spelled) (range_level spelled) (aggregate_level spelled) (each_level spelled) x
    ∙ range_level-with (out-Range x)

pub range_marks-roll :
    (x : Range-F Element Factor Range Aggregate Each) → range_marks (roll-Range x) ≡ range_level spelling x
range_marks-roll x =
    range-roll (element_level spelled)
    (factor_level spelled) (range_level spelled) (aggregate_level spelled) (each_level spelled) x
    ∙ range_level-with x

pub element_marks-out : (x : Element) → element_marks x ≡ element_level spelling (out-Element x)
element_marks-out x =
    element-out (element_level spelled)
    (factor_level spelled) (range_level spelled) (aggregate_level spelled) (each_level spelled) x
    ∙ element_level-with (out-Element x)

pub element_marks-roll :
    (x : Element-F Element Factor Range Aggregate Each) → element_marks (roll-Element x) ≡ element_level spelling x
element_marks-roll x =
    element-roll (element_level spelled)
    (factor_level spelled) (range_level spelled) (aggregate_level spelled) (each_level spelled) x
    ∙ element_level-with x

pub aggregate_marks-out : (x : Aggregate) → aggregate_marks x ≡ aggregate_level spelling (out-Aggregate x)
aggregate_marks-out x =
    aggregate-out (element_level spelled)
    (factor_level spelled) (range_level spelled) (aggregate_level spelled) (each_level spelled) x
    ∙ aggregate_level-with (out-Aggregate x)

pub aggregate_marks-roll :
    (x : Aggregate-F Element Factor Range Aggregate Each) → aggregate_marks (roll-Aggregate x) ≡ aggregate_level spelling x
aggregate_marks-roll x =
    aggregate-roll (element_level spelled)
    (factor_level spelled) (range_level spelled) (aggregate_level spelled) (each_level spelled) x
    ∙ aggregate_level-with x

pub each_marks-out : (x : Each) → each_marks x ≡ each_level spelling (out-Each x)
each_marks-out x =
    each-out (element_level spelled)
    (factor_level spelled) (range_level spelled) (aggregate_level spelled) (each_level spelled) x

pub each_marks-roll :
    (x : Each-F Element Factor Range Aggregate Each) → each_marks (roll-Each x) ≡ each_level spelling x
each_marks-roll x =
    each-roll (element_level spelled)
    (factor_level spelled) (range_level spelled) (aggregate_level spelled) (each_level spelled) x

-- ---- depths

abbrev same_depth : ℕ → ℕ
same_depth n = n

abbrev all_depths : Making Element Factor Range Aggregate Each ℕ ℕ ℕ ℕ ℕ
all_depths =
    folded (element_depth_level counted) (factor_depth_level counted) (range_depth_level counted)
    (aggregate_depth_level counted) (each_depth_level counted)

factor_depth_level-with :
    (x : Factor-F Element Factor Range Aggregate Each) →
    factor_depth_level counted (factor_with all_depths x) ≡ factor_depth_level depths x
factor_depth_level-with (phrases.Number place n) = refl
factor_depth_level-with (phrases.CharCode place n) = refl
factor_depth_level-with (phrases.Text place text) = refl
factor_depth_level-with (phrases.Factor::Aggregate a) = refl
factor_depth_level-with (phrases.Factor::Designator d a) =
    λ i. max (designator-depth factor_depth same_depth d i)
    (arguments-depth factor_depth same_depth a i)
factor_depth_level-with (phrases.Parenthesized place e) =
    expr-depth factor_depth same_depth e
factor_depth_level-with (phrases.Not place operator f) = refl
factor_depth_level-with (phrases.Quantified place quantifier x r e) =
    λ i. max (range_depth r) (expr-depth factor_depth same_depth e i)

range_depth_level-with :
    (x : Range-F Element Factor Range Aggregate Each) →
    range_depth_level counted (range_with all_depths x) ≡ range_depth_level depths x
range_depth_level-with (phrases.Range::Designator d) =
    λ i. suc (designator-depth factor_depth same_depth d i)
range_depth_level-with (phrases.Range::Aggregate a) = refl

element_depth_level-with :
    (x : Element-F Element Factor Range Aggregate Each) →
    element_depth_level counted (element_with all_depths x) ≡ element_depth_level depths x
element_depth_level-with (phrases.Each c e) =
    λ i. max (each_depth c) (expr-depth factor_depth same_depth e i)
element_depth_level-with (phrases.Plain e) = expr-depth factor_depth same_depth e
element_depth_level-with (phrases.Of target c cs e) =
    λ i. max (expr-depth factor_depth same_depth target i)
    (max (each_depth c)
    (max (greatest-map same_depth each_depth each_depth (λ x. refl) cs i)
    (expr-depth factor_depth same_depth e i)))

aggregate_depth_level-with :
    (x : Aggregate-F Element Factor Range Aggregate Each) →
    aggregate_depth_level counted (aggregate_with all_depths x) ≡ aggregate_depth_level depths x
aggregate_depth_level-with x = greatest-map same_depth element_depth element_depth (λ y. refl) x.elements

pub factor_depth-out : (x : Factor) → factor_depth x ≡ factor_depth_level depths (out-Factor x)
factor_depth-out x =
    factor-out (element_depth_level counted) (factor_depth_level counted)
    (range_depth_level counted) (aggregate_depth_level counted) (each_depth_level counted) x
    ∙ factor_depth_level-with (out-Factor x)

pub factor_depth-roll :
    (x : Factor-F Element Factor Range Aggregate Each) → factor_depth (roll-Factor x) ≡ factor_depth_level depths x
factor_depth-roll x =
    factor-roll (element_depth_level counted) (factor_depth_level counted)
    (range_depth_level counted) (aggregate_depth_level counted) (each_depth_level counted) x
    ∙ factor_depth_level-with x

pub range_depth-out : (x : Range) → range_depth x ≡ range_depth_level depths (out-Range x)
range_depth-out x =
    range-out (element_depth_level counted) (factor_depth_level counted)
    (range_depth_level counted) (aggregate_depth_level counted) (each_depth_level counted) x
    ∙ range_depth_level-with (out-Range x)

pub range_depth-roll :
    (x : Range-F Element Factor Range Aggregate Each) → range_depth (roll-Range x) ≡ range_depth_level depths x
range_depth-roll x =
    range-roll (element_depth_level counted) (factor_depth_level counted)
    (range_depth_level counted) (aggregate_depth_level counted) (each_depth_level counted) x
    ∙ range_depth_level-with x

pub element_depth-out : (x : Element) → element_depth x ≡ element_depth_level depths (out-Element x)
element_depth-out x =
    element-out (element_depth_level counted) (factor_depth_level counted)
    (range_depth_level counted) (aggregate_depth_level counted) (each_depth_level counted) x
    ∙ element_depth_level-with (out-Element x)

pub element_depth-roll :
    (x : Element-F Element Factor Range Aggregate Each) → element_depth (roll-Element x) ≡ element_depth_level depths x
element_depth-roll x =
    element-roll (element_depth_level counted) (factor_depth_level counted)
    (range_depth_level counted) (aggregate_depth_level counted) (each_depth_level counted) x
    ∙ element_depth_level-with x

pub aggregate_depth-out : (x : Aggregate) → aggregate_depth x ≡ aggregate_depth_level depths (out-Aggregate x)
aggregate_depth-out x =
    aggregate-out (element_depth_level counted) (factor_depth_level counted)
    (range_depth_level counted) (aggregate_depth_level counted) (each_depth_level counted) x
    ∙ aggregate_depth_level-with (out-Aggregate x)

pub aggregate_depth-roll :
    (x : Aggregate-F Element Factor Range Aggregate Each) → aggregate_depth (roll-Aggregate x) ≡ aggregate_depth_level depths x
aggregate_depth-roll x =
    aggregate-roll (element_depth_level counted) (factor_depth_level counted)
    (range_depth_level counted) (aggregate_depth_level counted) (each_depth_level counted) x
    ∙ aggregate_depth_level-with x

pub each_depth-out : (x : Each) → each_depth x ≡ each_depth_level depths (out-Each x)
each_depth-out x =
    each-out (element_depth_level counted) (factor_depth_level counted)
    (range_depth_level counted) (aggregate_depth_level counted) (each_depth_level counted) x

pub each_depth-roll :
    (x : Each-F Element Factor Range Aggregate Each) → each_depth (roll-Each x) ≡ each_depth_level depths x
each_depth-roll x =
    each-roll (element_depth_level counted) (factor_depth_level counted)
    (range_depth_level counted) (aggregate_depth_level counted) (each_depth_level counted) x
