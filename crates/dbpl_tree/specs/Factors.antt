-- The marks of factors, aggregates, elements, EACH and ranges, which stand inside one another.
use Rattle.std.specs.Prelude.{List, [], ◌∷◌, ◌++◌}
use Rattle.dbpl_base.specs.declared.lexeme.Lexeme.TheVariants as lexemes
use Rattle.dbpl_tree.specs.Expressions.{arguments_marks, designator_marks, expr_marks}
use Rattle.dbpl_tree.specs.Marks.{Mark, Of, Before, between_marks, further_marks, option_marks}
use Rattle.dbpl_tree.specs.Names.{ident_marks, qual_marks}
use Rattle.dbpl_tree.specs.Operators.{not_lexeme, quantifier_lexeme}
use Rattle.dbpl_tree.specs.Words.{colon, comma, left_brace, left_parenthesis, right_brace, right_parenthesis, word_each, word_in, word_of}
use Rattle.dbpl_tree.specs.declared.aggregate.Aggregate.{Aggregate, Aggregate-F, fold-Aggregate}
use Rattle.dbpl_tree.specs.declared.each.Each.{Each, Each-F, fold-Each}
use Rattle.dbpl_tree.specs.declared.element.Element.{Element, Element-F, fold-Element}
use Rattle.dbpl_tree.specs.declared.element.Element.TheOpen as phrases
use Rattle.dbpl_tree.specs.declared.factor.Factor.{Factor, Factor-F, fold-Factor}
use Rattle.dbpl_tree.specs.declared.range.Range.{Range, Range-F, fold-Range}

-- what gives the marks of an element, a factor, a range, an aggregate and an EACH, whatever they are held as
pub record Spelling (E F R A C : Type 0) : Type 0 where
  pub element : E → List Mark
  pub factor : F → List Mark
  pub range : R → List Mark
  pub aggregate : A → List Mark
  pub each : C → List Mark

abbrev pub factor_level : {E F R A C : Type 0} → Spelling E F R A C → Factor-F E F R A C → List Mark
factor_level s (phrases.Number place n) = Before place ∷ Of (lexemes.Number n) ∷ []
factor_level s (phrases.CharCode place n) = Before place ∷ Of (lexemes.CharCode n) ∷ []
factor_level s (phrases.Text place text) = Before place ∷ Of (lexemes.Text text) ∷ []
factor_level s (phrases.Factor::Aggregate a) = s.aggregate a
factor_level s (phrases.Factor::Designator d a) = designator_marks s.factor d ++ option_marks (arguments_marks s.factor) a
factor_level s (phrases.Parenthesized place e) =
    Before place ∷ Of left_parenthesis ∷ (expr_marks s.factor e ++ Of right_parenthesis ∷ [])
factor_level s (phrases.Not place operator f) = Before place ∷ Of (not_lexeme operator) ∷ s.factor f
factor_level s (phrases.Quantified place quantifier x r e) =
    Before place ∷ Of (quantifier_lexeme quantifier) ∷
    (ident_marks x ++ Of word_in ∷
    (s.range r ++ Of left_parenthesis ∷ (expr_marks s.factor e ++ Of right_parenthesis ∷ [])))

abbrev pub aggregate_level : {E F R A C : Type 0} → Spelling E F R A C → Aggregate-F E F R A C → List Mark
aggregate_level s a = qual_marks a.kind ++ Of left_brace ∷ (between_marks comma s.element a.elements ++ Of right_brace ∷ [])

abbrev pub element_level : {E F R A C : Type 0} → Spelling E F R A C → Element-F E F R A C → List Mark
element_level s (phrases.Each c e) = s.each c ++ Of colon ∷ expr_marks s.factor e
element_level s (phrases.Plain e) = expr_marks s.factor e
element_level s (phrases.Of target c cs e) =
    expr_marks s.factor target ++ Of word_of ∷
    (s.each c ++ (further_marks comma s.each cs ++ Of colon ∷ expr_marks s.factor e))

abbrev pub each_level : {E F R A C : Type 0} → Spelling E F R A C → Each-F E F R A C → List Mark
each_level s c = Before c.place ∷ Of word_each ∷ (ident_marks c.variable ++ Of word_in ∷ s.range c.range)

abbrev pub range_level : {E F R A C : Type 0} → Spelling E F R A C → Range-F E F R A C → List Mark
range_level s (phrases.Range::Designator d) = designator_marks s.factor d
range_level s (phrases.Range::Aggregate a) = s.aggregate a

-- for a level whose parts are marks already: each as it is
abbrev pub spelled : Spelling (List Mark) (List Mark) (List Mark) (List Mark) (List Mark)
spelled = record {
  element = λ marks. marks;
  factor = λ marks. marks;
  range = λ marks. marks;
  aggregate = λ marks. marks;
  each = λ marks. marks;
}

abbrev pub factor_marks : Factor → List Mark
factor_marks f =
    fold-Factor (List Mark) (List Mark) (List Mark) (List Mark) (List Mark) (element_level spelled)
    (factor_level spelled) (range_level spelled) (aggregate_level spelled) (each_level spelled) f

abbrev pub aggregate_marks : Aggregate → List Mark
aggregate_marks a =
    fold-Aggregate (List Mark) (List Mark) (List Mark) (List Mark) (List Mark) (element_level spelled)
    (factor_level spelled) (range_level spelled) (aggregate_level spelled) (each_level spelled) a

abbrev pub element_marks : Element → List Mark
element_marks e =
    fold-Element (List Mark) (List Mark) (List Mark) (List Mark) (List Mark) (element_level spelled)
    (factor_level spelled) (range_level spelled) (aggregate_level spelled) (each_level spelled) e

abbrev pub each_marks : Each → List Mark
each_marks c =
    fold-Each (List Mark) (List Mark) (List Mark) (List Mark) (List Mark) (element_level spelled)
    (factor_level spelled) (range_level spelled) (aggregate_level spelled) (each_level spelled) c

abbrev pub range_marks : Range → List Mark
range_marks r =
    fold-Range (List Mark) (List Mark) (List Mark) (List Mark) (List Mark) (element_level spelled)
    (factor_level spelled) (range_level spelled) (aggregate_level spelled) (each_level spelled) r

-- what gives the marks of the phrases of a tree
abbrev pub spelling : Spelling Element Factor Range Aggregate Each
spelling = record {
  element = element_marks;
  factor = factor_marks;
  range = range_marks;
  aggregate = aggregate_marks;
  each = each_marks;
}
