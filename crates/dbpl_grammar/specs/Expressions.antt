-- What is read of expressions, designators, ranges and aggregates. One token of sight is enough but for one place: behind
-- a designator that could be the name of a type, a brace begins the elements of an aggregate.
use Rattle.std.specs.Prelude.{ℕ, zero, suc, Bool, true, false, List, [], ◌∷◌, Option, Some, None, if◌then◌else◌}
use Rattle.dbpl_base.specs.declared.lexeme.Lexeme.{Lexeme}
use Rattle.dbpl_base.specs.declared.lexeme.Lexeme.TheVariants as lexeme
use Rattle.dbpl_base.specs.declared.place.Place.{Place}
use Rattle.dbpl_grammar.specs.Lexemes.{a_char_code, a_number, a_text, an_ident}
use Rattle.dbpl_grammar.specs.Reading.{Parser, ◌<$>◌, ◌⊗◌, ◌⊗>◌, after, by_table, closed, either, here, leaf, many, nothing, optional, too_deep}
use Rattle.dbpl_tree.specs.Operators.{adding_lexeme, multiplying_lexeme, not_lexeme, quantifier_lexeme, relation_lexeme, sign_lexeme}
use Rattle.dbpl_tree.specs.Words.{ampersand, colon, comma, equal_sign, full_stop, greater_equal_sign, greater_sign, hash_sign, left_brace, left_bracket, left_parenthesis, less_equal_sign, less_sign, minus_sign, plus_sign, right_brace, right_bracket, right_parenthesis, tilde, times_sign, unequal_sign, word_all, word_and, word_div, word_each, word_in, word_mod, word_not, word_of, word_or, word_some}
use Rattle.dbpl_tree.specs.declared.aggregate.Aggregate.{Aggregate}
use Rattle.dbpl_tree.specs.declared.designator.ArgumentsOf.{ArgumentsOf}
use Rattle.dbpl_tree.specs.declared.designator.DesignatorOf.{DesignatorOf}
use Rattle.dbpl_tree.specs.declared.designator.PartOf.{PartOf}
use Rattle.dbpl_tree.specs.declared.designator.PartOf.TheVariants.{Field, Subscripts}
use Rattle.dbpl_tree.specs.declared.each.Each.{Each}
use Rattle.dbpl_tree.specs.declared.element.Element.{Element}
use Rattle.dbpl_tree.specs.declared.element.Element.TheVariants as elements
use Rattle.dbpl_tree.specs.declared.expr.ComparedOf.{ComparedOf}
use Rattle.dbpl_tree.specs.declared.expr.ExprOf.{ExprOf}
use Rattle.dbpl_tree.specs.declared.expr.ExprsOf.{ExprsOf}
use Rattle.dbpl_tree.specs.declared.factor.Factor.{Factor}
use Rattle.dbpl_tree.specs.declared.factor.Factor.TheVariants as factors
use Rattle.dbpl_tree.specs.declared.ident.Ident.{Ident}
use Rattle.dbpl_tree.specs.declared.ident.Idents.{Idents}
use Rattle.dbpl_tree.specs.declared.ident.Qual.{Qual}
use Rattle.dbpl_tree.specs.declared.operators.AddingOperator.{AddingOperator}
use Rattle.dbpl_tree.specs.declared.operators.AddingOperator.TheVariants as adding
use Rattle.dbpl_tree.specs.declared.operators.MultiplyingOperator.{MultiplyingOperator}
use Rattle.dbpl_tree.specs.declared.operators.MultiplyingOperator.TheVariants as multiplying
use Rattle.dbpl_tree.specs.declared.operators.NotOperator.{NotOperator}
use Rattle.dbpl_tree.specs.declared.operators.NotOperator.TheVariants as negation
use Rattle.dbpl_tree.specs.declared.operators.Quantifier.{Quantifier}
use Rattle.dbpl_tree.specs.declared.operators.Quantifier.TheVariants as quantifiers
use Rattle.dbpl_tree.specs.declared.operators.Relation.{Relation}
use Rattle.dbpl_tree.specs.declared.operators.Relation.TheVariants as relations
use Rattle.dbpl_tree.specs.declared.operators.SignOperator.{SignOperator}
use Rattle.dbpl_tree.specs.declared.operators.SignOperator.TheVariants as signs
use Rattle.dbpl_tree.specs.declared.range.Range.{Range}
use Rattle.dbpl_tree.specs.declared.range.Range.TheVariants as ranges
use Rattle.dbpl_tree.specs.declared.simple.AddedOf.{AddedOf}
use Rattle.dbpl_tree.specs.declared.simple.SimpleOf.{SimpleOf}
use Rattle.dbpl_tree.specs.declared.term.MultipliedOf.{MultipliedOf}
use Rattle.dbpl_tree.specs.declared.term.TermOf.{TermOf}

-- ---- operators

unfoldable pub relation_of : Lexeme → Option Relation
relation_of =
    by_table relation_lexeme (relations.Equal ∷ relations.Hash ∷ relations.Unequal ∷ relations.Less ∷ relations.LessEqual ∷ relations.Greater ∷ relations.GreaterEqual ∷ [])

unfoldable pub sign_of : Lexeme → Option SignOperator
sign_of = by_table sign_lexeme (signs.Plus ∷ signs.Minus ∷ [])

unfoldable pub adding_of : Lexeme → Option AddingOperator
adding_of = by_table adding_lexeme (adding.Plus ∷ adding.Minus ∷ adding.Or ∷ [])

unfoldable pub multiplying_of : Lexeme → Option MultiplyingOperator
multiplying_of =
    by_table multiplying_lexeme (multiplying.Times ∷ multiplying.Div ∷ multiplying.Mod ∷ multiplying.And ∷ multiplying.Ampersand ∷ [])

unfoldable pub not_of : Lexeme → Option NotOperator
not_of = by_table not_lexeme (negation.Not ∷ negation.Tilde ∷ [])

unfoldable pub quantifier_of : Lexeme → Option Quantifier
quantifier_of = by_table quantifier_lexeme (quantifiers.Exists ∷ quantifiers.ForAll ∷ [])

-- ---- tokens with a content

abbrev pub identifier_of : Lexeme → Option (List ℕ)
identifier_of (lexeme.Ident name) = Some name
identifier_of _ = None

abbrev pub number_of : Lexeme → Option ℕ
number_of (lexeme.Number n) = Some n
number_of _ = None

abbrev pub char_code_of : Lexeme → Option ℕ
char_code_of (lexeme.CharCode n) = Some n
char_code_of _ = None

abbrev pub text_of : Lexeme → Option (List ℕ)
text_of (lexeme.Text text) = Some text
text_of _ = None

-- ---- the lexemes with which a phrase may begin

abbrev pub relations_first : List Lexeme
relations_first = equal_sign ∷ hash_sign ∷ unequal_sign ∷ less_sign ∷ less_equal_sign ∷ greater_sign ∷ greater_equal_sign ∷ []

abbrev pub signs_first : List Lexeme
signs_first = plus_sign ∷ minus_sign ∷ []

abbrev pub adding_first : List Lexeme
adding_first = plus_sign ∷ minus_sign ∷ word_or ∷ []

abbrev pub multiplying_first : List Lexeme
multiplying_first = times_sign ∷ word_div ∷ word_mod ∷ word_and ∷ ampersand ∷ []

abbrev pub not_first : List Lexeme
not_first = word_not ∷ tilde ∷ []

abbrev pub quantifier_first : List Lexeme
quantifier_first = word_some ∷ word_all ∷ []

abbrev pub part_first : List Lexeme
part_first = full_stop ∷ left_bracket ∷ []

abbrev pub ident_first : List Lexeme
ident_first = an_ident ∷ []

abbrev pub factor_first : List Lexeme
factor_first =
    a_number ∷ a_char_code ∷ a_text ∷ left_parenthesis ∷ word_not ∷ tilde ∷ word_some ∷ word_all ∷ an_ident ∷ []

abbrev pub expr_first : List Lexeme
expr_first = plus_sign ∷ minus_sign ∷ factor_first

abbrev pub element_first : List Lexeme
element_first = word_each ∷ expr_first

-- ---- names

unfoldable pub ident : Parser Ident
ident = (λ found. record { place = found.0; name = found.1 }) <$> (here ⊗ leaf identifier_of)

unfoldable pub idents : Parser Idents
idents =
    (λ found. record { first = found.0; others = found.1 }) <$> (ident ⊗ many (comma ∷ []) (after comma ident))

unfoldable pub qual : Parser Qual
qual =
    (λ found. record { first = found.0; second = found.1 }) <$> (ident ⊗ optional (full_stop ∷ []) (after full_stop ident))

-- ---- expressions over any factors

unfoldable pub multiplied : {F : Type 0} → Parser F → Parser (MultipliedOf F)
multiplied factor =
    (λ found. record { place = found.0; operator = found.1.0; factor = found.1.1 }) <$> (here ⊗ leaf multiplying_of ⊗ factor)

unfoldable pub term : {F : Type 0} → Parser F → Parser (TermOf F)
term factor =
    (λ found. record { place = found.0; first = found.1.0; others = found.1.1 }) <$> (here ⊗ factor ⊗ many multiplying_first (multiplied factor))

unfoldable pub added : {F : Type 0} → Parser F → Parser (AddedOf F)
added factor =
    (λ found. record { place = found.0; operator = found.1.0; term = found.1.1 }) <$> (here ⊗ leaf adding_of ⊗ term factor)

unfoldable pub simple : {F : Type 0} → Parser F → Parser (SimpleOf F)
simple factor =
    (λ found. record { place = found.0; sign = found.1.0; first = found.1.1.0; others = found.1.1.1 }) <$> (here ⊗ optional signs_first (leaf sign_of) ⊗ term factor ⊗ many adding_first (added factor))

unfoldable pub compared : {F : Type 0} → Parser F → Parser (ComparedOf F)
compared factor =
    (λ found. record { place = found.0; relation = found.1.0; right = found.1.1 }) <$> (here ⊗ leaf relation_of ⊗ simple factor)

unfoldable pub expr : {F : Type 0} → Parser F → Parser (ExprOf F)
expr factor =
    (λ found. record { place = found.0; left = found.1.0; right = found.1.1 }) <$> (here ⊗ simple factor ⊗ optional relations_first (compared factor))

-- ---- designators over any expressions

unfoldable pub exprs : {F : Type 0} → Parser (ExprOf F) → Parser (ExprsOf F)
exprs expr =
    (λ found. record { first = found.0; others = found.1 }) <$> (expr ⊗ many (comma ∷ []) (after comma expr))

unfoldable pub arguments : {F : Type 0} → Parser (ExprOf F) → Parser (ArgumentsOf F)
arguments expr =
    (λ found. record { place = found.0; exprs = found.1 }) <$> (here ⊗ after left_parenthesis (closed (optional expr_first (exprs expr)) right_parenthesis))

unfoldable pub subscripts : {F : Type 0} → Parser (ExprOf F) → Parser (Place × ExprsOf F)
subscripts expr = here ⊗ after left_bracket (closed (exprs expr) right_bracket)

unfoldable pub part : {F : Type 0} → Parser (ExprOf F) → Parser (PartOf F)
part expr =
    either (full_stop ∷ []) (Field <$> after full_stop ident) ((λ found. Subscripts found.0 found.1) <$> subscripts expr)

unfoldable pub designator : {F : Type 0} → Parser (ExprOf F) → Parser (DesignatorOf F)
designator expr =
    (λ found. record { head = found.0; parts = found.1 }) <$> (ident ⊗ many part_first (part expr))

-- ---- a designator that may be the name of a type

abbrev pub second_of : {F : Type 0} → List (PartOf F) → Option Ident
second_of [] = None
second_of (Field name ∷ others) = Some name
second_of (Subscripts place exprs ∷ others) = None

-- the name that it is, where it is one
abbrev pub qual_in : {F : Type 0} → DesignatorOf F → Qual
qual_in found = record { first = found.head; second = second_of found.parts }

abbrev pub are_qual : {F : Type 0} → List (PartOf F) → Bool
are_qual [] = true
are_qual (Field name ∷ []) = true
are_qual (Field name ∷ next ∷ others) = false
are_qual (Subscripts place exprs ∷ others) = false

-- it is x or x.y
abbrev pub is_qual : {F : Type 0} → DesignatorOf F → Bool
is_qual found = are_qual found.parts

-- ---- factors, elements, ranges

-- what is read of the phrases that count as one deeper
pub record Inner : Type 0 where
  pub expr : Parser (ExprOf Factor)
  pub range : Parser Range
  -- NOT or ~, and its factor
  pub negated : Parser (Place × (NotOperator × Factor))

unfoldable pub each : Inner → Parser Each
each inner =
    (λ found. record { place = found.0; variable = found.1.0; range = found.1.1 }) <$> (here ⊗ after word_each (ident ⊗ after word_in inner.range))

-- OF EACH .. {, EACH ..} : predicate
unfoldable pub each_of : Inner → Parser (Each × (List Each × ExprOf Factor))
each_of inner =
    after word_of (each inner ⊗ many (comma ∷ []) (after comma (each inner)) ⊗ after colon inner.expr)

abbrev pub element_made : ExprOf Factor × Option (Each × (List Each × ExprOf Factor)) → Element
element_made (target, None) = elements.Plain target
element_made (target, Some (first, (others, predicate))) = elements.Of target first others predicate

unfoldable pub element : Inner → Parser Element
element inner =
    either (word_each ∷ []) ((λ found. elements.Each found.0 found.1) <$> (each inner ⊗ after colon inner.expr)) (element_made <$> (inner.expr ⊗ optional (word_of ∷ []) (each_of inner)))

abbrev pub all_of : {A : Type 0} → Option (A × List A) → List A
all_of None = []
all_of (Some found) = found.0 ∷ found.1

-- the elements of an aggregate in their braces
unfoldable pub braced : Inner → Parser (List Element)
braced inner =
    all_of <$> after left_brace (closed (optional element_first (element inner ⊗ many (comma ∷ []) (after comma (element inner)))) right_brace)

unfoldable pub aggregate : Inner → Parser Aggregate
aggregate inner = (λ found. record { kind = found.0; elements = found.1 }) <$> (qual ⊗ braced inner)

abbrev pub range_made : DesignatorOf Factor × Option (List Element) → Range
range_made (found, None) = ranges.Designator found
range_made (found, Some elements) = ranges.Aggregate (record { kind = qual_in found; elements = elements })

unfoldable pub range : Inner → Parser Range
range inner =
    range_made <$> (designator inner.expr ⊗> λ found. if is_qual found then optional (left_brace ∷ []) (braced inner) else nothing)

-- what follows a designator in a factor: elements, or the arguments of a call, if there are any
pub data Behind : Type 0 where
  Braced : List Element → Behind
  Called : Option (ArgumentsOf Factor) → Behind

abbrev pub named_made : DesignatorOf Factor × Behind → Factor
named_made (found, Braced elements) = factors.Aggregate (record { kind = qual_in found; elements = elements })
named_made (found, Called arguments) = factors.Designator found arguments

unfoldable pub called : Inner → Parser Behind
called inner = Called <$> optional (left_parenthesis ∷ []) (arguments inner.expr)

unfoldable pub behind : Inner → DesignatorOf Factor → Parser Behind
behind inner found =
    if is_qual found then either (left_brace ∷ []) (Braced <$> braced inner) (called inner) else called inner

-- a factor that begins with a name
unfoldable pub named : Inner → Parser Factor
named inner = named_made <$> (designator inner.expr ⊗> behind inner)

unfoldable pub quantified : Inner → Parser Factor
quantified inner =
    (λ found. factors.Quantified found.0 found.1.0 found.1.1.0 found.1.1.1.0 found.1.1.1.1) <$> (here ⊗ leaf quantifier_of ⊗ ident ⊗ after word_in inner.range ⊗ after left_parenthesis (closed inner.expr right_parenthesis))

unfoldable pub parenthesized : Inner → Parser Factor
parenthesized inner =
    (λ found. factors.Parenthesized found.0 found.1) <$> (here ⊗ after left_parenthesis (closed inner.expr right_parenthesis))

unfoldable pub number : Parser Factor
number = (λ found. factors.Number found.0 found.1) <$> (here ⊗ leaf number_of)

unfoldable pub char_code : Parser Factor
char_code = (λ found. factors.CharCode found.0 found.1) <$> (here ⊗ leaf char_code_of)

unfoldable pub text : Parser Factor
text = (λ found. factors.Text found.0 found.1) <$> (here ⊗ leaf text_of)

unfoldable pub factor : Inner → Parser Factor
factor inner =
    either (a_number ∷ []) number (either (a_char_code ∷ []) char_code (either (a_text ∷ []) text (either (left_parenthesis ∷ []) (parenthesized inner) (either not_first ((λ found. factors.Not found.0 found.1.0 found.1.1) <$> inner.negated) (either quantifier_first (quantified inner) (named inner))))))

unfoldable pub negated : Inner → Parser (Place × (NotOperator × Factor))
negated inner = here ⊗ leaf not_of ⊗ factor inner

-- ---- phrases that count, where so many may still stand inside one another

unfoldable pub at_depth : ℕ → Inner
at_depth zero = record { expr = too_deep expr_first; range = too_deep ident_first; negated = too_deep not_first }
at_depth (suc depth) =
    record { expr = expr (factor (at_depth depth)); range = range (at_depth depth); negated = negated (at_depth depth) }
