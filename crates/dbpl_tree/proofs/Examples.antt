-- A tree of each production of expressions, with its spelling written out by hand from the grammar.
use Rattle.std.proofs.Common.{◌≡◌, [], ◌∷◌, Some, None, refl}
use Rattle.std.specs.Prelude.{codes}
use Rattle.dbpl_base.specs.declared.lexeme.Lexeme.{Lexeme}
use Rattle.dbpl_base.specs.declared.lexeme.Lexeme.TheVariants as lexemes
use Rattle.dbpl_base.specs.declared.place.Place.{Place}
use Rattle.dbpl_tree.proofs.Levels.{aggregate_marks-roll, each_marks-roll, element_marks-roll, factor_marks-roll, range_marks-roll}
use Rattle.dbpl_tree.specs.Expressions.{expr_marks}
use Rattle.dbpl_tree.specs.Factors.{aggregate_marks, each_marks, element_marks, factor_marks, range_marks}
use Rattle.dbpl_tree.specs.Marks.{Of, Before, lexemes_in}
use Rattle.dbpl_tree.specs.Names.{idents_marks, qual_marks}
use Rattle.dbpl_tree.specs.Words as words
use Rattle.dbpl_tree.specs.declared.aggregate.Aggregate.{Aggregate, roll-Aggregate}
use Rattle.dbpl_tree.specs.declared.designator.DesignatorOf.{DesignatorOf}
use Rattle.dbpl_tree.specs.declared.designator.PartOf.TheVariants as parts
use Rattle.dbpl_tree.specs.declared.each.Each.{Each, roll-Each}
use Rattle.dbpl_tree.specs.declared.element.Element.{Element, roll-Element}
use Rattle.dbpl_tree.specs.declared.element.Element.TheOpen as phrases
use Rattle.dbpl_tree.specs.declared.expr.ExprOf.{ExprOf}
use Rattle.dbpl_tree.specs.declared.factor.Factor.{Factor, roll-Factor}
use Rattle.dbpl_tree.specs.declared.ident.Ident.{Ident}
use Rattle.dbpl_tree.specs.declared.ident.Idents.{Idents}
use Rattle.dbpl_tree.specs.declared.ident.Qual.{Qual}
use Rattle.dbpl_tree.specs.declared.operators.AddingOperator.TheVariants as adding
use Rattle.dbpl_tree.specs.declared.operators.MultiplyingOperator.TheVariants as multiplying
use Rattle.dbpl_tree.specs.declared.operators.NotOperator.TheVariants as negation
use Rattle.dbpl_tree.specs.declared.operators.Quantifier.TheVariants as quantifier
use Rattle.dbpl_tree.specs.declared.operators.Relation.TheVariants as relation
use Rattle.dbpl_tree.specs.declared.operators.SignOperator.TheVariants as sign
use Rattle.dbpl_tree.specs.declared.range.Range.{Range, roll-Range}
use Rattle.dbpl_tree.specs.declared.term.TermOf.{TermOf}

abbrev pub p : Place
p = record { unit = 0; line = 1; col = 1 }

-- ---- a , b and m . a

abbrev pub a : Ident
a = record { place = p; name = codes "a" }

abbrev pub b : Ident
b = record { place = p; name = codes "b" }

abbrev pub the_a : Lexeme
the_a = lexemes.Ident (codes "a")

abbrev pub the_b : Lexeme
the_b = lexemes.Ident (codes "b")

abbrev pub a_b : Idents
a_b = record { first = a; others = b ∷ [] }

abbrev pub b_a : Qual
b_a = record { first = b; second = Some a }

pub names : lexemes_in (idents_marks a_b) ≡ the_a ∷ words.comma ∷ the_b ∷ []
names = refl

pub plain_name : lexemes_in (qual_marks (record { first = b; second = None })) ≡ the_b ∷ []
plain_name = refl

pub name_of_module : lexemes_in (qual_marks b_a) ≡ the_b ∷ words.full_stop ∷ the_a ∷ []
name_of_module = refl

-- ---- factors

-- 1
unfoldable pub one : Factor
one = roll-Factor (phrases.Number p 1)

abbrev pub the_1 : Lexeme
the_1 = lexemes.Number 1

pub one-marks : factor_marks one ≡ Before p ∷ Of the_1 ∷ []
unfolding one
one-marks = factor_marks-roll (phrases.Number p 1)

abbrev pub term_of : Factor → TermOf Factor
term_of f = record { place = p; first = f; others = [] }

abbrev pub expr_of : Factor → ExprOf Factor
expr_of f = record {
  place = p;
  left = record { place = p; sign = None; first = term_of f; others = [] };
  right = None;
}

-- the expression 1
abbrev pub e1 : ExprOf Factor
e1 = expr_of one

-- the designator a
abbrev pub d1 : DesignatorOf Factor
d1 = record { head = a; parts = [] }

-- the range a
unfoldable pub r1 : Range
r1 = roll-Range (phrases.Range::Designator d1)

pub r1-marks : range_marks r1 ≡ Before p ∷ Of the_a ∷ []
unfolding r1
r1-marks = range_marks-roll (phrases.Range::Designator d1)

pub number : lexemes_in (factor_marks one) ≡ the_1 ∷ []
number = rw one-marks refl

pub character :
    lexemes_in (factor_marks (roll-Factor (phrases.CharCode p 65))) ≡ lexemes.CharCode 65 ∷ []
character = rw (factor_marks-roll (phrases.CharCode p 65)) refl

pub string :
    lexemes_in (factor_marks (roll-Factor (phrases.Text p (codes "ab")))) ≡ lexemes.Text (codes "ab") ∷ []
string = rw (factor_marks-roll (phrases.Text p (codes "ab"))) refl

pub parenthesized :
    lexemes_in (factor_marks (roll-Factor (phrases.Parenthesized p e1)))
    ≡ words.left_parenthesis ∷ the_1 ∷ words.right_parenthesis ∷ []
parenthesized = rw (factor_marks-roll (phrases.Parenthesized p e1), one-marks) refl

pub negated :
    lexemes_in (factor_marks (roll-Factor (phrases.Not p negation.Not one))) ≡ words.word_not ∷ the_1 ∷ []
negated = rw (factor_marks-roll (phrases.Not p negation.Not one), one-marks) refl

pub negated_by_tilde :
    lexemes_in (factor_marks (roll-Factor (phrases.Not p negation.Tilde one))) ≡ words.tilde ∷ the_1 ∷ []
negated_by_tilde = rw (factor_marks-roll (phrases.Not p negation.Tilde one), one-marks) refl

-- SOME b IN a ( 1 )
pub some_of :
    lexemes_in (factor_marks (roll-Factor (phrases.Quantified p quantifier.Exists b r1 e1)))
    ≡ words.word_some ∷ the_b ∷ words.word_in ∷ the_a ∷ words.left_parenthesis ∷ the_1 ∷ words.right_parenthesis ∷ []
some_of = rw (factor_marks-roll (phrases.Quantified p quantifier.Exists b r1 e1), r1-marks, one-marks) refl

-- ALL b IN a ( 1 )
pub all_of :
    lexemes_in (factor_marks (roll-Factor (phrases.Quantified p quantifier.ForAll b r1 e1)))
    ≡ words.word_all ∷ the_b ∷ words.word_in ∷ the_a ∷ words.left_parenthesis ∷ the_1 ∷ words.right_parenthesis ∷ []
all_of = rw (factor_marks-roll (phrases.Quantified p quantifier.ForAll b r1 e1), r1-marks, one-marks) refl

-- a . b [ 1 , 1 ]
abbrev d2 : DesignatorOf Factor
d2 = record {
  head = a;
  parts = parts.Field b ∷ parts.Subscripts p (record { first = e1; others = e1 ∷ [] }) ∷ [];
}

pub part_of_variable :
    lexemes_in (factor_marks (roll-Factor (phrases.Factor::Designator d2 None)))
    ≡ the_a ∷ words.full_stop ∷ the_b ∷ words.left_bracket ∷ the_1 ∷ words.comma ∷ the_1 ∷ words.right_bracket ∷ []
part_of_variable = rw (factor_marks-roll (phrases.Factor::Designator d2 None), one-marks) refl

-- a ( )
pub call_without :
    lexemes_in (factor_marks (roll-Factor (phrases.Factor::Designator d1 (Some (record { place = p; exprs = None })))))
    ≡ the_a ∷ words.left_parenthesis ∷ words.right_parenthesis ∷ []
call_without =
    rw (factor_marks-roll (phrases.Factor::Designator d1 (Some (record { place = p; exprs = None })))) refl

-- a ( 1 , 1 )
pub call_with :
    lexemes_in (factor_marks (roll-Factor (phrases.Factor::Designator d1
    (Some (record { place = p; exprs = Some (record { first = e1; others = e1 ∷ [] }) })))))
    ≡ the_a ∷ words.left_parenthesis ∷ the_1 ∷ words.comma ∷ the_1 ∷ words.right_parenthesis ∷ []
call_with =
    rw (
      factor_marks-roll (phrases.Factor::Designator d1
          (Some (record { place = p; exprs = Some (record { first = e1; others = e1 ∷ [] }) }))),
      one-marks,
    ) refl

-- ---- terms and sums

-- - 1 * 1 DIV 1 + 1 OR 1 <= 1
pub operators :
    lexemes_in (expr_marks factor_marks (record {
      place = p;
      left = record {
        place = p;
        sign = Some sign.Minus;
        first = record {
          place = p;
          first = one;
          others =
              record { place = p; operator = multiplying.Times; factor = one } ∷
              record { place = p; operator = multiplying.Div; factor = one } ∷ [];
        };
        others =
            record { place = p; operator = adding.Plus; term = term_of one } ∷
            record { place = p; operator = adding.Or; term = term_of one } ∷ [];
      };
      right = Some (record {
        place = p;
        relation = relation.LessEqual;
        right = record { place = p; sign = None; first = term_of one; others = [] };
      });
    }))
    ≡ words.minus_sign ∷ the_1 ∷ words.times_sign ∷ the_1 ∷ words.word_div ∷ the_1 ∷ words.plus_sign ∷ the_1 ∷
    words.word_or ∷ the_1 ∷ words.less_equal_sign ∷ the_1 ∷ []
operators = rw one-marks refl

-- ---- aggregates

-- EACH b IN a
unfoldable pub c1 : Each
c1 = roll-Each (record { place = p; variable = b; range = r1 })

pub c1-marks : each_marks c1 ≡ Before p ∷ Of words.word_each ∷ Before p ∷ Of the_b ∷ Of words.word_in ∷ Before p ∷ Of the_a ∷ []
unfolding c1
c1-marks = rw (each_marks-roll (record { place = p; variable = b; range = r1 }), r1-marks) refl

pub each :
    lexemes_in (each_marks c1) ≡ words.word_each ∷ the_b ∷ words.word_in ∷ the_a ∷ []
each = rw c1-marks refl

-- EACH b IN a : 1
pub element_each :
    lexemes_in (element_marks (roll-Element (phrases.Each c1 e1)))
    ≡ words.word_each ∷ the_b ∷ words.word_in ∷ the_a ∷ words.colon ∷ the_1 ∷ []
element_each = rw (element_marks-roll (phrases.Each c1 e1), c1-marks, one-marks) refl

-- 1 OF EACH b IN a , EACH b IN a : 1
pub element_of :
    lexemes_in (element_marks (roll-Element (phrases.Of e1 c1 (c1 ∷ []) e1)))
    ≡ the_1 ∷ words.word_of ∷ words.word_each ∷ the_b ∷ words.word_in ∷ the_a ∷ words.comma ∷ words.word_each ∷ the_b ∷
    words.word_in ∷ the_a ∷ words.colon ∷ the_1 ∷ []
element_of = rw (element_marks-roll (phrases.Of e1 c1 (c1 ∷ []) e1), c1-marks, one-marks) refl

unfoldable pub plain : Element
plain = roll-Element (phrases.Plain e1)

pub plain-marks : element_marks plain ≡ Before p ∷ Before p ∷ Before p ∷ Before p ∷ Of the_1 ∷ []
unfolding plain
plain-marks = rw (element_marks-roll (phrases.Plain e1), one-marks) refl

-- b . a { 1 , 1 }
unfoldable pub q1 : Aggregate
q1 = roll-Aggregate (record { kind = b_a; elements = plain ∷ plain ∷ [] })

pub q1-marks :
    aggregate_marks q1
    ≡ Before p ∷ Of the_b ∷ Of words.full_stop ∷ Before p ∷ Of the_a ∷ Of words.left_brace ∷ Before p ∷ Before p ∷
    Before p ∷ Before p ∷ Of the_1 ∷ Of words.comma ∷ Before p ∷ Before p ∷ Before p ∷ Before p ∷ Of the_1 ∷
    Of words.right_brace ∷ []
unfolding q1
q1-marks = rw (aggregate_marks-roll (record { kind = b_a; elements = plain ∷ plain ∷ [] }), plain-marks) refl

pub aggregate :
    lexemes_in (aggregate_marks q1)
    ≡ the_b ∷ words.full_stop ∷ the_a ∷ words.left_brace ∷ the_1 ∷ words.comma ∷ the_1 ∷ words.right_brace ∷ []
aggregate = rw q1-marks refl

-- b . a { }
pub empty_aggregate :
    lexemes_in (aggregate_marks (roll-Aggregate (record { kind = b_a; elements = [] })))
    ≡ the_b ∷ words.full_stop ∷ the_a ∷ words.left_brace ∷ words.right_brace ∷ []
empty_aggregate = rw (aggregate_marks-roll (record { kind = b_a; elements = [] })) refl

pub factor_aggregate : factor_marks (roll-Factor (phrases.Factor::Aggregate q1)) ≡ aggregate_marks q1
factor_aggregate = factor_marks-roll (phrases.Factor::Aggregate q1)

pub range_aggregate : range_marks (roll-Range (phrases.Range::Aggregate q1)) ≡ aggregate_marks q1
range_aggregate = range_marks-roll (phrases.Range::Aggregate q1)
