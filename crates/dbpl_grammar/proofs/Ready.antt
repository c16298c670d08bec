-- A shortest phrase of each kind that counts, at any place.
use Rattle.std.proofs.Common.{◌≡◌, List, [], ◌∷◌, ◌++◌, append-nil, None, refl, sym, ap, ◌∙◌, subst}
use Rattle.dbpl_base.specs.declared.lexeme.Lexeme.TheVariants as lexemes
use Rattle.dbpl_base.specs.declared.place.Place.{Place}
use Rattle.dbpl_base.specs.declared.token.Token.{Token}
use Rattle.dbpl_tree.proofs.Levels.{factor_marks-out, range_marks-out}
use Rattle.dbpl_tree.proofs.StatementLevels.{statement_marks-out, type_marks-out}
use Rattle.dbpl_tree.specs.Expressions.{expr_marks, simple_marks, term_marks}
use Rattle.dbpl_tree.specs.Factors.{factor_level, factor_marks, range_level, range_marks, spelling}
use Rattle.dbpl_tree.specs.Marks.{Mark, Of, Before, Meets}
use Rattle.dbpl_tree.specs.Operators.{not_lexeme}
use Rattle.dbpl_tree.specs.Statements.{statement_level, statement_marks, statements_marks}
use Rattle.dbpl_tree.specs.TypeTrees.{type_level, type_marks}
use Rattle.dbpl_tree.specs.Words.{word_not}
use Rattle.dbpl_tree.specs.declared.expr.ExprOf.{ExprOf}
use Rattle.dbpl_tree.specs.declared.factor.Factor.{Factor}
use Rattle.dbpl_tree.specs.declared.factor.Factor.TheVariants as factors
use Rattle.dbpl_tree.specs.declared.ident.Ident.{Ident}
use Rattle.dbpl_tree.specs.declared.operators.NotOperator.{NotOperator}
use Rattle.dbpl_tree.specs.declared.operators.NotOperator.TheVariants as negation
use Rattle.dbpl_tree.specs.declared.range.Range.{Range}
use Rattle.dbpl_tree.specs.declared.range.Range.TheVariants as ranges
use Rattle.dbpl_tree.specs.declared.simple.SimpleOf.{SimpleOf}
use Rattle.dbpl_tree.specs.declared.statement.Statement.{Statement}
use Rattle.dbpl_tree.specs.declared.statement.Statement.TheVariants as of_statement
use Rattle.dbpl_tree.specs.declared.statements.StatementsOf.{StatementsOf}
use Rattle.dbpl_tree.specs.declared.term.TermOf.{TermOf}
use Rattle.dbpl_tree.specs.declared.type_tree.TypeTree.{TypeTree}
use Rattle.dbpl_tree.specs.declared.type_tree.TypeTree.TheVariants as types
use Rattle.dbpl_grammar.proofs.Law.{Completed, StartsAt}
use Rattle.dbpl_grammar.proofs.OpenLaw.{complete_after, complete_made, some_here, starts_append, token_at}

-- with its place in front
complete_before : {A : Type 0} (w : A → List Mark) (place : Place) → Completed w (λ (x : A). Unit {0}) place [] → Completed (λ (x : A). Before place ∷ w x) (λ (x : A). Unit {0}) place []
complete_before {A = A} w place c = record {
  tree = c.tree;
  tokens = c.tokens;
  is = c.is;
  placed = c.placed;
  meets = λ rest starts. begins (c.tokens ++ rest) (w c.tree) rest (starts_append place c.tokens rest c.placed starts) (c.meets rest starts);
}
  where
    begins : (tokens : List Token) (marks : List Mark) (rest : List Token) → StartsAt place tokens → Meets tokens marks rest → Meets tokens (Before place ∷ marks) rest
    begins [] marks rest starts h = starts
    begins (token ∷ tokens) marks rest starts h = (starts, h)

-- one token at its place
one_token : {A : Type 0} (w : A → List Mark) (place : Place) (x : A) (lexeme : _) → w x ≡ Before place ∷ Of lexeme ∷ [] → Completed w (λ (x : A). Unit {0}) place []
one_token w place x lexeme e = record {
  tree = x;
  tokens = token_at place lexeme ∷ [];
  is = tt;
  placed = (refl, tt);
  meets = λ rest starts. subst (λ (ms : List Mark). Meets (token_at place lexeme ∷ rest) ms rest) (sym e) (refl, (refl, refl));
}

abbrev a_name : Place → Ident
a_name place = record { place = place; name = [] }

-- 0
pub ready_factor : (place : Place) → Completed factor_marks (λ (x : Factor). Unit {0}) place []
ready_factor place =
    one_token factor_marks place (factors.Number place 0) (lexemes.Number 0) (factor_marks-out (factors.Number place 0) ∙ ap (factor_level spelling) (factors.outs-Number place 0))

ready_term : (place : Place) → Completed (term_marks factor_marks) (λ (x : TermOf Factor). Unit {0}) place []
ready_term place =
    complete_made (λ (x : Factor). Before place ∷ factor_marks x) (λ (x : Factor). Unit {0}) (term_marks factor_marks) (λ (x : TermOf Factor). Unit {0}) (λ f. record { place = place; first = f; others = [] }) (λ f is. ap (λ (ms : List Mark). Before place ∷ ms) (append-nil (factor_marks f))) (λ f is. tt) place [] (complete_before factor_marks place (ready_factor place))

ready_simple : (place : Place) → Completed (simple_marks factor_marks) (λ (x : SimpleOf Factor). Unit {0}) place []
ready_simple place =
    complete_made (λ (x : TermOf Factor). Before place ∷ term_marks factor_marks x) (λ (x : TermOf Factor). Unit {0}) (simple_marks factor_marks) (λ (x : SimpleOf Factor). Unit {0}) (λ t. record { place = place; sign = None; first = t; others = [] }) (λ t is. ap (λ (ms : List Mark). Before place ∷ ms) (append-nil (term_marks factor_marks t))) (λ t is. tt) place [] (complete_before (term_marks factor_marks) place (ready_term place))

pub ready_expr : (place : Place) → Completed (expr_marks factor_marks) (λ (x : ExprOf Factor). Unit {0}) place []
ready_expr place =
    complete_made (λ (x : SimpleOf Factor). Before place ∷ simple_marks factor_marks x) (λ (x : SimpleOf Factor). Unit {0}) (expr_marks factor_marks) (λ (x : ExprOf Factor). Unit {0}) (λ s. record { place = place; left = s; right = None }) (λ s is. ap (λ (ms : List Mark). Before place ∷ ms) (append-nil (simple_marks factor_marks s))) (λ s is. tt) place [] (complete_before (simple_marks factor_marks) place (ready_simple place))

pub ready_range : (place : Place) → Completed range_marks (λ (x : Range). Unit {0}) place []
ready_range place =
    one_token range_marks place (ranges.Designator (record { head = a_name place; parts = [] })) (lexemes.Ident []) (range_marks-out (ranges.Designator (record { head = a_name place; parts = [] })) ∙ ap (range_level spelling) (ranges.outs-Designator (record { head = a_name place; parts = [] })))

pub ready_negated : (place : Place) → Completed (λ (x : Place × (NotOperator × Factor)). Before x.0 ∷ Of (not_lexeme x.1.0) ∷ factor_marks x.1.1) (λ (x : Place × (NotOperator × Factor)). Unit {0}) place []
ready_negated place =
    complete_made (λ (f : Factor). Before place ∷ Of word_not ∷ factor_marks f) (λ (f : Factor). Unit {0}) (λ (x : Place × (NotOperator × Factor)). Before x.0 ∷ Of (not_lexeme x.1.0) ∷ factor_marks x.1.1) (λ (x : Place × (NotOperator × Factor)). Unit {0}) (λ f. (place, (negation.Not, f))) (λ f is. refl) (λ f is. tt) place [] (complete_before (λ (f : Factor). Of word_not ∷ factor_marks f) place (complete_after factor_marks (λ (f : Factor). Unit {0}) word_not place (ready_factor place)))

pub ready_type : (place : Place) → Completed type_marks (λ (x : TypeTree). Unit {0}) place []
ready_type place =
    one_token type_marks place (types.Named (record { first = a_name place; second = None })) (lexemes.Ident []) (type_marks-out (types.Named (record { first = a_name place; second = None })) ∙ ap (type_level type_marks) (types.outs-Named (record { first = a_name place; second = None })))

pub ready_statements : (place : Place) → Completed (statements_marks statement_marks) (λ (x : StatementsOf Statement). Unit {0}) place []
ready_statements place =
    complete_made (λ (p : Place). Before p ∷ []) (λ (p : Place). Unit {0}) (statements_marks statement_marks) (λ (x : StatementsOf Statement). Unit {0}) (λ p. record { first = of_statement.Empty p; others = [] }) (λ p is. append-nil (statement_marks (of_statement.Empty p)) ∙ statement_marks-out (of_statement.Empty p) ∙ ap (statement_level statement_marks) (of_statement.outs-Empty p)) (λ p is. tt) place [] (some_here place)
