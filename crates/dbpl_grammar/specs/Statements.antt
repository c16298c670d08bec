-- What is read of statements.
use Rattle.std.specs.Prelude.{ℕ, zero, suc, List, [], ◌∷◌, ◌++◌, Option}
use Rattle.dbpl_base.specs.declared.lexeme.Lexeme.{Lexeme}
use Rattle.dbpl_base.specs.declared.place.Place.{Place}
use Rattle.dbpl_grammar.specs.Expressions.{Inner, arguments, at_depth, designator, expr_first, ident, ident_first}
use Rattle.dbpl_grammar.specs.Lexemes.{an_ident}
use Rattle.dbpl_grammar.specs.Reading.{Parser, ◌<$>◌, ◌⊗◌, after, by_table, closed, either, here, leaf, many, optional, too_deep}
use Rattle.dbpl_tree.specs.Operators.{change_lexeme}
use Rattle.dbpl_tree.specs.Words.{add_sign, bar, becomes_sign, colon, comma, ellipsis, left_parenthesis, remove_sign, replace_sign, semicolon, word_by, word_case, word_do, word_each, word_else, word_elsif, word_end, word_exit, word_for, word_if, word_in, word_loop, word_of, word_repeat, word_return, word_then, word_to, word_until, word_while}
use Rattle.dbpl_tree.specs.declared.case.CaseOf.{CaseOf}
use Rattle.dbpl_tree.specs.declared.case.CaseOf.TheVariants as cases
use Rattle.dbpl_tree.specs.declared.case.Label.{Label}
use Rattle.dbpl_tree.specs.declared.designator.ArgumentsOf.{ArgumentsOf}
use Rattle.dbpl_tree.specs.declared.designator.DesignatorOf.{DesignatorOf}
use Rattle.dbpl_tree.specs.declared.expr.ExprOf.{ExprOf}
use Rattle.dbpl_tree.specs.declared.factor.Factor.{Factor}
use Rattle.dbpl_tree.specs.declared.ident.Ident.{Ident}
use Rattle.dbpl_tree.specs.declared.operators.ChangeOperator.{ChangeOperator}
use Rattle.dbpl_tree.specs.declared.operators.ChangeOperator.TheVariants as changes
use Rattle.dbpl_tree.specs.declared.range.Range.{Range}
use Rattle.dbpl_tree.specs.declared.statement.ElsifOf.{ElsifOf}
use Rattle.dbpl_tree.specs.declared.statement.Statement.{Statement}
use Rattle.dbpl_tree.specs.declared.statement.Statement.TheVariants as of_statement
use Rattle.dbpl_tree.specs.declared.statements.StatementsOf.{StatementsOf}

unfoldable pub change_of : Lexeme → Option ChangeOperator
change_of =
    by_table change_lexeme (changes.Becomes ∷ changes.Add ∷ changes.Remove ∷ changes.Replace ∷ [])

abbrev pub change_first : List Lexeme
change_first = becomes_sign ∷ add_sign ∷ remove_sign ∷ replace_sign ∷ []

-- the words with which a statement begins that isn't a change, a call or empty
abbrev pub statement_words : List Lexeme
statement_words =
    word_if ∷ word_case ∷ word_while ∷ word_repeat ∷ word_loop ∷ word_exit ∷ word_return ∷ word_for ∷ []

-- what may follow statements
abbrev pub statements_after : List Lexeme
statements_after = semicolon ∷ bar ∷ word_else ∷ word_elsif ∷ word_end ∷ word_until ∷ []

-- ---- over any statements

unfoldable pub statements_by : {S : Type 0} → Parser S → Parser (StatementsOf S)
statements_by statement =
    (λ found. record { first = found.0; others = found.1 }) <$> (statement ⊗ many (semicolon ∷ []) (after semicolon statement))

unfoldable pub label : Inner → Parser Label
label inner =
    (λ found. record { low = found.0; high = found.1 }) <$> (inner.expr ⊗ optional (ellipsis ∷ []) (after ellipsis inner.expr))

unfoldable pub case_by : {S : Type 0} → Inner → Parser (StatementsOf S) → Parser (CaseOf S)
case_by inner statements =
    either expr_first ((λ found. cases.Labelled found.0 found.1.0 found.1.1) <$> (label inner ⊗ many (comma ∷ []) (after comma (label inner)) ⊗ after colon statements)) (cases.Empty <$> here)

-- ELSIF e THEN ..
unfoldable pub elsif : {S : Type 0} → Inner → Parser (StatementsOf S) → Parser (ElsifOf S)
elsif inner statements =
    (λ found. record { condition = found.0; body = found.1 }) <$> after word_elsif (inner.expr ⊗ after word_then statements)

-- ELSE .., where it stands
unfoldable pub otherwise : {S : Type 0} → Parser (StatementsOf S) → Parser (Option (StatementsOf S))
otherwise statements = optional (word_else ∷ []) (after word_else statements)

-- ---- the kinds of statement

-- what follows a designator in a statement: an operator and an expression, or the arguments of a call, if there are any
pub data Acts : Type 0 where
  Changes : Place → ChangeOperator → ExprOf Factor → Acts
  Calls : Option (ArgumentsOf Factor) → Acts

unfoldable pub acts : Inner → Parser Acts
acts inner =
    either change_first ((λ found. Changes found.0 found.1.0 found.1.1) <$> (here ⊗ leaf change_of ⊗ inner.expr)) (Calls <$> optional (left_parenthesis ∷ []) (arguments inner.expr))

abbrev pub action_made : DesignatorOf Factor × Acts → Statement
action_made (target, Changes place operator value) = of_statement.Change target place operator value
action_made (target, Calls arguments) = of_statement.Call target arguments

unfoldable pub action : Inner → Parser Statement
action inner = action_made <$> (designator inner.expr ⊗ acts inner)

unfoldable pub if_statement : Inner → Parser (StatementsOf Statement) → Parser Statement
if_statement inner statements =
    (λ found. of_statement.If found.0 found.1.0 found.1.1.0 found.1.1.1.0 found.1.1.1.1) <$> (here ⊗ after word_if (inner.expr ⊗ after word_then (statements ⊗ many (word_elsif ∷ []) (elsif inner statements) ⊗ closed (otherwise statements) word_end)))

unfoldable pub case_statement : Inner → Parser (StatementsOf Statement) → Parser Statement
case_statement inner statements =
    (λ found. of_statement.Case found.0 found.1.0 found.1.1.0 found.1.1.1.0 found.1.1.1.1) <$> (here ⊗ after word_case (inner.expr ⊗ after word_of (case_by inner statements ⊗ many (bar ∷ []) (after bar (case_by inner statements)) ⊗ closed (otherwise statements) word_end)))

unfoldable pub while_statement : Inner → Parser (StatementsOf Statement) → Parser Statement
while_statement inner statements =
    (λ found. of_statement.While found.0 found.1.0 found.1.1) <$> (here ⊗ after word_while (inner.expr ⊗ after word_do (closed statements word_end)))

unfoldable pub repeat_statement : Inner → Parser (StatementsOf Statement) → Parser Statement
repeat_statement inner statements =
    (λ found. of_statement.Repeat found.0 found.1.0 found.1.1) <$> (here ⊗ after word_repeat (statements ⊗ after word_until inner.expr))

unfoldable pub loop_statement : Parser (StatementsOf Statement) → Parser Statement
loop_statement statements =
    (λ found. of_statement.Loop found.0 found.1) <$> (here ⊗ after word_loop (closed statements word_end))

unfoldable pub exit_statement : Parser Statement
exit_statement = of_statement.Exit <$> closed here word_exit

unfoldable pub return_statement : Inner → Parser Statement
return_statement inner =
    (λ found. of_statement.Return found.0 found.1) <$> (here ⊗ after word_return (optional expr_first inner.expr))

-- what follows FOR
pub data Loops : Type 0 where
  Counts : Ident → ExprOf Factor → ExprOf Factor → Option (ExprOf Factor) → StatementsOf Statement → Loops
  Ranges : Place → Ident → Range → ExprOf Factor → StatementsOf Statement → Loops

unfoldable pub counts : Inner → Parser (StatementsOf Statement) → Parser Loops
counts inner statements =
    (λ found. Counts found.0 found.1.0 found.1.1.0 found.1.1.1.0 found.1.1.1.1) <$> (ident ⊗ after becomes_sign (inner.expr ⊗ after word_to (inner.expr ⊗ optional (word_by ∷ []) (after word_by inner.expr) ⊗ after word_do (closed statements word_end))))

unfoldable pub ranges : Inner → Parser (StatementsOf Statement) → Parser Loops
ranges inner statements =
    (λ found. Ranges found.0 found.1.0 found.1.1.0 found.1.1.1.0 found.1.1.1.1) <$> (here ⊗ after word_each (ident ⊗ after word_in (inner.range ⊗ after colon (inner.expr ⊗ after word_do (closed statements word_end)))))

abbrev pub for_made : Place × Loops → Statement
for_made (place, Counts variable low high step body) = of_statement.For place variable low high step body
for_made (place, Ranges each variable range predicate body) =
    of_statement.ForEach place each variable range predicate body

unfoldable pub for_statement : Inner → Parser (StatementsOf Statement) → Parser Statement
for_statement inner statements =
    for_made <$> (here ⊗ after word_for (either (word_each ∷ []) (ranges inner statements) (counts inner statements)))

-- a statement, with these expressions and statements in it
unfoldable pub statement_by : Inner → Parser (StatementsOf Statement) → Parser Statement
statement_by inner statements =
    either ident_first (action inner) (either (word_if ∷ []) (if_statement inner statements) (either (word_case ∷ []) (case_statement inner statements) (either (word_while ∷ []) (while_statement inner statements) (either (word_repeat ∷ []) (repeat_statement inner statements) (either (word_loop ∷ []) (loop_statement statements) (either (word_exit ∷ []) exit_statement (either (word_return ∷ []) (return_statement inner) (either (word_for ∷ []) (for_statement inner statements) (of_statement.Empty <$> here)))))))))

-- statements, where so many phrases may still stand inside one another
unfoldable pub statements_at : ℕ → Parser (StatementsOf Statement)
statements_at zero = too_deep (an_ident ∷ statement_words ++ statements_after)
statements_at (suc depth) = statements_by (statement_by (at_depth depth) (statements_at depth))
