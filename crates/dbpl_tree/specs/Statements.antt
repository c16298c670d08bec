-- The marks of statements.
use Rattle.std.specs.Prelude.{List, [], ◌∷◌, ◌++◌, Option}
use Rattle.std.specs.List.{flat_map}
use Rattle.dbpl_tree.specs.Expressions.{arguments_marks, designator_marks, expr_marks}
use Rattle.dbpl_tree.specs.Factors.{factor_marks, range_marks}
use Rattle.dbpl_tree.specs.Marks.{Mark, Of, Before, further_marks, option_marks}
use Rattle.dbpl_tree.specs.Names.{ident_marks}
use Rattle.dbpl_tree.specs.Operators.{change_lexeme}
use Rattle.dbpl_tree.specs.Words.{bar, becomes_sign, colon, comma, ellipsis, semicolon, word_by, word_case, word_do, word_each, word_else, word_elsif, word_end, word_exit, word_for, word_if, word_in, word_loop, word_of, word_repeat, word_return, word_then, word_to, word_until, word_while}
use Rattle.dbpl_tree.specs.declared.case.CaseOf.{CaseOf}
use Rattle.dbpl_tree.specs.declared.case.CaseOf.TheVariants as cases
use Rattle.dbpl_tree.specs.declared.case.Label.{Label}
use Rattle.dbpl_tree.specs.declared.expr.ExprOf.{ExprOf}
use Rattle.dbpl_tree.specs.declared.factor.Factor.{Factor}
use Rattle.dbpl_tree.specs.declared.statement.ElsifOf.{ElsifOf}
use Rattle.dbpl_tree.specs.declared.statement.Statement.{Statement, Statement-F, fold-Statement}
use Rattle.dbpl_tree.specs.declared.statement.Statement.TheOpen as kinds
use Rattle.dbpl_tree.specs.declared.statements.StatementsOf.{StatementsOf}

-- ---- parts of statements: `w` gives the marks of a statement

abbrev pub statements_marks : {S : Type 0} → (S → List Mark) → StatementsOf S → List Mark
statements_marks w ss = w ss.first ++ further_marks semicolon w ss.others

abbrev pub elsif_marks : {S : Type 0} → (S → List Mark) → ElsifOf S → List Mark
elsif_marks w x =
    Of word_elsif ∷ (expr_marks factor_marks x.condition ++ Of word_then ∷ statements_marks w x.body)

abbrev pub else_marks : {S : Type 0} → (S → List Mark) → Option (StatementsOf S) → List Mark
else_marks w ss = option_marks (λ body. Of word_else ∷ statements_marks w body) ss

abbrev pub label_marks : Label → List Mark
label_marks x =
    expr_marks factor_marks x.low ++ option_marks (λ high. Of ellipsis ∷ expr_marks factor_marks high) x.high

abbrev pub case_marks : {S : Type 0} → (S → List Mark) → CaseOf S → List Mark
case_marks w (cases.Empty place) = Before place ∷ []
case_marks w (cases.Labelled first others body) =
    label_marks first ++ (further_marks comma label_marks others ++ Of colon ∷ statements_marks w body)

abbrev pub step_marks : Option (ExprOf Factor) → List Mark
step_marks step = option_marks (λ e. Of word_by ∷ expr_marks factor_marks e) step

-- ---- statements

abbrev pub statement_level : {S : Type 0} → (S → List Mark) → Statement-F S → List Mark
statement_level w (kinds.Empty place) = Before place ∷ []
statement_level w (kinds.Change target place operator e) =
    designator_marks factor_marks target ++ Before place ∷ Of (change_lexeme operator) ∷ expr_marks factor_marks e
statement_level w (kinds.Call d a) =
    designator_marks factor_marks d ++ option_marks (arguments_marks factor_marks) a
statement_level w (kinds.If place e body elsifs otherwise) =
    Before place ∷ Of word_if ∷
    (expr_marks factor_marks e ++ Of word_then ∷
    (statements_marks w body ++ (flat_map (elsif_marks w) elsifs ++ (else_marks w otherwise ++ Of word_end ∷ []))))
statement_level w (kinds.Case place e first others otherwise) =
    Before place ∷ Of word_case ∷
    (expr_marks factor_marks e ++ Of word_of ∷
    (case_marks w first ++
    (further_marks bar (case_marks w) others ++ (else_marks w otherwise ++ Of word_end ∷ []))))
statement_level w (kinds.While place e body) =
    Before place ∷ Of word_while ∷
    (expr_marks factor_marks e ++ Of word_do ∷ (statements_marks w body ++ Of word_end ∷ []))
statement_level w (kinds.Repeat place body e) =
    Before place ∷ Of word_repeat ∷ (statements_marks w body ++ Of word_until ∷ expr_marks factor_marks e)
statement_level w (kinds.Loop place body) =
    Before place ∷ Of word_loop ∷ (statements_marks w body ++ Of word_end ∷ [])
statement_level w (kinds.Exit place) = Before place ∷ Of word_exit ∷ []
statement_level w (kinds.Return place e) =
    Before place ∷ Of word_return ∷ option_marks (expr_marks factor_marks) e
statement_level w (kinds.For place x first last step body) =
    Before place ∷ Of word_for ∷
    (ident_marks x ++ Of becomes_sign ∷
    (expr_marks factor_marks first ++ Of word_to ∷
    (expr_marks factor_marks last ++
    (step_marks step ++ Of word_do ∷ (statements_marks w body ++ Of word_end ∷ [])))))
statement_level w (kinds.ForEach place each x r e body) =
    Before place ∷ Of word_for ∷ Before each ∷ Of word_each ∷
    (ident_marks x ++ Of word_in ∷
    (range_marks r ++ Of colon ∷
    (expr_marks factor_marks e ++ Of word_do ∷ (statements_marks w body ++ Of word_end ∷ []))))

abbrev pub statement_marks : Statement → List Mark
statement_marks s = fold-Statement (List Mark) (statement_level (λ marks. marks)) s
