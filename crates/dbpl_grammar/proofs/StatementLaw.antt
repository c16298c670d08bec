-- The law of statements.
use Rattle.std.proofs.Common.{◌≡◌, ℕ, zero, suc, max, true, false, ◌⊎◌, inl, inr, List, [], ◌∷◌, ◌++◌, Option, refl, sym, ap, ◌∙◌, arith, not-suc-le-zero}
use Rattle.dbpl_base.specs.declared.lexeme.Lexeme.{Lexeme}
use Rattle.dbpl_base.specs.declared.place.Place.{Place}
use Rattle.dbpl_tree.proofs.StatementLevels.{statement_depth-out, statement_marks-out}
use Rattle.dbpl_tree.specs.Depths.{arguments_depth, designator_depth, expr_depth, factor_depth, option_depth, range_depth}
use Rattle.dbpl_tree.specs.Expressions.{arguments_marks, designator_marks, expr_marks}
use Rattle.dbpl_tree.specs.Factors.{factor_marks, range_marks}
use Rattle.dbpl_tree.specs.Marks.{Mark, Of, Before, option_marks}
use Rattle.dbpl_tree.specs.Names.{ident_marks}
use Rattle.dbpl_tree.specs.Operators.{change_lexeme}
use Rattle.dbpl_tree.specs.Statements.{case_marks, elsif_marks, else_marks, label_marks, statement_level, statement_marks, statements_marks, step_marks}
use Rattle.dbpl_tree.specs.UnitDepths.{case_depth, elsif_depth, label_depth, statement_depth, statement_depth_level, statements_depth}
use Rattle.dbpl_tree.specs.Words.{bar, becomes_sign, colon, comma, ellipsis, left_parenthesis, semicolon, word_by, word_case, word_do, word_each, word_else, word_elsif, word_end, word_exit, word_for, word_if, word_in, word_loop, word_of, word_repeat, word_return, word_then, word_to, word_until, word_while}
use Rattle.dbpl_tree.specs.declared.case.CaseOf.{CaseOf}
use Rattle.dbpl_tree.specs.declared.case.CaseOf.TheVariants as cases
use Rattle.dbpl_tree.specs.declared.case.Label.{Label}
use Rattle.dbpl_tree.specs.declared.designator.ArgumentsOf.{ArgumentsOf}
use Rattle.dbpl_tree.specs.declared.designator.DesignatorOf.{DesignatorOf}
use Rattle.dbpl_tree.specs.declared.expr.ExprOf.{ExprOf}
use Rattle.dbpl_tree.specs.declared.factor.Factor.{Factor}
use Rattle.dbpl_tree.specs.declared.ident.Ident.{Ident}
use Rattle.dbpl_tree.specs.declared.operators.ChangeOperator.{ChangeOperator}
use Rattle.dbpl_tree.specs.declared.range.Range.{Range}
use Rattle.dbpl_tree.specs.declared.statement.ElsifOf.{ElsifOf}
use Rattle.dbpl_tree.specs.declared.statement.Statement.{Statement, Statement-F, out-Statement, roll-Statement, roll-out-Statement}
use Rattle.dbpl_tree.specs.declared.statement.Statement.TheOpen as kinds
use Rattle.dbpl_tree.specs.declared.statement.Statement.TheVariants as of_statement
use Rattle.dbpl_tree.specs.declared.statements.StatementsOf.{StatementsOf}
use Rattle.dbpl_grammar.specs.Expressions.{Inner, arguments, expr_first, ident_first}
use Rattle.dbpl_grammar.specs.Lexemes.{an_ident}
use Rattle.dbpl_grammar.specs.Reading.{Parser, ◌<$>◌, ◌⊗◌, after, here, leaf, many, optional}
use Rattle.dbpl_grammar.specs.Statements.{Acts, Calls, Changes, Counts, Loops, Ranges, action, action_made, acts, case_statement, case_by, change_first, change_of, counts, elsif, exit_statement, for_made, for_statement, if_statement, label, loop_statement, otherwise, ranges, repeat_statement, return_statement, statement_by, statement_words, statements_after, statements_at, statements_by, while_statement}
use Rattle.dbpl_grammar.proofs.Ready.{ready_statements}
use Rattle.dbpl_grammar.proofs.ChoiceLaw.{law_all, law_counted, law_deep, law_either, law_wider}
use Rattle.dbpl_grammar.proofs.Every.{Every, all_those, both, made, maybe, variant}
use Rattle.dbpl_grammar.proofs.ExprLaw.{expr_more, law_arguments, law_designator}
use Rattle.dbpl_grammar.proofs.FactorLaw.{inner_law}
use Rattle.dbpl_grammar.proofs.InnerLaw.{InnerLaw}
use Rattle.dbpl_grammar.proofs.JoinLaw.{law_closed}
use Rattle.dbpl_grammar.proofs.Law.{Law}
use Rattle.dbpl_grammar.proofs.NameLaw.{law_ident}
use Rattle.dbpl_grammar.proofs.OperatorLaw.{law_change}
use Rattle.dbpl_grammar.proofs.TokenLaw.{law_after, law_here}

-- what a statement may begin with, and go on with
abbrev pub statement_first : List Lexeme
statement_first = an_ident ∷ statement_words

abbrev pub acts_more : List Lexeme
acts_more = change_first ++ left_parenthesis ∷ expr_more

abbrev pub statement_more : List Lexeme
statement_more = statement_first ++ (expr_first ++ acts_more)

abbrev pub statements_first : List Lexeme
statements_first = statement_first ++ semicolon ∷ []

abbrev pub statements_more : List Lexeme
statements_more = semicolon ∷ statement_more

abbrev pub EveryStatements : ℕ → Parser (StatementsOf Statement) → Type 0
EveryStatements limit read =
    Every (statements_marks statement_marks) (statements_depth statement_depth) limit statements_first statements_more true read

-- ---- parts of statements

abbrev acts_marks : Acts → List Mark
acts_marks (Changes place operator value) = Before place ∷ Of (change_lexeme operator) ∷ expr_marks factor_marks value
acts_marks (Calls arguments) = option_marks (arguments_marks factor_marks) arguments

abbrev acts_depth : Acts → ℕ
acts_depth (Changes place operator value) = expr_depth factor_depth value
acts_depth (Calls arguments) = option_depth (arguments_depth factor_depth) arguments

abbrev loops_marks : Loops → List Mark
loops_marks (Counts x first last step body) =
    ident_marks x ++ Of becomes_sign ∷ (expr_marks factor_marks first ++ Of word_to ∷ (expr_marks factor_marks last ++ (step_marks step ++ Of word_do ∷ (statements_marks statement_marks body ++ Of word_end ∷ []))))
loops_marks (Ranges each x r e body) =
    Before each ∷ Of word_each ∷ (ident_marks x ++ Of word_in ∷ (range_marks r ++ Of colon ∷ (expr_marks factor_marks e ++ Of word_do ∷ (statements_marks statement_marks body ++ Of word_end ∷ []))))

abbrev loops_depth : Loops → ℕ
loops_depth (Counts x first last step body) =
    max (expr_depth factor_depth first) (max (expr_depth factor_depth last) (max (option_depth (expr_depth factor_depth) step) (statements_depth statement_depth body)))
loops_depth (Ranges each x r e body) =
    max (range_depth r) (max (expr_depth factor_depth e) (statements_depth statement_depth body))

-- ---- the alternatives

abbrev Level : Type 0
Level = Statement-F Statement

statement_as : (x : Statement) (l : Level) → out-Statement x ≡ l → statement_marks x ≡ statement_level statement_marks l
statement_as x l e = statement_marks-out x ∙ ap (statement_level statement_marks) e

statement_deep : (x : Statement) (l : Level) → out-Statement x ≡ l → statement_depth x ≡ statement_depth_level statement_depth l
statement_deep x l e = statement_depth-out x ∙ ap (statement_depth_level statement_depth) e

abbrev Body : Type 0
Body = StatementsOf Statement

abbrev Value : Type 0
Value = ExprOf Factor

abbrev IsAction : Statement → Type 0
IsAction y = (x : DesignatorOf Factor × Acts) × (action_made x ≡ y)

abbrev IsIf : Statement → Type 0
IsIf y = (x : Place × (Value × (Body × (List (ElsifOf Statement) × Option Body)))) × (of_statement.If x.0 x.1.0 x.1.1.0 x.1.1.1.0 x.1.1.1.1 ≡ y)

abbrev IsCase : Statement → Type 0
IsCase y = (x : Place × (Value × (CaseOf Statement × (List (CaseOf Statement) × Option Body)))) × (of_statement.Case x.0 x.1.0 x.1.1.0 x.1.1.1.0 x.1.1.1.1 ≡ y)

abbrev IsWhile : Statement → Type 0
IsWhile y = (x : Place × (Value × Body)) × (of_statement.While x.0 x.1.0 x.1.1 ≡ y)

abbrev IsRepeat : Statement → Type 0
IsRepeat y = (x : Place × (Body × Value)) × (of_statement.Repeat x.0 x.1.0 x.1.1 ≡ y)

abbrev IsLoop : Statement → Type 0
IsLoop y = (x : Place × Body) × (of_statement.Loop x.0 x.1 ≡ y)

abbrev IsExit : Statement → Type 0
IsExit y = (x : Place) × (of_statement.Exit x ≡ y)

abbrev IsReturn : Statement → Type 0
IsReturn y = (x : Place × Option Value) × (of_statement.Return x.0 x.1 ≡ y)

abbrev IsFor : Statement → Type 0
IsFor y = (x : Place × Loops) × (for_made x ≡ y)

abbrev IsEmpty : Statement → Type 0
IsEmpty y = (x : Place) × (of_statement.Empty x ≡ y)

abbrev Cases : Statement → Type 0
Cases y =
    IsAction y ⊎ (IsIf y ⊎ (IsCase y ⊎ (IsWhile y ⊎ (IsRepeat y ⊎ (IsLoop y ⊎ (IsExit y ⊎ (IsReturn y ⊎ (IsFor y ⊎ (IsEmpty y)))))))))

statement_cases : (y : Statement) → Cases y
statement_cases y = by_level (out-Statement y) (roll-out-Statement y)
  where
    by_level : (l : Level) → roll-Statement l ≡ y → Cases y
    by_level (kinds.Change d place operator e) is = inl ((d, Changes place operator e), sym (of_statement.rolls-Change d place operator e) ∙ is)
    by_level (kinds.Call d a) is = inl ((d, Calls a), sym (of_statement.rolls-Call d a) ∙ is)
    by_level (kinds.If place e body elsifs otherwise) is = inr (inl ((place, (e, (body, (elsifs, otherwise)))), sym (of_statement.rolls-If place e body elsifs otherwise) ∙ is))
    by_level (kinds.Case place e first others otherwise) is = inr (inr (inl ((place, (e, (first, (others, otherwise)))), sym (of_statement.rolls-Case place e first others otherwise) ∙ is)))
    by_level (kinds.While place e body) is = inr (inr (inr (inl ((place, (e, body)), sym (of_statement.rolls-While place e body) ∙ is))))
    by_level (kinds.Repeat place body e) is = inr (inr (inr (inr (inl ((place, (body, e)), sym (of_statement.rolls-Repeat place body e) ∙ is)))))
    by_level (kinds.Loop place body) is = inr (inr (inr (inr (inr (inl ((place, body), sym (of_statement.rolls-Loop place body) ∙ is))))))
    by_level (kinds.Exit place) is = inr (inr (inr (inr (inr (inr (inl (place, sym (of_statement.rolls-Exit place) ∙ is)))))))
    by_level (kinds.Return place e) is = inr (inr (inr (inr (inr (inr (inr (inl ((place, e), sym (of_statement.rolls-Return place e) ∙ is))))))))
    by_level (kinds.For place x first last step body) is = inr (inr (inr (inr (inr (inr (inr (inr (inl ((place, Counts x first last step body), sym (of_statement.rolls-For place x first last step body) ∙ is)))))))))
    by_level (kinds.ForEach place each x r e body) is = inr (inr (inr (inr (inr (inr (inr (inr (inl ((place, Ranges each x r e body), sym (of_statement.rolls-ForEach place each x r e body) ∙ is)))))))))
    by_level (kinds.Empty place) is = inr (inr (inr (inr (inr (inr (inr (inr (inr (place, sym (of_statement.rolls-Empty place) ∙ is)))))))))

action_marks : (d : DesignatorOf Factor) (x : Acts) → statement_marks (action_made (d, x)) ≡ designator_marks factor_marks d ++ acts_marks x
action_marks d (Changes place operator e) = statement_as (of_statement.Change d place operator e) _ (of_statement.outs-Change d place operator e)
action_marks d (Calls a) = statement_as (of_statement.Call d a) _ (of_statement.outs-Call d a)

action_depth : (d : DesignatorOf Factor) (x : Acts) → statement_depth (action_made (d, x)) ≡ max (designator_depth factor_depth d) (acts_depth x)
action_depth d (Changes place operator e) = statement_deep (of_statement.Change d place operator e) _ (of_statement.outs-Change d place operator e)
action_depth d (Calls a) = statement_deep (of_statement.Call d a) _ (of_statement.outs-Call d a)

for_marks : (place : Place) (x : Loops) → statement_marks (for_made (place, x)) ≡ Before place ∷ Of word_for ∷ loops_marks x
for_marks place (Counts x first last step body) = statement_as (of_statement.For place x first last step body) _ (of_statement.outs-For place x first last step body)
for_marks place (Ranges each x r e body) = statement_as (of_statement.ForEach place each x r e body) _ (of_statement.outs-ForEach place each x r e body)

for_depth : (place : Place) (x : Loops) → statement_depth (for_made (place, x)) ≡ loops_depth x
for_depth place (Counts x first last step body) = statement_deep (of_statement.For place x first last step body) _ (of_statement.outs-For place x first last step body)
for_depth place (Ranges each x r e body) = statement_deep (of_statement.ForEach place each x r e body) _ (of_statement.outs-ForEach place each x r e body)

module _ {limit : ℕ} {inner : Inner} (laws : InnerLaw limit inner) where
  law_changes : Law acts_marks acts_depth limit change_first acts_more false (λ (y : Acts). (x : Place × (ChangeOperator × Value)) × (Changes x.0 x.1.0 x.1.1 ≡ y)) ((λ found. Changes found.0 found.1.0 found.1.1) <$> (here ⊗ leaf change_of ⊗ inner.expr))
  law_changes =
      law_wider change_first acts_more refl refl (variant acts_marks acts_depth (both (law_here limit) (both (law_change limit) laws.expr refl) refl) (λ found. Changes found.0 found.1.0 found.1.1) (λ x. refl) (λ x. omega arith))

  law_calls : Law acts_marks acts_depth limit (left_parenthesis ∷ []) acts_more true (λ (y : Acts). (x : Option (ArgumentsOf Factor)) × (Calls x ≡ y)) (Calls <$> optional (left_parenthesis ∷ []) (arguments inner.expr))
  law_calls =
      law_wider (left_parenthesis ∷ []) acts_more refl refl (variant acts_marks acts_depth (maybe (law_arguments factor_marks factor_depth laws.expr)) Calls (λ x. refl) (λ x. refl))

  law_acts : Every acts_marks acts_depth limit (change_first ++ left_parenthesis ∷ []) acts_more true (acts inner)
  unfolding acts
  law_acts = law_all (λ (y : Acts). Unit {0}) (λ y is. by_act y) (λ y is. tt) (law_either law_changes law_calls refl)
    where
      by_act : (y : Acts) → ((x : Place × (ChangeOperator × Value)) × (Changes x.0 x.1.0 x.1.1 ≡ y)) ⊎ ((x : Option (ArgumentsOf Factor)) × (Calls x ≡ y))
      by_act (Changes place operator e) = inl ((place, (operator, e)), refl)
      by_act (Calls a) = inr (a, refl)

  law_action : Law statement_marks statement_depth limit ident_first statement_more false IsAction (action inner)
  unfolding action
  law_action =
      law_wider ident_first statement_more refl refl (variant statement_marks statement_depth (both (law_designator factor_marks factor_depth laws.expr) law_acts refl) action_made (λ x. action_marks x.0 x.1) (λ x. action_depth x.0 x.1))

  law_label : Every label_marks label_depth limit expr_first (ellipsis ∷ expr_more) false (label inner)
  unfolding label
  law_label =
      made label_marks label_depth (both laws.expr (maybe (law_after ellipsis refl laws.expr)) refl) (λ found. record { low = found.0; high = found.1 }) (λ x. (x.low, x.high)) (λ x. refl) (λ x. refl) (λ x. refl)

  law_return : Law statement_marks statement_depth limit (word_return ∷ []) statement_more false IsReturn (return_statement inner)
  unfolding return_statement
  law_return =
      law_wider (word_return ∷ []) statement_more refl refl (variant statement_marks statement_depth (both (law_here limit) (law_after word_return refl (maybe laws.expr)) refl) (λ found. of_statement.Return found.0 found.1) (λ x. statement_as (of_statement.Return x.0 x.1) _ (of_statement.outs-Return x.0 x.1)) (λ x. let one = statement_deep (of_statement.Return x.0 x.1) _ (of_statement.outs-Return x.0 x.1) in omega (arith, one)))

law_exit : (limit : ℕ) → Law statement_marks statement_depth limit (word_exit ∷ []) statement_more false IsExit exit_statement
unfolding exit_statement
law_exit limit =
    law_wider (word_exit ∷ []) statement_more refl refl (variant statement_marks statement_depth (law_closed word_exit refl refl (law_here limit)) of_statement.Exit (λ x. statement_as (of_statement.Exit x) _ (of_statement.outs-Exit x)) (λ x. statement_deep (of_statement.Exit x) _ (of_statement.outs-Exit x)))

law_empty : (limit : ℕ) → Law statement_marks statement_depth limit [] statement_more true IsEmpty (of_statement.Empty <$> here)
law_empty limit =
    law_wider [] statement_more refl refl (variant statement_marks statement_depth (law_here limit) of_statement.Empty (λ x. statement_as (of_statement.Empty x) _ (of_statement.outs-Empty x)) (λ x. statement_deep (of_statement.Empty x) _ (of_statement.outs-Empty x)))

-- ---- statements in statements

module _ {limit : ℕ} {inner : Inner} {statements : Parser (StatementsOf Statement)} (laws : InnerLaw limit inner) (law : EveryStatements limit statements) where
  law_elsif : Every (elsif_marks statement_marks) (elsif_depth statement_depth) limit (word_elsif ∷ []) statements_more false (elsif inner statements)
  unfolding elsif
  law_elsif =
      made (elsif_marks statement_marks) (elsif_depth statement_depth) (law_after word_elsif refl (both laws.expr (law_after word_then refl law) refl)) (λ found. record { condition = found.0; body = found.1 }) (λ x. (x.condition, x.body)) (λ x. refl) (λ x. refl) (λ x. refl)

  law_otherwise : Every (else_marks statement_marks) (option_depth (statements_depth statement_depth)) limit (word_else ∷ []) (word_else ∷ statements_more) true (otherwise statements)
  unfolding otherwise
  law_otherwise = maybe (law_after word_else refl law)

  law_labelled : Law (case_marks statement_marks) (case_depth statement_depth) limit expr_first statements_more false (λ (y : CaseOf Statement). (x : Label × (List Label × Body)) × (cases.Labelled x.0 x.1.0 x.1.1 ≡ y)) ((λ found. cases.Labelled found.0 found.1.0 found.1.1) <$> (label inner ⊗ many (comma ∷ []) (after comma (label inner)) ⊗ after colon statements))
  law_labelled =
      variant (case_marks statement_marks) (case_depth statement_depth) (both (law_label laws) (both (all_those (law_after comma refl (law_label laws)) refl) (law_after colon refl law) refl) refl) (λ found. cases.Labelled found.0 found.1.0 found.1.1) (λ x. refl) (λ x. refl)

  law_no_case : Law (case_marks statement_marks) (case_depth statement_depth) limit [] statements_more true (λ (y : CaseOf Statement). (x : Place) × (cases.Empty x ≡ y)) (cases.Empty <$> here)
  law_no_case =
      law_wider [] statements_more refl refl (variant (case_marks statement_marks) (case_depth statement_depth) (law_here limit) cases.Empty (λ x. refl) (λ x. refl))

  law_case : Every (case_marks statement_marks) (case_depth statement_depth) limit expr_first statements_more true (case_by inner statements)
  unfolding case_by
  law_case = law_all (λ (y : CaseOf Statement). Unit {0}) (λ y is. by_case y) (λ y is. tt) (law_either law_labelled law_no_case refl)
    where
      by_case : (y : CaseOf Statement) → ((x : Label × (List Label × Body)) × (cases.Labelled x.0 x.1.0 x.1.1 ≡ y)) ⊎ ((x : Place) × (cases.Empty x ≡ y))
      by_case (cases.Labelled first others body) = inl ((first, (others, body)), refl)
      by_case (cases.Empty place) = inr (place, refl)

  law_if : Law statement_marks statement_depth limit (word_if ∷ []) statement_more false IsIf (if_statement inner statements)
  unfolding if_statement
  law_if =
      law_wider (word_if ∷ []) statement_more refl refl (variant statement_marks statement_depth (both (law_here limit) (law_after word_if refl (both laws.expr (law_after word_then refl (both law (both (all_those law_elsif refl) (law_closed word_end refl refl law_otherwise) refl) refl)) refl)) refl) (λ found. of_statement.If found.0 found.1.0 found.1.1.0 found.1.1.1.0 found.1.1.1.1) (λ x. statement_as (of_statement.If x.0 x.1.0 x.1.1.0 x.1.1.1.0 x.1.1.1.1) _ (of_statement.outs-If x.0 x.1.0 x.1.1.0 x.1.1.1.0 x.1.1.1.1)) (λ x. let one = statement_deep (of_statement.If x.0 x.1.0 x.1.1.0 x.1.1.1.0 x.1.1.1.1) _ (of_statement.outs-If x.0 x.1.0 x.1.1.0 x.1.1.1.0 x.1.1.1.1) in omega (arith, one)))

  law_case_statement : Law statement_marks statement_depth limit (word_case ∷ []) statement_more false IsCase (case_statement inner statements)
  unfolding case_statement
  law_case_statement =
      law_wider (word_case ∷ []) statement_more refl refl (variant statement_marks statement_depth (both (law_here limit) (law_after word_case refl (both laws.expr (law_after word_of refl (both law_case (both (all_those (law_after bar refl law_case) refl) (law_closed word_end refl refl law_otherwise) refl) refl)) refl)) refl) (λ found. of_statement.Case found.0 found.1.0 found.1.1.0 found.1.1.1.0 found.1.1.1.1) (λ x. statement_as (of_statement.Case x.0 x.1.0 x.1.1.0 x.1.1.1.0 x.1.1.1.1) _ (of_statement.outs-Case x.0 x.1.0 x.1.1.0 x.1.1.1.0 x.1.1.1.1)) (λ x. let one = statement_deep (of_statement.Case x.0 x.1.0 x.1.1.0 x.1.1.1.0 x.1.1.1.1) _ (of_statement.outs-Case x.0 x.1.0 x.1.1.0 x.1.1.1.0 x.1.1.1.1) in omega (arith, one)))

  law_while : Law statement_marks statement_depth limit (word_while ∷ []) statement_more false IsWhile (while_statement inner statements)
  unfolding while_statement
  law_while =
      law_wider (word_while ∷ []) statement_more refl refl (variant statement_marks statement_depth (both (law_here limit) (law_after word_while refl (both laws.expr (law_after word_do refl (law_closed word_end refl refl law)) refl)) refl) (λ found. of_statement.While found.0 found.1.0 found.1.1) (λ x. statement_as (of_statement.While x.0 x.1.0 x.1.1) _ (of_statement.outs-While x.0 x.1.0 x.1.1)) (λ x. let one = statement_deep (of_statement.While x.0 x.1.0 x.1.1) _ (of_statement.outs-While x.0 x.1.0 x.1.1) in omega (arith, one)))

  law_repeat : Law statement_marks statement_depth limit (word_repeat ∷ []) statement_more false IsRepeat (repeat_statement inner statements)
  unfolding repeat_statement
  law_repeat =
      law_wider (word_repeat ∷ []) statement_more refl refl (variant statement_marks statement_depth (both (law_here limit) (law_after word_repeat refl (both law (law_after word_until refl laws.expr) refl)) refl) (λ found. of_statement.Repeat found.0 found.1.0 found.1.1) (λ x. statement_as (of_statement.Repeat x.0 x.1.0 x.1.1) _ (of_statement.outs-Repeat x.0 x.1.0 x.1.1)) (λ x. let one = statement_deep (of_statement.Repeat x.0 x.1.0 x.1.1) _ (of_statement.outs-Repeat x.0 x.1.0 x.1.1) in omega (arith, one)))

  law_loop : Law statement_marks statement_depth limit (word_loop ∷ []) statement_more false IsLoop (loop_statement statements)
  unfolding loop_statement
  law_loop =
      law_wider (word_loop ∷ []) statement_more refl refl (variant statement_marks statement_depth (both (law_here limit) (law_after word_loop refl (law_closed word_end refl refl law)) refl) (λ found. of_statement.Loop found.0 found.1) (λ x. statement_as (of_statement.Loop x.0 x.1) _ (of_statement.outs-Loop x.0 x.1)) (λ x. let one = statement_deep (of_statement.Loop x.0 x.1) _ (of_statement.outs-Loop x.0 x.1) in omega (arith, one)))

  law_counts : Law loops_marks loops_depth limit ident_first [] false (λ (y : Loops). (x : Ident × (Value × (Value × (Option Value × Body)))) × (Counts x.0 x.1.0 x.1.1.0 x.1.1.1.0 x.1.1.1.1 ≡ y)) (counts inner statements)
  unfolding counts
  law_counts =
      variant loops_marks loops_depth (both (law_ident limit) (law_after becomes_sign refl (both laws.expr (law_after word_to refl (both laws.expr (both (maybe (law_after word_by refl laws.expr)) (law_after word_do refl (law_closed word_end refl refl law)) refl) refl)) refl)) refl) (λ found. Counts found.0 found.1.0 found.1.1.0 found.1.1.1.0 found.1.1.1.1) (λ x. refl) (λ x. omega arith)

  law_ranges : Law loops_marks loops_depth limit (word_each ∷ []) [] false (λ (y : Loops). (x : Place × (Ident × (Range × (Value × Body)))) × (Ranges x.0 x.1.0 x.1.1.0 x.1.1.1.0 x.1.1.1.1 ≡ y)) (ranges inner statements)
  unfolding ranges
  law_ranges =
      variant loops_marks loops_depth (both (law_here limit) (law_after word_each refl (both (law_ident limit) (law_after word_in refl (both laws.range (law_after colon refl (both laws.expr (law_after word_do refl (law_closed word_end refl refl law)) refl)) refl)) refl)) refl) (λ found. Ranges found.0 found.1.0 found.1.1.0 found.1.1.1.0 found.1.1.1.1) (λ x. refl) (λ x. omega arith)

  law_for : Law statement_marks statement_depth limit (word_for ∷ []) statement_more false IsFor (for_statement inner statements)
  unfolding for_statement
  law_for =
      law_wider (word_for ∷ []) statement_more refl refl (variant statement_marks statement_depth (both (law_here limit) (law_after word_for refl (law_all (λ (y : Loops). Unit {0}) (λ y is. by_loop y) (λ y is. tt) (law_either law_ranges law_counts refl))) refl) for_made (λ x. for_marks x.0 x.1) (λ x. let one = for_depth x.0 x.1 in omega (arith, one)))
    where
      by_loop : (y : Loops) → ((x : Place × (Ident × (Range × (Value × Body)))) × (Ranges x.0 x.1.0 x.1.1.0 x.1.1.1.0 x.1.1.1.1 ≡ y)) ⊎ ((x : Ident × (Value × (Value × (Option Value × Body)))) × (Counts x.0 x.1.0 x.1.1.0 x.1.1.1.0 x.1.1.1.1 ≡ y))
      by_loop (Ranges each x r e body) = inl ((each, (x, (r, (e, body)))), refl)
      by_loop (Counts x first last step body) = inr ((x, (first, (last, (step, body)))), refl)

  pub law_statement : Every statement_marks statement_depth limit statement_first statement_more true (statement_by inner statements)
  unfolding statement_by
  law_statement =
      law_all (λ (y : Statement). Unit {0}) (λ y is. statement_cases y) (λ y is. tt) (law_either (law_action laws) (law_either law_if (law_either law_case_statement (law_either law_while (law_either law_repeat (law_either law_loop (law_either (law_exit limit) (law_either (law_return laws) (law_either law_for (law_empty limit) refl) refl) refl) refl) refl) refl) refl) refl) refl)

law_statements_with : {limit : ℕ} {statement : Parser Statement} → Every statement_marks statement_depth limit statement_first statement_more true statement → EveryStatements (suc limit) (statements_by statement)
unfolding statements_by
law_statements_with law =
    made (statements_marks statement_marks) (statements_depth statement_depth) (law_counted (both law (all_those (law_after semicolon refl law) refl) refl)) (λ found. record { first = found.0; others = found.1 }) (λ x. (x.first, x.others)) (λ x. refl) (λ x. refl) (λ x. refl)

pub law_statements : (depth : ℕ) → EveryStatements depth (statements_at depth)
unfolding statements_at
law_statements zero =
    law_deep (statements_marks statement_marks) (statements_depth statement_depth) 0 statements_first statements_more (an_ident ∷ statement_words ++ statements_after) true (λ (x : Body). Unit {0}) ready_statements (λ x h. not-suc-le-zero h)
law_statements (suc depth) = law_statements_with (law_statement (inner_law depth) (law_statements depth))
