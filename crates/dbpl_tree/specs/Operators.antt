-- Which lexeme spells which operator.
use Rattle.dbpl_base.specs.declared.lexeme.Lexeme.{Lexeme}
use Rattle.dbpl_tree.specs.Words.{add_sign, ampersand, becomes_sign, equal_sign, greater_equal_sign, greater_sign, hash_sign, less_equal_sign, less_sign, minus_sign, plus_sign, remove_sign, replace_sign, tilde, times_sign, unequal_sign, word_all, word_and, word_div, word_mod, word_not, word_or, word_procedure, word_some, word_transaction}
use Rattle.dbpl_tree.specs.declared.heading.RoutineWord.{RoutineWord}
use Rattle.dbpl_tree.specs.declared.heading.RoutineWord.TheVariants as routine
use Rattle.dbpl_tree.specs.declared.operators.AddingOperator.{AddingOperator}
use Rattle.dbpl_tree.specs.declared.operators.AddingOperator.TheVariants as adding
use Rattle.dbpl_tree.specs.declared.operators.ChangeOperator.{ChangeOperator}
use Rattle.dbpl_tree.specs.declared.operators.ChangeOperator.TheVariants as change
use Rattle.dbpl_tree.specs.declared.operators.MultiplyingOperator.{MultiplyingOperator}
use Rattle.dbpl_tree.specs.declared.operators.MultiplyingOperator.TheVariants as multiplying
use Rattle.dbpl_tree.specs.declared.operators.NotOperator.{NotOperator}
use Rattle.dbpl_tree.specs.declared.operators.NotOperator.TheVariants as negation
use Rattle.dbpl_tree.specs.declared.operators.Quantifier.{Quantifier}
use Rattle.dbpl_tree.specs.declared.operators.Quantifier.TheVariants as quantifier
use Rattle.dbpl_tree.specs.declared.operators.Relation.{Relation}
use Rattle.dbpl_tree.specs.declared.operators.Relation.TheVariants as relation
use Rattle.dbpl_tree.specs.declared.operators.SignOperator.{SignOperator}
use Rattle.dbpl_tree.specs.declared.operators.SignOperator.TheVariants as sign

abbrev pub relation_lexeme : Relation → Lexeme
relation_lexeme relation.Equal = equal_sign
relation_lexeme relation.Hash = hash_sign
relation_lexeme relation.Unequal = unequal_sign
relation_lexeme relation.Less = less_sign
relation_lexeme relation.LessEqual = less_equal_sign
relation_lexeme relation.Greater = greater_sign
relation_lexeme relation.GreaterEqual = greater_equal_sign

abbrev pub sign_lexeme : SignOperator → Lexeme
sign_lexeme sign.Plus = plus_sign
sign_lexeme sign.Minus = minus_sign

abbrev pub adding_lexeme : AddingOperator → Lexeme
adding_lexeme adding.Plus = plus_sign
adding_lexeme adding.Minus = minus_sign
adding_lexeme adding.Or = word_or

abbrev pub multiplying_lexeme : MultiplyingOperator → Lexeme
multiplying_lexeme multiplying.Times = times_sign
multiplying_lexeme multiplying.Div = word_div
multiplying_lexeme multiplying.Mod = word_mod
multiplying_lexeme multiplying.And = word_and
multiplying_lexeme multiplying.Ampersand = ampersand

abbrev pub not_lexeme : NotOperator → Lexeme
not_lexeme negation.Not = word_not
not_lexeme negation.Tilde = tilde

abbrev pub quantifier_lexeme : Quantifier → Lexeme
quantifier_lexeme quantifier.Exists = word_some
quantifier_lexeme quantifier.ForAll = word_all

abbrev pub change_lexeme : ChangeOperator → Lexeme
change_lexeme change.Becomes = becomes_sign
change_lexeme change.Add = add_sign
change_lexeme change.Remove = remove_sign
change_lexeme change.Replace = replace_sign

abbrev pub routine_lexeme : RoutineWord → Lexeme
routine_lexeme routine.Procedure = word_procedure
routine_lexeme routine.Transaction = word_transaction
