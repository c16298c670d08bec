-- With each lexeme of a table of operators one of them is spelled.
use Rattle.dbpl_base.specs.declared.lexeme.Lexeme.{Lexeme}
use Rattle.dbpl_grammar.proofs.Sets.{is_fixed}
use Rattle.dbpl_grammar.specs.Expressions.{adding_first, multiplying_first, relations_first, signs_first}
use Rattle.dbpl_grammar.specs.Reading.{among}
use Rattle.dbpl_tree.specs.Operators.{adding_lexeme, multiplying_lexeme, relation_lexeme, sign_lexeme}
use Rattle.dbpl_tree.specs.declared.operators.AddingOperator.TheVariants as adding
use Rattle.dbpl_tree.specs.declared.operators.AddingOperator.{AddingOperator}
use Rattle.dbpl_tree.specs.declared.operators.MultiplyingOperator.TheVariants as multiplying
use Rattle.dbpl_tree.specs.declared.operators.MultiplyingOperator.{MultiplyingOperator}
use Rattle.dbpl_tree.specs.declared.operators.Relation.TheVariants as relations
use Rattle.dbpl_tree.specs.declared.operators.Relation.{Relation}
use Rattle.dbpl_tree.specs.declared.operators.SignOperator.TheVariants as signs
use Rattle.dbpl_tree.specs.declared.operators.SignOperator.{SignOperator}
use Rattle.std.proofs.Common.{◌≡◌, true, [], ◌∷◌, refl}
use Rattle.dbpl_grammar.proofs.Sharp.{in_table}

pub all_relation : (lexeme : Lexeme) → among relations_first lexeme ≡ true → (x : Relation) × (lexeme ≡ relation_lexeme x)
all_relation lexeme is = in_table relation_lexeme (relations.Equal ∷ relations.Hash ∷ relations.Unequal ∷ relations.Less ∷ relations.LessEqual ∷ relations.Greater ∷ relations.GreaterEqual ∷ []) lexeme fixed is
  where
    fixed : (x : Relation) → is_fixed (relation_lexeme x) ≡ true
    fixed relations.Equal = refl
    fixed relations.Hash = refl
    fixed relations.Unequal = refl
    fixed relations.Less = refl
    fixed relations.LessEqual = refl
    fixed relations.Greater = refl
    fixed relations.GreaterEqual = refl

pub all_sign : (lexeme : Lexeme) → among signs_first lexeme ≡ true → (x : SignOperator) × (lexeme ≡ sign_lexeme x)
all_sign lexeme is = in_table sign_lexeme (signs.Plus ∷ signs.Minus ∷ []) lexeme fixed is
  where
    fixed : (x : SignOperator) → is_fixed (sign_lexeme x) ≡ true
    fixed signs.Plus = refl
    fixed signs.Minus = refl

pub all_adding : (lexeme : Lexeme) → among adding_first lexeme ≡ true → (x : AddingOperator) × (lexeme ≡ adding_lexeme x)
all_adding lexeme is = in_table adding_lexeme (adding.Plus ∷ adding.Minus ∷ adding.Or ∷ []) lexeme fixed is
  where
    fixed : (x : AddingOperator) → is_fixed (adding_lexeme x) ≡ true
    fixed adding.Plus = refl
    fixed adding.Minus = refl
    fixed adding.Or = refl

pub all_multiplying : (lexeme : Lexeme) → among multiplying_first lexeme ≡ true → (x : MultiplyingOperator) × (lexeme ≡ multiplying_lexeme x)
all_multiplying lexeme is = in_table multiplying_lexeme (multiplying.Times ∷ multiplying.Div ∷ multiplying.Mod ∷ multiplying.And ∷ multiplying.Ampersand ∷ []) lexeme fixed is
  where
    fixed : (x : MultiplyingOperator) → is_fixed (multiplying_lexeme x) ≡ true
    fixed multiplying.Times = refl
    fixed multiplying.Div = refl
    fixed multiplying.Mod = refl
    fixed multiplying.And = refl
    fixed multiplying.Ampersand = refl
