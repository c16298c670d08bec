-- The law of the operators, each spelled by a word or a sign of its table.
use Rattle.dbpl_base.specs.declared.lexeme.Lexeme.{Lexeme}
use Rattle.dbpl_grammar.proofs.Law.{Law}
use Rattle.dbpl_grammar.proofs.Sets.{is_fixed}
use Rattle.dbpl_grammar.proofs.TokenLaw.{law_leaf, table_says}
use Rattle.dbpl_grammar.specs.Expressions.{adding_first, adding_of, multiplying_first, multiplying_of, not_first, not_of, quantifier_first, quantifier_of, relation_of, relations_first, sign_of, signs_first}
use Rattle.dbpl_grammar.specs.Reading.{among, leaf}
use Rattle.dbpl_grammar.specs.Statements.{change_first, change_of}
use Rattle.dbpl_grammar.specs.Units.{routine_first, routine_of}
use Rattle.dbpl_tree.specs.Marks.{Of}
use Rattle.dbpl_tree.specs.Operators.{adding_lexeme, change_lexeme, multiplying_lexeme, not_lexeme, quantifier_lexeme, relation_lexeme, routine_lexeme, sign_lexeme}
use Rattle.dbpl_tree.specs.declared.heading.RoutineWord.TheVariants as routine_words
use Rattle.dbpl_tree.specs.declared.heading.RoutineWord.{RoutineWord}
use Rattle.dbpl_tree.specs.declared.operators.AddingOperator.TheVariants as adding
use Rattle.dbpl_tree.specs.declared.operators.AddingOperator.{AddingOperator}
use Rattle.dbpl_tree.specs.declared.operators.ChangeOperator.TheVariants as changes
use Rattle.dbpl_tree.specs.declared.operators.ChangeOperator.{ChangeOperator}
use Rattle.dbpl_tree.specs.declared.operators.MultiplyingOperator.TheVariants as multiplying
use Rattle.dbpl_tree.specs.declared.operators.MultiplyingOperator.{MultiplyingOperator}
use Rattle.dbpl_tree.specs.declared.operators.NotOperator.TheVariants as negation
use Rattle.dbpl_tree.specs.declared.operators.NotOperator.{NotOperator}
use Rattle.dbpl_tree.specs.declared.operators.Quantifier.TheVariants as quantifiers
use Rattle.dbpl_tree.specs.declared.operators.Quantifier.{Quantifier}
use Rattle.dbpl_tree.specs.declared.operators.Relation.TheVariants as relations
use Rattle.dbpl_tree.specs.declared.operators.Relation.{Relation}
use Rattle.dbpl_tree.specs.declared.operators.SignOperator.TheVariants as signs
use Rattle.dbpl_tree.specs.declared.operators.SignOperator.{SignOperator}
use Rattle.std.proofs.Common.{◌≡◌, ℕ, true, false, [], ◌∷◌, Some, refl}

pub law_relation : (limit : ℕ) → Law (λ (x : Relation). Of (relation_lexeme x) ∷ []) (λ (x : Relation). 0) limit relations_first [] false (λ (x : Relation). Unit {0}) (leaf relation_of)
unfolding relation_of
law_relation limit = law_leaf limit relation_of relation_lexeme relations_first relations.Equal refl means says begins
  where
    means : (x : Relation) → relation_of (relation_lexeme x) ≡ Some x
    means relations.Equal = refl
    means relations.Hash = refl
    means relations.Unequal = refl
    means relations.Less = refl
    means relations.LessEqual = refl
    means relations.Greater = refl
    means relations.GreaterEqual = refl

    fixed : (x : Relation) → is_fixed (relation_lexeme x) ≡ true
    fixed relations.Equal = refl
    fixed relations.Hash = refl
    fixed relations.Unequal = refl
    fixed relations.Less = refl
    fixed relations.LessEqual = refl
    fixed relations.Greater = refl
    fixed relations.GreaterEqual = refl

    says : (l : Lexeme) (x : Relation) → relation_of l ≡ Some x → l ≡ relation_lexeme x
    says l x e = table_says relation_lexeme (relations.Equal ∷ relations.Hash ∷ relations.Unequal ∷ relations.Less ∷ relations.LessEqual ∷ relations.Greater ∷ relations.GreaterEqual ∷ []) l x fixed e

    begins : (x : Relation) → among relations_first (relation_lexeme x) ≡ true
    begins relations.Equal = refl
    begins relations.Hash = refl
    begins relations.Unequal = refl
    begins relations.Less = refl
    begins relations.LessEqual = refl
    begins relations.Greater = refl
    begins relations.GreaterEqual = refl

pub law_sign : (limit : ℕ) → Law (λ (x : SignOperator). Of (sign_lexeme x) ∷ []) (λ (x : SignOperator). 0) limit signs_first [] false (λ (x : SignOperator). Unit {0}) (leaf sign_of)
unfolding sign_of
law_sign limit = law_leaf limit sign_of sign_lexeme signs_first signs.Plus refl means says begins
  where
    means : (x : SignOperator) → sign_of (sign_lexeme x) ≡ Some x
    means signs.Plus = refl
    means signs.Minus = refl

    fixed : (x : SignOperator) → is_fixed (sign_lexeme x) ≡ true
    fixed signs.Plus = refl
    fixed signs.Minus = refl

    says : (l : Lexeme) (x : SignOperator) → sign_of l ≡ Some x → l ≡ sign_lexeme x
    says l x e = table_says sign_lexeme (signs.Plus ∷ signs.Minus ∷ []) l x fixed e

    begins : (x : SignOperator) → among signs_first (sign_lexeme x) ≡ true
    begins signs.Plus = refl
    begins signs.Minus = refl

pub law_adding : (limit : ℕ) → Law (λ (x : AddingOperator). Of (adding_lexeme x) ∷ []) (λ (x : AddingOperator). 0) limit adding_first [] false (λ (x : AddingOperator). Unit {0}) (leaf adding_of)
unfolding adding_of
law_adding limit = law_leaf limit adding_of adding_lexeme adding_first adding.Plus refl means says begins
  where
    means : (x : AddingOperator) → adding_of (adding_lexeme x) ≡ Some x
    means adding.Plus = refl
    means adding.Minus = refl
    means adding.Or = refl

    fixed : (x : AddingOperator) → is_fixed (adding_lexeme x) ≡ true
    fixed adding.Plus = refl
    fixed adding.Minus = refl
    fixed adding.Or = refl

    says : (l : Lexeme) (x : AddingOperator) → adding_of l ≡ Some x → l ≡ adding_lexeme x
    says l x e = table_says adding_lexeme (adding.Plus ∷ adding.Minus ∷ adding.Or ∷ []) l x fixed e

    begins : (x : AddingOperator) → among adding_first (adding_lexeme x) ≡ true
    begins adding.Plus = refl
    begins adding.Minus = refl
    begins adding.Or = refl

pub law_multiplying : (limit : ℕ) → Law (λ (x : MultiplyingOperator). Of (multiplying_lexeme x) ∷ []) (λ (x : MultiplyingOperator). 0) limit multiplying_first [] false (λ (x : MultiplyingOperator). Unit {0}) (leaf multiplying_of)
unfolding multiplying_of
law_multiplying limit = law_leaf limit multiplying_of multiplying_lexeme multiplying_first multiplying.Times refl means says begins
  where
    means : (x : MultiplyingOperator) → multiplying_of (multiplying_lexeme x) ≡ Some x
    means multiplying.Times = refl
    means multiplying.Div = refl
    means multiplying.Mod = refl
    means multiplying.And = refl
    means multiplying.Ampersand = refl

    fixed : (x : MultiplyingOperator) → is_fixed (multiplying_lexeme x) ≡ true
    fixed multiplying.Times = refl
    fixed multiplying.Div = refl
    fixed multiplying.Mod = refl
    fixed multiplying.And = refl
    fixed multiplying.Ampersand = refl

    says : (l : Lexeme) (x : MultiplyingOperator) → multiplying_of l ≡ Some x → l ≡ multiplying_lexeme x
    says l x e = table_says multiplying_lexeme (multiplying.Times ∷ multiplying.Div ∷ multiplying.Mod ∷ multiplying.And ∷ multiplying.Ampersand ∷ []) l x fixed e

    begins : (x : MultiplyingOperator) → among multiplying_first (multiplying_lexeme x) ≡ true
    begins multiplying.Times = refl
    begins multiplying.Div = refl
    begins multiplying.Mod = refl
    begins multiplying.And = refl
    begins multiplying.Ampersand = refl

pub law_not : (limit : ℕ) → Law (λ (x : NotOperator). Of (not_lexeme x) ∷ []) (λ (x : NotOperator). 0) limit not_first [] false (λ (x : NotOperator). Unit {0}) (leaf not_of)
unfolding not_of
law_not limit = law_leaf limit not_of not_lexeme not_first negation.Not refl means says begins
  where
    means : (x : NotOperator) → not_of (not_lexeme x) ≡ Some x
    means negation.Not = refl
    means negation.Tilde = refl

    fixed : (x : NotOperator) → is_fixed (not_lexeme x) ≡ true
    fixed negation.Not = refl
    fixed negation.Tilde = refl

    says : (l : Lexeme) (x : NotOperator) → not_of l ≡ Some x → l ≡ not_lexeme x
    says l x e = table_says not_lexeme (negation.Not ∷ negation.Tilde ∷ []) l x fixed e

    begins : (x : NotOperator) → among not_first (not_lexeme x) ≡ true
    begins negation.Not = refl
    begins negation.Tilde = refl

pub law_quantifier : (limit : ℕ) → Law (λ (x : Quantifier). Of (quantifier_lexeme x) ∷ []) (λ (x : Quantifier). 0) limit quantifier_first [] false (λ (x : Quantifier). Unit {0}) (leaf quantifier_of)
unfolding quantifier_of
law_quantifier limit = law_leaf limit quantifier_of quantifier_lexeme quantifier_first quantifiers.Exists refl means says begins
  where
    means : (x : Quantifier) → quantifier_of (quantifier_lexeme x) ≡ Some x
    means quantifiers.Exists = refl
    means quantifiers.ForAll = refl

    fixed : (x : Quantifier) → is_fixed (quantifier_lexeme x) ≡ true
    fixed quantifiers.Exists = refl
    fixed quantifiers.ForAll = refl

    says : (l : Lexeme) (x : Quantifier) → quantifier_of l ≡ Some x → l ≡ quantifier_lexeme x
    says l x e = table_says quantifier_lexeme (quantifiers.Exists ∷ quantifiers.ForAll ∷ []) l x fixed e

    begins : (x : Quantifier) → among quantifier_first (quantifier_lexeme x) ≡ true
    begins quantifiers.Exists = refl
    begins quantifiers.ForAll = refl

pub law_change : (limit : ℕ) → Law (λ (x : ChangeOperator). Of (change_lexeme x) ∷ []) (λ (x : ChangeOperator). 0) limit change_first [] false (λ (x : ChangeOperator). Unit {0}) (leaf change_of)
unfolding change_of
law_change limit = law_leaf limit change_of change_lexeme change_first changes.Becomes refl means says begins
  where
    means : (x : ChangeOperator) → change_of (change_lexeme x) ≡ Some x
    means changes.Becomes = refl
    means changes.Add = refl
    means changes.Remove = refl
    means changes.Replace = refl

    fixed : (x : ChangeOperator) → is_fixed (change_lexeme x) ≡ true
    fixed changes.Becomes = refl
    fixed changes.Add = refl
    fixed changes.Remove = refl
    fixed changes.Replace = refl

    says : (l : Lexeme) (x : ChangeOperator) → change_of l ≡ Some x → l ≡ change_lexeme x
    says l x e = table_says change_lexeme (changes.Becomes ∷ changes.Add ∷ changes.Remove ∷ changes.Replace ∷ []) l x fixed e

    begins : (x : ChangeOperator) → among change_first (change_lexeme x) ≡ true
    begins changes.Becomes = refl
    begins changes.Add = refl
    begins changes.Remove = refl
    begins changes.Replace = refl

pub law_routine : (limit : ℕ) → Law (λ (x : RoutineWord). Of (routine_lexeme x) ∷ []) (λ (x : RoutineWord). 0) limit routine_first [] false (λ (x : RoutineWord). Unit {0}) (leaf routine_of)
unfolding routine_of
law_routine limit = law_leaf limit routine_of routine_lexeme routine_first routine_words.Procedure refl means says begins
  where
    means : (x : RoutineWord) → routine_of (routine_lexeme x) ≡ Some x
    means routine_words.Procedure = refl
    means routine_words.Transaction = refl

    fixed : (x : RoutineWord) → is_fixed (routine_lexeme x) ≡ true
    fixed routine_words.Procedure = refl
    fixed routine_words.Transaction = refl

    says : (l : Lexeme) (x : RoutineWord) → routine_of l ≡ Some x → l ≡ routine_lexeme x
    says l x e = table_says routine_lexeme (routine_words.Procedure ∷ routine_words.Transaction ∷ []) l x fixed e

    begins : (x : RoutineWord) → among routine_first (routine_lexeme x) ≡ true
    begins routine_words.Procedure = refl
    begins routine_words.Transaction = refl
