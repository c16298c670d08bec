-- Which text spells which operator and which word, written out by hand from the grammar.
use Rattle.std.proofs.Common.{◌≡◌, ℕ, List, [], ◌∷◌, map, get_or, refl}
use Rattle.std.specs.Prelude.{codes}
use Rattle.dbpl_base.specs.Words.{reserved_words, signs}
use Rattle.dbpl_base.specs.declared.lexeme.Lexeme.{Lexeme}
use Rattle.dbpl_base.specs.declared.lexeme.Lexeme.TheVariants as lexemes
use Rattle.dbpl_tree.specs.Operators.{adding_lexeme, change_lexeme, multiplying_lexeme, not_lexeme, quantifier_lexeme, relation_lexeme, routine_lexeme, sign_lexeme}
use Rattle.dbpl_tree.specs.Words as words
use Rattle.dbpl_tree.specs.declared.heading.RoutineWord.TheVariants as routine
use Rattle.dbpl_tree.specs.declared.operators.AddingOperator.TheVariants as adding
use Rattle.dbpl_tree.specs.declared.operators.ChangeOperator.TheVariants as change
use Rattle.dbpl_tree.specs.declared.operators.MultiplyingOperator.TheVariants as multiplying
use Rattle.dbpl_tree.specs.declared.operators.NotOperator.TheVariants as negation
use Rattle.dbpl_tree.specs.declared.operators.Quantifier.TheVariants as quantifier
use Rattle.dbpl_tree.specs.declared.operators.Relation.TheVariants as relation
use Rattle.dbpl_tree.specs.declared.operators.SignOperator.TheVariants as sign

-- the row of the table that a lexeme names
pub text_of : Lexeme → List ℕ
text_of (lexemes.Reserved row) = get_or reserved_words row []
text_of (lexemes.Sign row) = get_or signs row []
text_of _ = []

pub relations :
    map (λ operator. text_of (relation_lexeme operator))
    (relation.Equal ∷ relation.Hash ∷ relation.Unequal ∷ relation.Less ∷ relation.LessEqual ∷ relation.Greater ∷
    relation.GreaterEqual ∷ [])
    ≡ codes "=" ∷ codes "#" ∷ codes "<>" ∷ codes "<" ∷ codes "<=" ∷ codes ">" ∷ codes ">=" ∷ []
unfolding text_of reserved_words signs
relations = refl

pub sign_operators :
    map (λ operator. text_of (sign_lexeme operator)) (sign.Plus ∷ sign.Minus ∷ []) ≡ codes "+" ∷ codes "-" ∷ []
unfolding text_of reserved_words signs
sign_operators = refl

pub adding_operators :
    map (λ operator. text_of (adding_lexeme operator)) (adding.Plus ∷ adding.Minus ∷ adding.Or ∷ [])
    ≡ codes "+" ∷ codes "-" ∷ codes "OR" ∷ []
unfolding text_of reserved_words signs
adding_operators = refl

pub multiplying_operators :
    map (λ operator. text_of (multiplying_lexeme operator))
    (multiplying.Times ∷ multiplying.Div ∷ multiplying.Mod ∷ multiplying.And ∷ multiplying.Ampersand ∷ [])
    ≡ codes "*" ∷ codes "DIV" ∷ codes "MOD" ∷ codes "AND" ∷ codes "&" ∷ []
unfolding text_of reserved_words signs
multiplying_operators = refl

pub negations :
    map (λ operator. text_of (not_lexeme operator)) (negation.Not ∷ negation.Tilde ∷ []) ≡ codes "NOT" ∷ codes "~" ∷ []
unfolding text_of reserved_words signs
negations = refl

pub quantifiers :
    map (λ operator. text_of (quantifier_lexeme operator)) (quantifier.Exists ∷ quantifier.ForAll ∷ [])
    ≡ codes "SOME" ∷ codes "ALL" ∷ []
unfolding text_of reserved_words signs
quantifiers = refl

pub changes :
    map (λ operator. text_of (change_lexeme operator))
    (change.Becomes ∷ change.Add ∷ change.Remove ∷ change.Replace ∷ [])
    ≡ codes ":=" ∷ codes ":+" ∷ codes ":-" ∷ codes ":&" ∷ []
unfolding text_of reserved_words signs
changes = refl

pub routines :
    map (λ word. text_of (routine_lexeme word)) (routine.Procedure ∷ routine.Transaction ∷ [])
    ≡ codes "PROCEDURE" ∷ codes "TRANSACTION" ∷ []
unfolding text_of reserved_words signs
routines = refl

pub reserved :
    map text_of
    (words.word_and ∷ words.word_array ∷ words.word_begin ∷ words.word_by ∷ words.word_case ∷ words.word_const ∷
    words.word_definition ∷ words.word_div ∷ words.word_do ∷ words.word_else ∷ words.word_elsif ∷ words.word_end ∷
    words.word_exit ∷ words.word_for ∷ words.word_from ∷ words.word_if ∷ words.word_implementation ∷
    words.word_import ∷ words.word_in ∷ words.word_loop ∷ words.word_mod ∷ words.word_module ∷ words.word_not ∷
    words.word_of ∷ words.word_or ∷ words.word_procedure ∷ words.word_record ∷ words.word_repeat ∷
    words.word_return ∷ words.word_then ∷ words.word_to ∷ words.word_type ∷ words.word_until ∷ words.word_var ∷
    words.word_while ∷ words.word_all ∷ words.word_constructor ∷ words.word_database ∷ words.word_each ∷
    words.word_relation ∷ words.word_selector ∷ words.word_some ∷ words.word_transaction ∷ [])
    ≡ codes "AND" ∷ codes "ARRAY" ∷ codes "BEGIN" ∷ codes "BY" ∷ codes "CASE" ∷ codes "CONST" ∷ codes "DEFINITION" ∷
    codes "DIV" ∷ codes "DO" ∷ codes "ELSE" ∷ codes "ELSIF" ∷ codes "END" ∷ codes "EXIT" ∷ codes "FOR" ∷
    codes "FROM" ∷ codes "IF" ∷ codes "IMPLEMENTATION" ∷ codes "IMPORT" ∷ codes "IN" ∷ codes "LOOP" ∷ codes "MOD" ∷
    codes "MODULE" ∷ codes "NOT" ∷ codes "OF" ∷ codes "OR" ∷ codes "PROCEDURE" ∷ codes "RECORD" ∷ codes "REPEAT" ∷
    codes "RETURN" ∷ codes "THEN" ∷ codes "TO" ∷ codes "TYPE" ∷ codes "UNTIL" ∷ codes "VAR" ∷ codes "WHILE" ∷
    codes "ALL" ∷ codes "CONSTRUCTOR" ∷ codes "DATABASE" ∷ codes "EACH" ∷ codes "RELATION" ∷ codes "SELECTOR" ∷
    codes "SOME" ∷ codes "TRANSACTION" ∷ []
unfolding text_of reserved_words signs
reserved = refl

pub all_signs :
    map text_of
    (words.plus_sign ∷ words.minus_sign ∷ words.times_sign ∷ words.equal_sign ∷ words.hash_sign ∷ words.unequal_sign ∷
    words.less_sign ∷ words.less_equal_sign ∷ words.greater_sign ∷ words.greater_equal_sign ∷ words.ampersand ∷
    words.tilde ∷ words.becomes_sign ∷ words.add_sign ∷ words.remove_sign ∷ words.replace_sign ∷ words.full_stop ∷
    words.ellipsis ∷ words.comma ∷ words.semicolon ∷ words.colon ∷ words.left_parenthesis ∷ words.right_parenthesis ∷
    words.left_bracket ∷ words.right_bracket ∷ words.left_brace ∷ words.right_brace ∷ words.bar ∷ [])
    ≡ codes "+" ∷ codes "-" ∷ codes "*" ∷ codes "=" ∷ codes "#" ∷ codes "<>" ∷ codes "<" ∷ codes "<=" ∷ codes ">" ∷
    codes ">=" ∷ codes "&" ∷ codes "~" ∷ codes ":=" ∷ codes ":+" ∷ codes ":-" ∷ codes ":&" ∷ codes "." ∷ codes ".." ∷
    codes "," ∷ codes ";" ∷ codes ":" ∷ codes "(" ∷ codes ")" ∷ codes "[" ∷ codes "]" ∷ codes "{" ∷ codes "}" ∷
    codes "|" ∷ []
unfolding text_of reserved_words signs
all_signs = refl
