-- The marks of types.
use Rattle.std.specs.Prelude.{List, [], ◌∷◌, ◌++◌}
use Rattle.dbpl_tree.specs.Expressions.{expr_marks}
use Rattle.dbpl_tree.specs.Factors.{factor_marks}
use Rattle.dbpl_tree.specs.Marks.{Mark, Of, Before, further_marks}
use Rattle.dbpl_tree.specs.Names.{idents_marks, qual_marks}
use Rattle.dbpl_tree.specs.Words.{colon, comma, ellipsis, left_bracket, left_parenthesis, right_bracket, right_parenthesis, semicolon, word_array, word_end, word_of, word_record, word_relation}
use Rattle.dbpl_tree.specs.declared.type_tree.FieldsOf.{FieldsOf}
use Rattle.dbpl_tree.specs.declared.type_tree.FieldsOf.TheVariants as fields
use Rattle.dbpl_tree.specs.declared.type_tree.TypeTree.{TypeTree, TypeTree-F, fold-TypeTree}
use Rattle.dbpl_tree.specs.declared.type_tree.TypeTree.TheOpen as types

-- `w` gives the marks of a type
abbrev pub fields_marks : {T : Type 0} → (T → List Mark) → FieldsOf T → List Mark
fields_marks w (fields.Empty place) = Before place ∷ []
fields_marks w (fields.Fields names t) = idents_marks names ++ Of colon ∷ w t

abbrev pub type_level : {T : Type 0} → (T → List Mark) → TypeTree-F T → List Mark
type_level w (types.Named q) = qual_marks q
type_level w (types.Enumeration place names) =
    Before place ∷ Of left_parenthesis ∷ (idents_marks names ++ Of right_parenthesis ∷ [])
type_level w (types.Subrange place low high) =
    Before place ∷ Of left_bracket ∷
    (expr_marks factor_marks low ++ Of ellipsis ∷ (expr_marks factor_marks high ++ Of right_bracket ∷ []))
type_level w (types.Array place index others element) =
    Before place ∷ Of word_array ∷ (w index ++ (further_marks comma w others ++ Of word_of ∷ w element))
type_level w (types.Record place first others) =
    Before place ∷ Of word_record ∷
    (fields_marks w first ++ (further_marks semicolon (fields_marks w) others ++ Of word_end ∷ []))
type_level w (types.Relation place keys q) =
    Before place ∷ Of word_relation ∷ (idents_marks keys ++ Of word_of ∷ qual_marks q)

abbrev pub type_marks : TypeTree → List Mark
type_marks t = fold-TypeTree (List Mark) (type_level (λ marks. marks)) t
