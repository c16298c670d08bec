-- What is read of types.
use Rattle.std.specs.Prelude.{ℕ, zero, suc, List, [], ◌∷◌}
use Rattle.dbpl_base.specs.declared.lexeme.Lexeme.{Lexeme}
use Rattle.dbpl_grammar.specs.Expressions.{Inner, at_depth, ident_first, idents, qual}
use Rattle.dbpl_grammar.specs.Lexemes.{an_ident}
use Rattle.dbpl_grammar.specs.Reading.{Parser, ◌<$>◌, ◌⊗◌, after, closed, either, here, many, too_deep}
use Rattle.dbpl_tree.specs.Words.{colon, comma, ellipsis, left_bracket, left_parenthesis, right_bracket, right_parenthesis, semicolon, word_array, word_end, word_of, word_record, word_relation}
use Rattle.dbpl_tree.specs.declared.type_tree.FieldsOf.{FieldsOf}
use Rattle.dbpl_tree.specs.declared.type_tree.FieldsOf.TheVariants as fields_of
use Rattle.dbpl_tree.specs.declared.type_tree.TypeTree.{TypeTree}
use Rattle.dbpl_tree.specs.declared.type_tree.TypeTree.TheVariants as types

abbrev pub type_first : List Lexeme
type_first = left_parenthesis ∷ left_bracket ∷ word_array ∷ word_record ∷ word_relation ∷ an_ident ∷ []

-- the fields of one kind, or nothing
unfoldable pub fields : {T : Type 0} → Parser T → Parser (FieldsOf T)
fields type =
    either ident_first ((λ found. fields_of.Fields found.0 found.1) <$> (idents ⊗ after colon type)) (fields_of.Empty <$> here)

unfoldable pub enumeration : Parser TypeTree
enumeration =
    (λ found. types.Enumeration found.0 found.1) <$> (here ⊗ after left_parenthesis (closed idents right_parenthesis))

unfoldable pub subrange : Inner → Parser TypeTree
subrange inner =
    (λ found. types.Subrange found.0 found.1.0 found.1.1) <$> (here ⊗ after left_bracket (inner.expr ⊗ after ellipsis (closed inner.expr right_bracket)))

unfoldable pub array : Parser TypeTree → Parser TypeTree
array type =
    (λ found. types.Array found.0 found.1.0 found.1.1.0 found.1.1.1) <$> (here ⊗ after word_array (type ⊗ many (comma ∷ []) (after comma type) ⊗ after word_of type))

unfoldable pub record_type : Parser TypeTree → Parser TypeTree
record_type type =
    (λ found. types.Record found.0 found.1.0 found.1.1) <$> (here ⊗ after word_record (closed (fields type ⊗ many (semicolon ∷ []) (after semicolon (fields type))) word_end))

unfoldable pub relation_type : Parser TypeTree
relation_type =
    (λ found. types.Relation found.0 found.1.0 found.1.1) <$> (here ⊗ after word_relation (idents ⊗ after word_of qual))

-- a type, with these expressions and types in it
unfoldable pub type_by : Inner → Parser TypeTree → Parser TypeTree
type_by inner type =
    either (left_parenthesis ∷ []) enumeration (either (left_bracket ∷ []) (subrange inner) (either (word_array ∷ []) (array type) (either (word_record ∷ []) (record_type type) (either (word_relation ∷ []) relation_type (types.Named <$> qual)))))

-- a type, where so many phrases may still stand inside one another
unfoldable pub type_at : ℕ → Parser TypeTree
type_at zero = too_deep type_first
type_at (suc depth) = type_by (at_depth depth) (type_at depth)
