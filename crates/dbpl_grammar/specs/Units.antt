-- What is read of declarations, imports and units. The number is how many phrases may stand inside one another.
use Rattle.std.specs.Prelude.{ℕ, List, [], ◌∷◌, ◌++◌, Option, Result, Ok, Err}
use Rattle.dbpl_base.specs.declared.lexeme.Lexeme.{Lexeme}
use Rattle.dbpl_base.specs.declared.lexeme.Lexeme.TheVariants.{Finish}
use Rattle.dbpl_base.specs.declared.limits.TheConstants.{PHRASE_DEPTH}
use Rattle.dbpl_base.specs.declared.token.Token.{Token}
use Rattle.dbpl_grammar.specs.Expressions.{aggregate, all_of, at_depth, ident, ident_first, idents, qual}
use Rattle.dbpl_grammar.specs.Lexemes.{an_ident}
use Rattle.dbpl_grammar.specs.Reading.{Parser, Refused, ◌>>=◌, ◌<$>◌, ◌⊗◌, after, by_table, closed, either, flag, here, leaf, many, optional, wrong}
use Rattle.dbpl_grammar.specs.Statements.{statements_at}
use Rattle.dbpl_grammar.specs.Types.{type_at}
use Rattle.dbpl_tree.specs.Operators.{routine_lexeme}
use Rattle.dbpl_tree.specs.Words.{colon, equal_sign, full_stop, left_parenthesis, right_parenthesis, semicolon, word_begin, word_const, word_constructor, word_database, word_definition, word_end, word_for, word_from, word_implementation, word_import, word_in, word_module, word_procedure, word_selector, word_transaction, word_type, word_var}
use Rattle.dbpl_tree.specs.declared.decl.Common.{Common}
use Rattle.dbpl_tree.specs.declared.decl.Common.TheVariants as commons
use Rattle.dbpl_tree.specs.declared.decl.ConstDecl.{ConstDecl}
use Rattle.dbpl_tree.specs.declared.decl.Decl.{Decl}
use Rattle.dbpl_tree.specs.declared.decl.Decl.TheVariants as decls
use Rattle.dbpl_tree.specs.declared.decl.DefinitionItem.{DefinitionItem}
use Rattle.dbpl_tree.specs.declared.decl.DefinitionItem.TheVariants as items
use Rattle.dbpl_tree.specs.declared.decl.PlainDecl.{PlainDecl}
use Rattle.dbpl_tree.specs.declared.decl.PlainDecl.TheVariants as plain
use Rattle.dbpl_tree.specs.declared.decl.Routine.{Routine}
use Rattle.dbpl_tree.specs.declared.decl.TypeDecl.{TypeDecl}
use Rattle.dbpl_tree.specs.declared.decl.VarDecl.{VarDecl}
use Rattle.dbpl_tree.specs.declared.heading.Heading.{Heading}
use Rattle.dbpl_tree.specs.declared.heading.Params.{Params}
use Rattle.dbpl_tree.specs.declared.heading.RoutineWord.{RoutineWord}
use Rattle.dbpl_tree.specs.declared.heading.RoutineWord.TheVariants as routine_words
use Rattle.dbpl_tree.specs.declared.heading.Section.{Section}
use Rattle.dbpl_tree.specs.declared.heading.Signature.{Signature}
use Rattle.dbpl_tree.specs.declared.statement.Statement.{Statement}
use Rattle.dbpl_tree.specs.declared.statements.StatementsOf.{StatementsOf}
use Rattle.dbpl_tree.specs.declared.unit.DataUnit.{DataUnit}
use Rattle.dbpl_tree.specs.declared.unit.DefinitionUnit.{DefinitionUnit}
use Rattle.dbpl_tree.specs.declared.unit.Import.{Import}
use Rattle.dbpl_tree.specs.declared.unit.Import.TheVariants as imports
use Rattle.dbpl_tree.specs.declared.unit.Program.{Program}
use Rattle.dbpl_tree.specs.declared.unit.Unit.{Unit as Module}
use Rattle.dbpl_tree.specs.declared.unit.Unit.TheVariants as units

-- ---- headings

unfoldable pub section : Parser Section
section =
    (λ found. record { place = found.0; by_reference = found.1.0; names = found.1.1.0; kind = found.1.1.1 }) <$> (here ⊗ flag word_var ⊗ idents ⊗ after colon qual)

abbrev pub section_first : List Lexeme
section_first = word_var ∷ an_ident ∷ []

unfoldable pub params : Parser Params
params =
    (λ found. record { place = found.0; sections = all_of found.1 }) <$> (here ⊗ after left_parenthesis (closed (optional section_first (section ⊗ many (semicolon ∷ []) (after semicolon section))) right_parenthesis))

unfoldable pub signature : Parser Signature
signature =
    (λ found. record { params = found.0; result = found.1 }) <$> (params ⊗ optional (colon ∷ []) (after colon qual))

unfoldable pub routine_of : Lexeme → Option RoutineWord
routine_of = by_table routine_lexeme (routine_words.Procedure ∷ routine_words.Transaction ∷ [])

abbrev pub routine_first : List Lexeme
routine_first = word_procedure ∷ word_transaction ∷ []

unfoldable pub heading : Parser Heading
heading =
    (λ found. record { place = found.0; word = found.1.0; name = found.1.1.0; signature = found.1.1.1 }) <$> (here ⊗ leaf routine_of ⊗ ident ⊗ optional (left_parenthesis ∷ []) signature)

-- ---- declarations

unfoldable pub const_decl : ℕ → Parser ConstDecl
const_decl depth =
    (λ found. record { name = found.0; value = found.1 }) <$> (ident ⊗ after equal_sign (closed (at_depth depth).expr semicolon))

unfoldable pub type_decl : ℕ → Parser TypeDecl
type_decl depth =
    (λ found. record { name = found.0; kind = found.1 }) <$> (ident ⊗ after equal_sign (closed (type_at depth) semicolon))

unfoldable pub var_decl : ℕ → Parser VarDecl
var_decl depth =
    (λ found. record { names = found.0; kind = found.1 }) <$> (idents ⊗ after colon (closed (type_at depth) semicolon))

abbrev pub plain_first : List Lexeme
plain_first = word_const ∷ word_type ∷ word_var ∷ []

unfoldable pub constants : ℕ → Parser PlainDecl
constants depth =
    (λ found. plain.Const found.0 found.1) <$> (here ⊗ after word_const (many ident_first (const_decl depth)))

unfoldable pub types : ℕ → Parser PlainDecl
types depth =
    (λ found. plain.Type found.0 found.1) <$> (here ⊗ after word_type (many ident_first (type_decl depth)))

unfoldable pub variables : ℕ → Parser PlainDecl
variables depth =
    (λ found. plain.Var found.0 found.1) <$> (here ⊗ after word_var (many ident_first (var_decl depth)))

unfoldable pub plain_decl : ℕ → Parser PlainDecl
plain_decl depth =
    either (word_const ∷ []) (constants depth) (either (word_type ∷ []) (types depth) (variables depth))

abbrev pub common_first : List Lexeme
common_first = word_selector ∷ word_constructor ∷ plain_first

unfoldable pub selector : ℕ → Parser Common
selector depth =
    (λ found. commons.Selector found.0 found.1.0 found.1.1.0 found.1.1.1.0 found.1.1.1.1.0 found.1.1.1.1.1) <$> (here ⊗ after word_selector (ident ⊗ optional (left_parenthesis ∷ []) params ⊗ after word_for (ident ⊗ after word_in (qual ⊗ after colon (closed (at_depth depth).expr semicolon)))))

unfoldable pub constructor : ℕ → Parser Common
constructor depth =
    (λ found. commons.Constructor found.0 found.1.0 found.1.1.0 found.1.1.1) <$> (here ⊗ after word_constructor (ident ⊗ optional (left_parenthesis ∷ []) params ⊗ after colon (closed (aggregate (at_depth depth)) semicolon)))

unfoldable pub common : ℕ → Parser Common
common depth =
    either (word_selector ∷ []) (selector depth) (either (word_constructor ∷ []) (constructor depth) (commons.Plain <$> plain_decl depth))

-- BEGIN and statements, where they stand
unfoldable pub body : ℕ → Parser (Option (StatementsOf Statement))
body depth = optional (word_begin ∷ []) (after word_begin (statements_at depth))

unfoldable pub routine : ℕ → Parser Routine
routine depth =
    (λ found. record { heading = found.0; declarations = found.1.0; body = found.1.1.0; end = found.1.1.1.0; end_name = found.1.1.1.1 }) <$> (heading ⊗ after semicolon (many plain_first (plain_decl depth) ⊗ body depth ⊗ here ⊗ after word_end (closed ident semicolon)))

abbrev pub decl_first : List Lexeme
decl_first = routine_first ++ common_first

unfoldable pub decl : ℕ → Parser Decl
decl depth = either routine_first (decls.Routine <$> routine depth) (decls.Common <$> common depth)

unfoldable pub definition_item : ℕ → Parser DefinitionItem
definition_item depth =
    either routine_first (items.Heading <$> closed heading semicolon) (items.Common <$> common depth)

-- ---- units

abbrev pub import_first : List Lexeme
import_first = word_import ∷ word_from ∷ []

unfoldable pub import_whole : Parser Import
import_whole =
    (λ found. imports.Whole found.0 found.1) <$> (here ⊗ after word_import (closed idents semicolon))

unfoldable pub import_from : Parser Import
import_from =
    (λ found. imports.From found.0 found.1.0 found.1.1) <$> (here ⊗ after word_from (ident ⊗ after word_import (closed idents semicolon)))

unfoldable pub import : Parser Import
import = either (word_import ∷ []) import_whole import_from

unfoldable pub program : ℕ → Parser Program
program depth =
    (λ found. record { place = found.0; name = found.1.0; imports = found.1.1.0; declarations = found.1.1.1.0; body = found.1.1.1.1.0; end_name = found.1.1.1.1.1 }) <$> (here ⊗ after word_module (ident ⊗ after semicolon (many import_first import ⊗ many decl_first (decl depth) ⊗ body depth ⊗ after word_end (closed ident full_stop))))

unfoldable pub definition_unit : ℕ → Parser DefinitionUnit
definition_unit depth =
    (λ found. record { place = found.0; name = found.1.0; imports = found.1.1.0; items = found.1.1.1.0; end_name = found.1.1.1.1 }) <$> (here ⊗ after word_definition (after word_module (ident ⊗ after semicolon (many import_first import ⊗ many decl_first (definition_item depth) ⊗ after word_end (closed ident full_stop)))))

unfoldable pub data_unit : ℕ → Parser DataUnit
data_unit depth =
    (λ found. record { place = found.0; name = found.1.0; imports = found.1.1.0; items = found.1.1.1.0; end_name = found.1.1.1.1 }) <$> (here ⊗ after word_database (after word_module (ident ⊗ after semicolon (many import_first import ⊗ many common_first (common depth) ⊗ after word_end (closed ident full_stop)))))

unfoldable pub implementation : ℕ → Parser Module
implementation depth =
    (λ found. units.Implementation found.0 found.1) <$> (here ⊗ after word_implementation (program depth))

unfoldable pub unit : ℕ → Parser Module
unit depth =
    either (word_module ∷ []) (units.Program <$> program depth) (either (word_implementation ∷ []) (implementation depth) (either (word_definition ∷ []) (units.Definition <$> definition_unit depth) (units.Data <$> data_unit depth)))

abbrev pub at_end : Module → List Token → Result Module Refused
at_end found [] = Ok found
at_end found (token ∷ tokens) = Err (wrong (token ∷ tokens))

-- the unit that these tokens are, whose last is the end of the text
unfoldable pub whole_unit : ℕ → List Token → Result Module Refused
whole_unit depth tokens = closed (unit depth) Finish tokens >>= λ found. at_end found.0 found.1

-- how many phrases may stand inside one another
abbrev pub depth_limit : ℕ
depth_limit = PHRASE_DEPTH
