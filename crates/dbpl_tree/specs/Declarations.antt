-- The marks of headings and declarations.
use Rattle.std.specs.Prelude.{List, [], ◌∷◌, ◌++◌, Option}
use Rattle.std.specs.List.{flat_map}
use Rattle.dbpl_tree.specs.Expressions.{expr_marks}
use Rattle.dbpl_tree.specs.Factors.{aggregate_marks, factor_marks}
use Rattle.dbpl_tree.specs.Marks.{Mark, Of, Before, between_marks, option_marks, where_marks}
use Rattle.dbpl_tree.specs.Names.{ident_marks, idents_marks, qual_marks}
use Rattle.dbpl_tree.specs.Operators.{routine_lexeme}
use Rattle.dbpl_tree.specs.Statements.{statement_marks, statements_marks}
use Rattle.dbpl_tree.specs.TypeTrees.{type_marks}
use Rattle.dbpl_tree.specs.Words.{colon, equal_sign, left_parenthesis, right_parenthesis, semicolon, word_begin, word_const, word_constructor, word_end, word_for, word_in, word_selector, word_type, word_var}
use Rattle.dbpl_tree.specs.declared.decl.Common.{Common}
use Rattle.dbpl_tree.specs.declared.decl.Common.TheVariants as common
use Rattle.dbpl_tree.specs.declared.decl.ConstDecl.{ConstDecl}
use Rattle.dbpl_tree.specs.declared.decl.Decl.{Decl}
use Rattle.dbpl_tree.specs.declared.decl.Decl.TheVariants as decl
use Rattle.dbpl_tree.specs.declared.decl.DefinitionItem.{DefinitionItem}
use Rattle.dbpl_tree.specs.declared.decl.DefinitionItem.TheVariants as item
use Rattle.dbpl_tree.specs.declared.decl.PlainDecl.{PlainDecl}
use Rattle.dbpl_tree.specs.declared.decl.PlainDecl.TheVariants as plain
use Rattle.dbpl_tree.specs.declared.decl.Routine.{Routine}
use Rattle.dbpl_tree.specs.declared.decl.TypeDecl.{TypeDecl}
use Rattle.dbpl_tree.specs.declared.decl.VarDecl.{VarDecl}
use Rattle.dbpl_tree.specs.declared.heading.Heading.{Heading}
use Rattle.dbpl_tree.specs.declared.heading.Params.{Params}
use Rattle.dbpl_tree.specs.declared.heading.Section.{Section}
use Rattle.dbpl_tree.specs.declared.heading.Signature.{Signature}
use Rattle.dbpl_tree.specs.declared.statement.Statement.{Statement}
use Rattle.dbpl_tree.specs.declared.statements.StatementsOf.{StatementsOf}

-- ---- headings

abbrev pub section_marks : Section → List Mark
section_marks s =
    Before s.place ∷ (where_marks s.by_reference word_var ++ (idents_marks s.names ++ Of colon ∷ qual_marks s.kind))

abbrev pub params_marks : Params → List Mark
params_marks ps =
    Before ps.place ∷ Of left_parenthesis ∷
    (between_marks semicolon section_marks ps.sections ++ Of right_parenthesis ∷ [])

abbrev pub signature_marks : Signature → List Mark
signature_marks s = params_marks s.params ++ option_marks (λ q. Of colon ∷ qual_marks q) s.result

abbrev pub heading_marks : Heading → List Mark
heading_marks h =
    Before h.place ∷ Of (routine_lexeme h.word) ∷ (ident_marks h.name ++ option_marks signature_marks h.signature)

-- ---- constants, types and variables

abbrev pub const_marks : ConstDecl → List Mark
const_marks d = ident_marks d.name ++ Of equal_sign ∷ (expr_marks factor_marks d.value ++ Of semicolon ∷ [])

abbrev pub type_decl_marks : TypeDecl → List Mark
type_decl_marks d = ident_marks d.name ++ Of equal_sign ∷ (type_marks d.kind ++ Of semicolon ∷ [])

abbrev pub var_marks : VarDecl → List Mark
var_marks d = idents_marks d.names ++ Of colon ∷ (type_marks d.kind ++ Of semicolon ∷ [])

abbrev pub plain_marks : PlainDecl → List Mark
plain_marks (plain.Const place ds) = Before place ∷ Of word_const ∷ flat_map const_marks ds
plain_marks (plain.Type place ds) = Before place ∷ Of word_type ∷ flat_map type_decl_marks ds
plain_marks (plain.Var place ds) = Before place ∷ Of word_var ∷ flat_map var_marks ds

-- ---- selectors, constructors and routines

abbrev pub common_marks : Common → List Mark
common_marks (common.Plain d) = plain_marks d
common_marks (common.Selector place name params x q e) =
    Before place ∷ Of word_selector ∷
    (ident_marks name ++
    (option_marks params_marks params ++ Of word_for ∷
    (ident_marks x ++ Of word_in ∷
    (qual_marks q ++ Of colon ∷ (expr_marks factor_marks e ++ Of semicolon ∷ [])))))
common_marks (common.Constructor place name params a) =
    Before place ∷ Of word_constructor ∷
    (ident_marks name ++
    (option_marks params_marks params ++ Of colon ∷ (aggregate_marks a ++ Of semicolon ∷ [])))

-- BEGIN and statements, or nothing
abbrev pub body_marks : Option (StatementsOf Statement) → List Mark
body_marks body = option_marks (λ ss. Of word_begin ∷ statements_marks statement_marks ss) body

abbrev pub routine_marks : Routine → List Mark
routine_marks r =
    heading_marks r.heading ++ Of semicolon ∷
    (flat_map plain_marks r.declarations ++
    (body_marks r.body ++ Before r.end ∷ Of word_end ∷ (ident_marks r.end_name ++ Of semicolon ∷ [])))

abbrev pub decl_marks : Decl → List Mark
decl_marks (decl.Common d) = common_marks d
decl_marks (decl.Routine r) = routine_marks r

abbrev pub item_marks : DefinitionItem → List Mark
item_marks (item.Common d) = common_marks d
item_marks (item.Heading h) = heading_marks h ++ Of semicolon ∷ []
