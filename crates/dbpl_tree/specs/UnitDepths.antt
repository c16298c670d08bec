-- How deep phrases stand inside one another in types, statements, declarations and modules. Types and lists of
-- statements count themselves.
use Rattle.std.specs.Prelude.{ℕ, suc, max, Option}
use Rattle.dbpl_tree.specs.Depths.{aggregate_depth, arguments_depth, designator_depth, expr_depth, factor_depth, greatest, option_depth, range_depth}
use Rattle.dbpl_tree.specs.declared.case.CaseOf.{CaseOf}
use Rattle.dbpl_tree.specs.declared.case.CaseOf.TheVariants as cases
use Rattle.dbpl_tree.specs.declared.case.Label.{Label}
use Rattle.dbpl_tree.specs.declared.decl.Common.{Common}
use Rattle.dbpl_tree.specs.declared.decl.Common.TheVariants as common
use Rattle.dbpl_tree.specs.declared.decl.Decl.{Decl}
use Rattle.dbpl_tree.specs.declared.decl.Decl.TheVariants as decl
use Rattle.dbpl_tree.specs.declared.decl.DefinitionItem.{DefinitionItem}
use Rattle.dbpl_tree.specs.declared.decl.DefinitionItem.TheVariants as item
use Rattle.dbpl_tree.specs.declared.decl.PlainDecl.{PlainDecl}
use Rattle.dbpl_tree.specs.declared.decl.PlainDecl.TheVariants as plain
use Rattle.dbpl_tree.specs.declared.decl.Routine.{Routine}
use Rattle.dbpl_tree.specs.declared.statement.ElsifOf.{ElsifOf}
use Rattle.dbpl_tree.specs.declared.statement.Statement.{Statement, Statement-F, fold-Statement}
use Rattle.dbpl_tree.specs.declared.statement.Statement.TheOpen as kinds
use Rattle.dbpl_tree.specs.declared.statements.StatementsOf.{StatementsOf}
use Rattle.dbpl_tree.specs.declared.type_tree.FieldsOf.{FieldsOf}
use Rattle.dbpl_tree.specs.declared.type_tree.FieldsOf.TheVariants as fields
use Rattle.dbpl_tree.specs.declared.type_tree.TypeTree.{TypeTree, TypeTree-F, fold-TypeTree}
use Rattle.dbpl_tree.specs.declared.type_tree.TypeTree.TheOpen as types
use Rattle.dbpl_tree.specs.declared.unit.Program.{Program}
use Rattle.dbpl_tree.specs.declared.unit.Unit.{Unit}
use Rattle.dbpl_tree.specs.declared.unit.Unit.TheVariants as units

-- ---- types: `n` gives the depth of a type

abbrev pub fields_depth : {T : Type 0} → (T → ℕ) → FieldsOf T → ℕ
fields_depth n (fields.Empty place) = 0
fields_depth n (fields.Fields names t) = n t

-- counts itself
abbrev pub type_depth_level : {T : Type 0} → (T → ℕ) → TypeTree-F T → ℕ
type_depth_level n (types.Named q) = 1
type_depth_level n (types.Enumeration place names) = 1
type_depth_level n (types.Subrange place low high) =
    suc (max (expr_depth factor_depth low) (expr_depth factor_depth high))
type_depth_level n (types.Array place index others element) =
    suc (max (n index) (max (greatest n others) (n element)))
type_depth_level n (types.Record place first others) =
    suc (max (fields_depth n first) (greatest (fields_depth n) others))
type_depth_level n (types.Relation place keys q) = 1

abbrev pub type_depth : TypeTree → ℕ
type_depth t = fold-TypeTree ℕ (type_depth_level (λ depth. depth)) t

-- ---- statements: `n` gives the depth of a statement

-- counts itself
abbrev pub statements_depth : {S : Type 0} → (S → ℕ) → StatementsOf S → ℕ
statements_depth n ss = suc (max (n ss.first) (greatest n ss.others))

abbrev pub elsif_depth : {S : Type 0} → (S → ℕ) → ElsifOf S → ℕ
elsif_depth n x = max (expr_depth factor_depth x.condition) (statements_depth n x.body)

abbrev pub label_depth : Label → ℕ
label_depth x = max (expr_depth factor_depth x.low) (option_depth (expr_depth factor_depth) x.high)

abbrev pub case_depth : {S : Type 0} → (S → ℕ) → CaseOf S → ℕ
case_depth n (cases.Empty place) = 0
case_depth n (cases.Labelled first others body) =
    max (label_depth first) (max (greatest label_depth others) (statements_depth n body))

abbrev pub statement_depth_level : {S : Type 0} → (S → ℕ) → Statement-F S → ℕ
statement_depth_level n (kinds.Empty place) = 0
statement_depth_level n (kinds.Change target place operator e) =
    max (designator_depth factor_depth target) (expr_depth factor_depth e)
statement_depth_level n (kinds.Call d a) =
    max (designator_depth factor_depth d) (option_depth (arguments_depth factor_depth) a)
statement_depth_level n (kinds.If place e body elsifs otherwise) =
    max (expr_depth factor_depth e)
    (max (statements_depth n body) (max (greatest (elsif_depth n) elsifs) (option_depth (statements_depth n) otherwise)))
statement_depth_level n (kinds.Case place e first others otherwise) =
    max (expr_depth factor_depth e)
    (max (case_depth n first) (max (greatest (case_depth n) others) (option_depth (statements_depth n) otherwise)))
statement_depth_level n (kinds.While place e body) = max (expr_depth factor_depth e) (statements_depth n body)
statement_depth_level n (kinds.Repeat place body e) = max (statements_depth n body) (expr_depth factor_depth e)
statement_depth_level n (kinds.Loop place body) = statements_depth n body
statement_depth_level n (kinds.Exit place) = 0
statement_depth_level n (kinds.Return place e) = option_depth (expr_depth factor_depth) e
statement_depth_level n (kinds.For place x first last step body) =
    max (expr_depth factor_depth first)
    (max (expr_depth factor_depth last)
    (max (option_depth (expr_depth factor_depth) step) (statements_depth n body)))
statement_depth_level n (kinds.ForEach place each x r e body) =
    max (range_depth r) (max (expr_depth factor_depth e) (statements_depth n body))

abbrev pub statement_depth : Statement → ℕ
statement_depth s = fold-Statement ℕ (statement_depth_level (λ depth. depth)) s

-- ---- declarations and modules

abbrev pub plain_depth : PlainDecl → ℕ
plain_depth (plain.Const place ds) = greatest (λ d. expr_depth factor_depth d.value) ds
plain_depth (plain.Type place ds) = greatest (λ d. type_depth d.kind) ds
plain_depth (plain.Var place ds) = greatest (λ d. type_depth d.kind) ds

abbrev pub common_depth : Common → ℕ
common_depth (common.Plain d) = plain_depth d
common_depth (common.Selector place name params x q e) = expr_depth factor_depth e
common_depth (common.Constructor place name params a) = aggregate_depth a

abbrev pub body_depth : Option (StatementsOf Statement) → ℕ
body_depth body = option_depth (statements_depth statement_depth) body

abbrev pub routine_depth : Routine → ℕ
routine_depth r = max (greatest plain_depth r.declarations) (body_depth r.body)

abbrev pub decl_depth : Decl → ℕ
decl_depth (decl.Common d) = common_depth d
decl_depth (decl.Routine r) = routine_depth r

abbrev pub item_depth : DefinitionItem → ℕ
item_depth (item.Common d) = common_depth d
item_depth (item.Heading h) = 0

abbrev pub program_depth : Program → ℕ
program_depth p = max (greatest decl_depth p.declarations) (body_depth p.body)

-- THE depth of a tree
abbrev pub unit_depth : Unit → ℕ
unit_depth (units.Program p) = program_depth p
unit_depth (units.Implementation place p) = program_depth p
unit_depth (units.Definition d) = greatest item_depth d.items
unit_depth (units.Data d) = greatest common_depth d.items
