-- The place of the first token of each phrase that doesn't keep it in a field of its own. An empty phrase has that of the
-- token behind it.
use Rattle.dbpl_base.specs.declared.place.Place.{Place}
use Rattle.dbpl_tree.specs.declared.aggregate.Aggregate.{Aggregate}
use Rattle.dbpl_tree.specs.declared.case.CaseOf.{CaseOf}
use Rattle.dbpl_tree.specs.declared.case.CaseOf.TheVariants as cases
use Rattle.dbpl_tree.specs.declared.case.Label.{Label}
use Rattle.dbpl_tree.specs.declared.decl.Common.{Common}
use Rattle.dbpl_tree.specs.declared.decl.Common.TheVariants as common
use Rattle.dbpl_tree.specs.declared.decl.ConstDecl.{ConstDecl}
use Rattle.dbpl_tree.specs.declared.decl.Decl.{Decl}
use Rattle.dbpl_tree.specs.declared.decl.Decl.TheVariants as decl
use Rattle.dbpl_tree.specs.declared.decl.DefinitionItem.{DefinitionItem}
use Rattle.dbpl_tree.specs.declared.decl.DefinitionItem.TheVariants as item
use Rattle.dbpl_tree.specs.declared.decl.PlainDecl.{PlainDecl}
use Rattle.dbpl_tree.specs.declared.decl.PlainDecl.TheVariants as plain
use Rattle.dbpl_tree.specs.declared.decl.Routine.{Routine}
use Rattle.dbpl_tree.specs.declared.decl.TypeDecl.{TypeDecl}
use Rattle.dbpl_tree.specs.declared.decl.VarDecl.{VarDecl}
use Rattle.dbpl_tree.specs.declared.designator.DesignatorOf.{DesignatorOf}
use Rattle.dbpl_tree.specs.declared.each.Each.{Each}
use Rattle.dbpl_tree.specs.declared.element.Element.{Element, Element-F, out-Element}
use Rattle.dbpl_tree.specs.declared.element.Element.TheOpen as phrases
use Rattle.dbpl_tree.specs.declared.expr.ExprsOf.{ExprsOf}
use Rattle.dbpl_tree.specs.declared.factor.Factor.{Factor, Factor-F, out-Factor}
use Rattle.dbpl_tree.specs.declared.heading.Signature.{Signature}
use Rattle.dbpl_tree.specs.declared.ident.Idents.{Idents}
use Rattle.dbpl_tree.specs.declared.ident.Qual.{Qual}
use Rattle.dbpl_tree.specs.declared.range.Range.{Range, Range-F, out-Range}
use Rattle.dbpl_tree.specs.declared.statement.Statement.{Statement, Statement-F, out-Statement}
use Rattle.dbpl_tree.specs.declared.statement.Statement.TheOpen as kinds
use Rattle.dbpl_tree.specs.declared.statements.StatementsOf.{StatementsOf}
use Rattle.dbpl_tree.specs.declared.type_tree.FieldsOf.{FieldsOf}
use Rattle.dbpl_tree.specs.declared.type_tree.FieldsOf.TheVariants as fields
use Rattle.dbpl_tree.specs.declared.type_tree.TypeTree.{TypeTree, TypeTree-F, out-TypeTree}
use Rattle.dbpl_tree.specs.declared.type_tree.TypeTree.TheOpen as types
use Rattle.dbpl_tree.specs.declared.unit.Import.{Import}
use Rattle.dbpl_tree.specs.declared.unit.Import.TheVariants as imports
use Rattle.dbpl_tree.specs.declared.unit.Unit.{Unit}
use Rattle.dbpl_tree.specs.declared.unit.Unit.TheVariants as units

-- ---- names

abbrev pub idents_place : Idents → Place
idents_place xs = xs.first.place

abbrev pub qual_place : Qual → Place
qual_place q = q.first.place

-- ---- expressions

abbrev pub exprs_place : {F : Type 0} → ExprsOf F → Place
exprs_place es = es.first.place

abbrev pub designator_place : {F : Type 0} → DesignatorOf F → Place
designator_place d = d.head.place

-- that of its type
abbrev pub aggregate_place : Aggregate → Place
aggregate_place a = qual_place a.kind

abbrev pub factor_level_place : {E F R C : Type 0} → Factor-F E F R Aggregate C → Place
factor_level_place (phrases.Number place n) = place
factor_level_place (phrases.CharCode place n) = place
factor_level_place (phrases.Text place text) = place
factor_level_place (phrases.Factor::Aggregate a) = aggregate_place a
factor_level_place (phrases.Factor::Designator d a) = designator_place d
factor_level_place (phrases.Parenthesized place e) = place
factor_level_place (phrases.Not place operator f) = place
factor_level_place (phrases.Quantified place quantifier x r e) = place

abbrev pub factor_place : Factor → Place
factor_place f = factor_level_place (out-Factor f)

abbrev pub range_level_place : {E F R C : Type 0} → Range-F E F R Aggregate C → Place
range_level_place (phrases.Range::Designator d) = designator_place d
range_level_place (phrases.Range::Aggregate a) = aggregate_place a

abbrev pub range_place : Range → Place
range_place r = range_level_place (out-Range r)

abbrev pub element_level_place : {E F R A : Type 0} → Element-F E F R A Each → Place
element_level_place (phrases.Each c e) = c.place
element_level_place (phrases.Plain e) = e.place
element_level_place (phrases.Of target c cs e) = target.place

abbrev pub element_place : Element → Place
element_place e = element_level_place (out-Element e)

-- ---- types

abbrev pub type_level_place : {T : Type 0} → TypeTree-F T → Place
type_level_place (types.Named q) = qual_place q
type_level_place (types.Enumeration place names) = place
type_level_place (types.Subrange place low high) = place
type_level_place (types.Array place index others element) = place
type_level_place (types.Record place first others) = place
type_level_place (types.Relation place keys q) = place

abbrev pub type_place : TypeTree → Place
type_place t = type_level_place (out-TypeTree t)

abbrev pub fields_place : {T : Type 0} → FieldsOf T → Place
fields_place (fields.Empty place) = place
fields_place (fields.Fields names t) = idents_place names

-- ---- statements

abbrev pub label_place : Label → Place
label_place x = x.low.place

abbrev pub case_place : {S : Type 0} → CaseOf S → Place
case_place (cases.Empty place) = place
case_place (cases.Labelled first others body) = label_place first

abbrev pub statement_level_place : {S : Type 0} → Statement-F S → Place
statement_level_place (kinds.Empty place) = place
statement_level_place (kinds.Change target place operator e) = designator_place target
statement_level_place (kinds.Call d a) = designator_place d
statement_level_place (kinds.If place e body elsifs otherwise) = place
statement_level_place (kinds.Case place e first others otherwise) = place
statement_level_place (kinds.While place e body) = place
statement_level_place (kinds.Repeat place body e) = place
statement_level_place (kinds.Loop place body) = place
statement_level_place (kinds.Exit place) = place
statement_level_place (kinds.Return place e) = place
statement_level_place (kinds.For place x first last step body) = place
statement_level_place (kinds.ForEach place each x r e body) = place

abbrev pub statement_place : Statement → Place
statement_place s = statement_level_place (out-Statement s)

abbrev pub statements_place : StatementsOf Statement → Place
statements_place ss = statement_place ss.first

-- ---- declarations

abbrev pub const_place : ConstDecl → Place
const_place d = d.name.place

abbrev pub type_decl_place : TypeDecl → Place
type_decl_place d = d.name.place

abbrev pub var_place : VarDecl → Place
var_place d = idents_place d.names

abbrev pub plain_place : PlainDecl → Place
plain_place (plain.Const place ds) = place
plain_place (plain.Type place ds) = place
plain_place (plain.Var place ds) = place

abbrev pub common_place : Common → Place
common_place (common.Plain d) = plain_place d
common_place (common.Selector place name params x q e) = place
common_place (common.Constructor place name params a) = place

-- that of its parameters
abbrev pub signature_place : Signature → Place
signature_place s = s.params.place

-- that of its heading
abbrev pub routine_place : Routine → Place
routine_place r = r.heading.place

abbrev pub decl_place : Decl → Place
decl_place (decl.Common d) = common_place d
decl_place (decl.Routine r) = routine_place r

abbrev pub item_place : DefinitionItem → Place
item_place (item.Common d) = common_place d
item_place (item.Heading h) = h.place

-- ---- modules

abbrev pub import_place : Import → Place
import_place (imports.Whole place names) = place
import_place (imports.From place from names) = place

abbrev pub unit_place : Unit → Place
unit_place (units.Program p) = p.place
unit_place (units.Implementation place p) = place
unit_place (units.Definition d) = d.place
unit_place (units.Data d) = d.place
