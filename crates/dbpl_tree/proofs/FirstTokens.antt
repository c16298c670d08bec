-- Each phrase begins with the mark of the place of its first token, so what spells it begins with a token at that place.
use Rattle.std.proofs.Common.{◌≡◌, List, [], ◌∷◌, ◌++◌, Some, refl, ◌∙◌, ap}
use Rattle.dbpl_base.specs.declared.place.Place.{Place}
use Rattle.dbpl_base.specs.declared.token.Token.{Token}
use Rattle.dbpl_tree.proofs.Levels.{aggregate_marks-out, each_marks-out, element_marks-out, factor_marks-out, range_marks-out}
use Rattle.dbpl_tree.proofs.StatementLevels.{statement_marks-out, type_marks-out}
use Rattle.dbpl_tree.specs.Declarations.{common_marks, const_marks, decl_marks, heading_marks, item_marks, params_marks, plain_marks, routine_marks, section_marks, signature_marks, type_decl_marks, var_marks}
use Rattle.dbpl_tree.specs.Expressions.{added_marks, arguments_marks, compared_marks, designator_marks, expr_marks, exprs_marks, multiplied_marks, simple_marks, term_marks}
use Rattle.dbpl_tree.specs.Factors.{aggregate_marks, each_marks, element_level, element_marks, factor_level, factor_marks, range_level, range_marks, spelling}
use Rattle.dbpl_tree.specs.FirstTokens.{aggregate_place, case_place, common_place, const_place, decl_place, designator_place, element_level_place, element_place, exprs_place, factor_level_place, factor_place, fields_place, idents_place, import_place, item_place, label_place, plain_place, qual_place, range_level_place, range_place, routine_place, signature_place, statement_level_place, statement_place, statements_place, type_decl_place, type_level_place, type_place, unit_place, var_place}
use Rattle.dbpl_tree.specs.Marks.{Mark, Of, Before, Meets, first_place}
use Rattle.dbpl_tree.specs.Names.{ident_marks, idents_marks, qual_marks}
use Rattle.dbpl_tree.specs.Statements.{case_marks, label_marks, statement_level, statement_marks, statements_marks}
use Rattle.dbpl_tree.specs.TypeTrees.{fields_marks, type_level, type_marks}
use Rattle.dbpl_tree.specs.Units.{import_marks, text_marks, unit_marks}
use Rattle.dbpl_tree.specs.declared.aggregate.Aggregate.{Aggregate}
use Rattle.dbpl_tree.specs.declared.case.CaseOf.{CaseOf}
use Rattle.dbpl_tree.specs.declared.case.CaseOf.TheVariants as cases
use Rattle.dbpl_tree.specs.declared.case.Label.{Label}
use Rattle.dbpl_tree.specs.declared.decl.Common.{Common}
use Rattle.dbpl_tree.specs.declared.decl.Common.TheVariants as common
use Rattle.dbpl_tree.specs.declared.decl.ConstDecl.{ConstDecl}
use Rattle.dbpl_tree.specs.declared.decl.Decl.{Decl}
use Rattle.dbpl_tree.specs.declared.decl.Decl.TheVariants as decl
use Rattle.dbpl_tree.specs.declared.decl.DefinitionItem.{DefinitionItem}
use Rattle.dbpl_tree.specs.declared.decl.DefinitionItem.TheVariants as item
use Rattle.dbpl_tree.specs.declared.decl.PlainDecl.{PlainDecl}
use Rattle.dbpl_tree.specs.declared.decl.PlainDecl.TheVariants as plain
use Rattle.dbpl_tree.specs.declared.decl.Routine.{Routine}
use Rattle.dbpl_tree.specs.declared.decl.TypeDecl.{TypeDecl}
use Rattle.dbpl_tree.specs.declared.decl.VarDecl.{VarDecl}
use Rattle.dbpl_tree.specs.declared.designator.ArgumentsOf.{ArgumentsOf}
use Rattle.dbpl_tree.specs.declared.designator.DesignatorOf.{DesignatorOf}
use Rattle.dbpl_tree.specs.declared.each.Each.{Each}
use Rattle.dbpl_tree.specs.declared.element.Element.{Element, Element-F, out-Element}
use Rattle.dbpl_tree.specs.declared.element.Element.TheOpen as phrases
use Rattle.dbpl_tree.specs.declared.expr.ComparedOf.{ComparedOf}
use Rattle.dbpl_tree.specs.declared.expr.ExprOf.{ExprOf}
use Rattle.dbpl_tree.specs.declared.expr.ExprsOf.{ExprsOf}
use Rattle.dbpl_tree.specs.declared.factor.Factor.{Factor, Factor-F, out-Factor}
use Rattle.dbpl_tree.specs.declared.heading.Heading.{Heading}
use Rattle.dbpl_tree.specs.declared.heading.Params.{Params}
use Rattle.dbpl_tree.specs.declared.heading.Section.{Section}
use Rattle.dbpl_tree.specs.declared.heading.Signature.{Signature}
use Rattle.dbpl_tree.specs.declared.ident.Ident.{Ident}
use Rattle.dbpl_tree.specs.declared.ident.Idents.{Idents}
use Rattle.dbpl_tree.specs.declared.ident.Qual.{Qual}
use Rattle.dbpl_tree.specs.declared.range.Range.{Range, Range-F, out-Range}
use Rattle.dbpl_tree.specs.declared.simple.AddedOf.{AddedOf}
use Rattle.dbpl_tree.specs.declared.simple.SimpleOf.{SimpleOf}
use Rattle.dbpl_tree.specs.declared.statement.Statement.{Statement, Statement-F, out-Statement}
use Rattle.dbpl_tree.specs.declared.statement.Statement.TheOpen as kinds
use Rattle.dbpl_tree.specs.declared.statements.StatementsOf.{StatementsOf}
use Rattle.dbpl_tree.specs.declared.term.MultipliedOf.{MultipliedOf}
use Rattle.dbpl_tree.specs.declared.term.TermOf.{TermOf}
use Rattle.dbpl_tree.specs.declared.type_tree.FieldsOf.{FieldsOf}
use Rattle.dbpl_tree.specs.declared.type_tree.FieldsOf.TheVariants as fields
use Rattle.dbpl_tree.specs.declared.type_tree.TypeTree.{TypeTree, TypeTree-F, out-TypeTree}
use Rattle.dbpl_tree.specs.declared.type_tree.TypeTree.TheOpen as types
use Rattle.dbpl_tree.specs.declared.unit.Import.{Import}
use Rattle.dbpl_tree.specs.declared.unit.Import.TheVariants as imports
use Rattle.dbpl_tree.specs.declared.unit.Unit.{Unit}
use Rattle.dbpl_tree.specs.declared.unit.Unit.TheVariants as units

-- the phrase of these marks begins at this place
abbrev pub BeginsAt : List Mark → Place → Type 0
BeginsAt marks place = first_place marks ≡ Some place

-- there is a first token, and it stands at this place
abbrev pub StartsAt : List Token → Place → Type 0
StartsAt [] place = ⊥
StartsAt (token ∷ tokens) place = token.place ≡ place

pub first-token :
    (tokens : List Token) (marks : List Mark) (rest : List Token) (place : Place) → BeginsAt marks place →
    Meets tokens marks rest → StartsAt tokens place
first-token tokens [] rest place begins meets = absurd (cc begins)
first-token tokens (Of lexeme ∷ marks) rest place begins meets = absurd (cc begins)
first-token [] (Before other ∷ marks) rest place begins meets = absurd meets
first-token (token ∷ tokens) (Before other ∷ marks) rest place begins meets = meets.0 ∙ cc begins

pub begins-join : (front back : List Mark) (place : Place) → BeginsAt front place → BeginsAt (front ++ back) place
begins-join [] back place begins = absurd (cc begins)
begins-join (Of lexeme ∷ front) back place begins = absurd (cc begins)
begins-join (Before other ∷ front) back place begins = begins

-- ---- names

pub ident-first : (x : Ident) → BeginsAt (ident_marks x) x.place
ident-first x = refl

pub idents-first : (xs : Idents) → BeginsAt (idents_marks xs) (idents_place xs)
idents-first xs = refl

pub qual-first : (q : Qual) → BeginsAt (qual_marks q) (qual_place q)
qual-first q = refl

-- ---- expressions

module _ {F : Type 0} (w : F → List Mark) where
  pub multiplied-first : (m : MultipliedOf F) → BeginsAt (multiplied_marks w m) m.place
  multiplied-first m = refl

  pub term-first : (t : TermOf F) → BeginsAt (term_marks w t) t.place
  term-first t = refl

  pub added-first : (a : AddedOf F) → BeginsAt (added_marks w a) a.place
  added-first a = refl

  pub simple-first : (s : SimpleOf F) → BeginsAt (simple_marks w s) s.place
  simple-first s = refl

  pub compared-first : (c : ComparedOf F) → BeginsAt (compared_marks w c) c.place
  compared-first c = refl

  pub expr-first : (e : ExprOf F) → BeginsAt (expr_marks w e) e.place
  expr-first e = refl

  pub exprs-first : (es : ExprsOf F) → BeginsAt (exprs_marks w es) (exprs_place es)
  exprs-first es = refl

  pub designator-first : (d : DesignatorOf F) → BeginsAt (designator_marks w d) (designator_place d)
  designator-first d = refl

  pub arguments-first : (a : ArgumentsOf F) → BeginsAt (arguments_marks w a) a.place
  arguments-first a = refl

pub aggregate-first : (a : Aggregate) → BeginsAt (aggregate_marks a) (aggregate_place a)
aggregate-first a = ap first_place (aggregate_marks-out a)

factor-level-first :
    (x : Factor-F Element Factor Range Aggregate Each) → BeginsAt (factor_level spelling x) (factor_level_place x)
factor-level-first (phrases.Number place n) = refl
factor-level-first (phrases.CharCode place n) = refl
factor-level-first (phrases.Text place text) = refl
factor-level-first (phrases.Factor::Aggregate a) = aggregate-first a
factor-level-first (phrases.Factor::Designator d a) = refl
factor-level-first (phrases.Parenthesized place e) = refl
factor-level-first (phrases.Not place operator f) = refl
factor-level-first (phrases.Quantified place quantifier x r e) = refl

pub factor-first : (f : Factor) → BeginsAt (factor_marks f) (factor_place f)
factor-first f = ap first_place (factor_marks-out f) ∙ factor-level-first (out-Factor f)

range-level-first :
    (x : Range-F Element Factor Range Aggregate Each) → BeginsAt (range_level spelling x) (range_level_place x)
range-level-first (phrases.Range::Designator d) = refl
range-level-first (phrases.Range::Aggregate a) = aggregate-first a

pub range-first : (r : Range) → BeginsAt (range_marks r) (range_place r)
range-first r = ap first_place (range_marks-out r) ∙ range-level-first (out-Range r)

pub each-first : (c : Each) → BeginsAt (each_marks c) c.place
each-first c = ap first_place (each_marks-out c)

element-level-first :
    (x : Element-F Element Factor Range Aggregate Each) → BeginsAt (element_level spelling x) (element_level_place x)
element-level-first (phrases.Each c e) = begins-join (each_marks c) _ c.place (each-first c)
element-level-first (phrases.Plain e) = refl
element-level-first (phrases.Of target c cs e) = refl

pub element-first : (e : Element) → BeginsAt (element_marks e) (element_place e)
element-first e = ap first_place (element_marks-out e) ∙ element-level-first (out-Element e)

-- ---- types

type-level-first : (x : TypeTree-F TypeTree) → BeginsAt (type_level type_marks x) (type_level_place x)
type-level-first (types.Named q) = refl
type-level-first (types.Enumeration place names) = refl
type-level-first (types.Subrange place low high) = refl
type-level-first (types.Array place index others element) = refl
type-level-first (types.Record place first others) = refl
type-level-first (types.Relation place keys q) = refl

pub type-first : (t : TypeTree) → BeginsAt (type_marks t) (type_place t)
type-first t = ap first_place (type_marks-out t) ∙ type-level-first (out-TypeTree t)

pub fields-first : {T : Type 0} (w : T → List Mark) (x : FieldsOf T) → BeginsAt (fields_marks w x) (fields_place x)
fields-first w (fields.Empty place) = refl
fields-first w (fields.Fields names t) = refl

-- ---- statements

pub label-first : (x : Label) → BeginsAt (label_marks x) (label_place x)
label-first x = refl

pub case-first : {S : Type 0} (w : S → List Mark) (c : CaseOf S) → BeginsAt (case_marks w c) (case_place c)
case-first w (cases.Empty place) = refl
case-first w (cases.Labelled first others body) = refl

statement-level-first :
    (x : Statement-F Statement) → BeginsAt (statement_level statement_marks x) (statement_level_place x)
statement-level-first (kinds.Empty place) = refl
statement-level-first (kinds.Change target place operator e) = refl
statement-level-first (kinds.Call d a) = refl
statement-level-first (kinds.If place e body elsifs otherwise) = refl
statement-level-first (kinds.Case place e first others otherwise) = refl
statement-level-first (kinds.While place e body) = refl
statement-level-first (kinds.Repeat place body e) = refl
statement-level-first (kinds.Loop place body) = refl
statement-level-first (kinds.Exit place) = refl
statement-level-first (kinds.Return place e) = refl
statement-level-first (kinds.For place x first last step body) = refl
statement-level-first (kinds.ForEach place each x r e body) = refl

pub statement-first : (s : Statement) → BeginsAt (statement_marks s) (statement_place s)
statement-first s = ap first_place (statement_marks-out s) ∙ statement-level-first (out-Statement s)

pub statements-first : (ss : StatementsOf Statement) → BeginsAt (statements_marks statement_marks ss) (statements_place ss)
statements-first ss = begins-join (statement_marks ss.first) _ (statement_place ss.first) (statement-first ss.first)

-- ---- declarations

pub const-first : (d : ConstDecl) → BeginsAt (const_marks d) (const_place d)
const-first d = refl

pub type-decl-first : (d : TypeDecl) → BeginsAt (type_decl_marks d) (type_decl_place d)
type-decl-first d = refl

pub var-first : (d : VarDecl) → BeginsAt (var_marks d) (var_place d)
var-first d = refl

pub plain-first : (d : PlainDecl) → BeginsAt (plain_marks d) (plain_place d)
plain-first (plain.Const place ds) = refl
plain-first (plain.Type place ds) = refl
plain-first (plain.Var place ds) = refl

pub common-first : (d : Common) → BeginsAt (common_marks d) (common_place d)
common-first (common.Plain d) = plain-first d
common-first (common.Selector place name params x q e) = refl
common-first (common.Constructor place name params a) = refl

pub section-first : (x : Section) → BeginsAt (section_marks x) x.place
section-first x = refl

pub params-first : (ps : Params) → BeginsAt (params_marks ps) ps.place
params-first ps = refl

pub signature-first : (s : Signature) → BeginsAt (signature_marks s) (signature_place s)
signature-first s = refl

pub heading-first : (h : Heading) → BeginsAt (heading_marks h) h.place
heading-first h = refl

pub routine-first : (r : Routine) → BeginsAt (routine_marks r) (routine_place r)
routine-first r = refl

pub decl-first : (d : Decl) → BeginsAt (decl_marks d) (decl_place d)
decl-first (decl.Common d) = common-first d
decl-first (decl.Routine r) = refl

pub item-first : (d : DefinitionItem) → BeginsAt (item_marks d) (item_place d)
item-first (item.Common d) = common-first d
item-first (item.Heading h) = refl

-- ---- modules

pub import-first : (x : Import) → BeginsAt (import_marks x) (import_place x)
import-first (imports.Whole place names) = refl
import-first (imports.From place from names) = refl

pub unit-first : (unit : Unit) → BeginsAt (unit_marks unit) (unit_place unit)
unit-first (units.Program p) = refl
unit-first (units.Implementation place p) = refl
unit-first (units.Definition d) = refl
unit-first (units.Data d) = refl

pub text-first : (unit : Unit) → BeginsAt (text_marks unit) (unit_place unit)
text-first unit = begins-join (unit_marks unit) _ (unit_place unit) (unit-first unit)
