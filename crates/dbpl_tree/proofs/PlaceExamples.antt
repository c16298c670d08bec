-- A tree of each production that keeps no place of its own, with the column of its first token. Each begins at column 5 of
-- line 1, and what else it keeps stands behind that.
use Rattle.std.proofs.Common.{◌≡◌, ℕ, ◌+◌, [], ◌∷◌, Some, None, refl, ap, ◌∙◌}
use Rattle.std.specs.Prelude.{codes}
use Rattle.dbpl_base.specs.declared.place.Place.{Place}
use Rattle.dbpl_tree.specs.FirstTokens.{aggregate_place, case_place, common_place, const_place, decl_place, designator_place, element_level_place, element_place, exprs_place, factor_level_place, factor_place, fields_place, idents_place, import_place, item_place, label_place, plain_place, qual_place, range_level_place, range_place, routine_place, signature_place, statement_level_place, statement_place, statements_place, type_decl_place, type_level_place, type_place, unit_place, var_place}
use Rattle.dbpl_tree.specs.declared.aggregate.Aggregate.{Aggregate, roll-Aggregate}
use Rattle.dbpl_tree.specs.declared.case.CaseOf.{CaseOf}
use Rattle.dbpl_tree.specs.declared.case.CaseOf.TheVariants as cases
use Rattle.dbpl_tree.specs.declared.case.Label.{Label}
use Rattle.dbpl_tree.specs.declared.decl.Common.TheVariants as common
use Rattle.dbpl_tree.specs.declared.decl.Decl.TheVariants as decl
use Rattle.dbpl_tree.specs.declared.decl.DefinitionItem.TheVariants as item
use Rattle.dbpl_tree.specs.declared.decl.PlainDecl.{PlainDecl}
use Rattle.dbpl_tree.specs.declared.decl.PlainDecl.TheVariants as plain
use Rattle.dbpl_tree.specs.declared.decl.Routine.{Routine}
use Rattle.dbpl_tree.specs.declared.designator.DesignatorOf.{DesignatorOf}
use Rattle.dbpl_tree.specs.declared.designator.PartOf.TheVariants as parts
use Rattle.dbpl_tree.specs.declared.each.Each.{Each, roll-Each}
use Rattle.dbpl_tree.specs.declared.element.Element.{Element, Element-F, out-roll-Element, roll-Element}
use Rattle.dbpl_tree.specs.declared.element.Element.TheOpen as phrases
use Rattle.dbpl_tree.specs.declared.expr.ExprOf.{ExprOf}
use Rattle.dbpl_tree.specs.declared.factor.Factor.{Factor, Factor-F, out-roll-Factor, roll-Factor}
use Rattle.dbpl_tree.specs.declared.heading.Heading.{Heading}
use Rattle.dbpl_tree.specs.declared.heading.RoutineWord.TheVariants as routine
use Rattle.dbpl_tree.specs.declared.ident.Ident.{Ident}
use Rattle.dbpl_tree.specs.declared.ident.Idents.{Idents}
use Rattle.dbpl_tree.specs.declared.ident.Qual.{Qual}
use Rattle.dbpl_tree.specs.declared.operators.ChangeOperator.TheVariants as change
use Rattle.dbpl_tree.specs.declared.operators.NotOperator.TheVariants as negation
use Rattle.dbpl_tree.specs.declared.operators.Quantifier.TheVariants as quantifier
use Rattle.dbpl_tree.specs.declared.range.Range.{Range, Range-F, out-roll-Range, roll-Range}
use Rattle.dbpl_tree.specs.declared.statement.Statement.{Statement, Statement-F, out-roll-Statement, roll-Statement}
use Rattle.dbpl_tree.specs.declared.statement.Statement.TheOpen as kinds
use Rattle.dbpl_tree.specs.declared.statements.StatementsOf.{StatementsOf}
use Rattle.dbpl_tree.specs.declared.type_tree.FieldsOf.TheVariants as fields
use Rattle.dbpl_tree.specs.declared.type_tree.TypeTree.{TypeTree, TypeTree-F, out-roll-TypeTree, roll-TypeTree}
use Rattle.dbpl_tree.specs.declared.type_tree.TypeTree.TheOpen as types
use Rattle.dbpl_tree.specs.declared.unit.Import.TheVariants as imports
use Rattle.dbpl_tree.specs.declared.unit.Program.{Program}
use Rattle.dbpl_tree.specs.declared.unit.Unit.TheVariants as units

abbrev at : ℕ → Place
at column = record { unit = 0; line = 1; col = column }

-- ---- names

-- a, at a column
abbrev name : ℕ → Ident
name column = record { place = at column; name = codes "a" }

-- a , a
abbrev names : ℕ → Idents
names column = record { first = name column; others = name (column + 3) ∷ [] }

pub names_at_5 : idents_place (names 5) ≡ at 5
names_at_5 = refl

-- a . a
abbrev qual : ℕ → Qual
qual column = record { first = name column; second = Some (name (column + 2)) }

pub qual_at_5 : qual_place (qual 5) ≡ at 5
qual_at_5 = refl

-- ---- factors

factor_at :
    (x : Factor-F Element Factor Range Aggregate Each) (place : Place) → factor_level_place x ≡ place →
    factor_place (roll-Factor x) ≡ place
factor_at x place is = ap factor_level_place (out-roll-Factor x) ∙ is

-- 1
abbrev one : ℕ → Factor
one column = roll-Factor (phrases.Number (at column) 1)

abbrev expr : ℕ → ExprOf Factor
expr column = record {
  place = at column;
  left = record {
    place = at column;
    sign = None;
    first = record { place = at column; first = one column; others = [] };
    others = [];
  };
  right = None;
}

-- 1 , 1
pub exprs_at_5 : exprs_place (record { first = expr 5; others = expr 8 ∷ [] }) ≡ at 5
exprs_at_5 = refl

-- a . a
abbrev designator : ℕ → DesignatorOf Factor
designator column = record { head = name column; parts = parts.Field (name (column + 2)) ∷ [] }

pub designator_at_5 : designator_place (designator 5) ≡ at 5
designator_at_5 = refl

-- a . a { 1 }
abbrev aggregate : ℕ → Aggregate
aggregate column =
    roll-Aggregate (record {
      kind = qual column;
      elements = roll-Element (phrases.Plain (expr (column + 4))) ∷ [];
    })

pub aggregate_at_5 : aggregate_place (aggregate 5) ≡ at 5
aggregate_at_5 = refl

abbrev range : ℕ → Range
range column = roll-Range (phrases.Range::Designator (designator column))

pub number_at_5 : factor_place (one 5) ≡ at 5
number_at_5 = factor_at (phrases.Number (at 5) 1) (at 5) refl

pub character_at_5 : factor_place (roll-Factor (phrases.CharCode (at 5) 10)) ≡ at 5
character_at_5 = factor_at (phrases.CharCode (at 5) 10) (at 5) refl

pub string_at_5 : factor_place (roll-Factor (phrases.Text (at 5) (codes "a"))) ≡ at 5
string_at_5 = factor_at (phrases.Text (at 5) (codes "a")) (at 5) refl

pub aggregate_factor_at_5 : factor_place (roll-Factor (phrases.Factor::Aggregate (aggregate 5))) ≡ at 5
aggregate_factor_at_5 = factor_at (phrases.Factor::Aggregate (aggregate 5)) (at 5) aggregate_at_5

-- a . a ( )
pub call_at_5 :
    factor_place
    (roll-Factor (phrases.Factor::Designator (designator 5) (Some (record { place = at 8; exprs = None }))))
    ≡ at 5
call_at_5 =
    factor_at (phrases.Factor::Designator (designator 5) (Some (record { place = at 8; exprs = None }))) (at 5) refl

-- ( 1 )
pub parenthesized_at_5 : factor_place (roll-Factor (phrases.Parenthesized (at 5) (expr 6))) ≡ at 5
parenthesized_at_5 = factor_at (phrases.Parenthesized (at 5) (expr 6)) (at 5) refl

-- NOT 1
pub negation_at_5 : factor_place (roll-Factor (phrases.Not (at 5) negation.Not (one 9))) ≡ at 5
negation_at_5 = factor_at (phrases.Not (at 5) negation.Not (one 9)) (at 5) refl

-- SOME a IN a . a ( 1 )
pub quantified_at_5 :
    factor_place (roll-Factor (phrases.Quantified (at 5) quantifier.Exists (name 10) (range 15) (expr 20))) ≡ at 5
quantified_at_5 =
    factor_at (phrases.Quantified (at 5) quantifier.Exists (name 10) (range 15) (expr 20)) (at 5) refl

-- ---- ranges and elements

range_at :
    (x : Range-F Element Factor Range Aggregate Each) (place : Place) → range_level_place x ≡ place →
    range_place (roll-Range x) ≡ place
range_at x place is = ap range_level_place (out-roll-Range x) ∙ is

pub range_at_5 : range_place (range 5) ≡ at 5
range_at_5 = range_at (phrases.Range::Designator (designator 5)) (at 5) refl

pub aggregate_range_at_5 : range_place (roll-Range (phrases.Range::Aggregate (aggregate 5))) ≡ at 5
aggregate_range_at_5 = range_at (phrases.Range::Aggregate (aggregate 5)) (at 5) aggregate_at_5

-- EACH a IN a . a
abbrev each : ℕ → Each
each column = roll-Each (record { place = at column; variable = name (column + 5); range = range (column + 10) })

element_at :
    (x : Element-F Element Factor Range Aggregate Each) (place : Place) → element_level_place x ≡ place →
    element_place (roll-Element x) ≡ place
element_at x place is = ap element_level_place (out-roll-Element x) ∙ is

-- EACH a IN a . a : 1
pub each_at_5 : element_place (roll-Element (phrases.Each (each 5) (expr 21))) ≡ at 5
each_at_5 = element_at (phrases.Each (each 5) (expr 21)) (at 5) refl

-- 1
pub element_at_5 : element_place (roll-Element (phrases.Plain (expr 5))) ≡ at 5
element_at_5 = element_at (phrases.Plain (expr 5)) (at 5) refl

-- 1 OF EACH a IN a . a : 1
pub target_at_5 : element_place (roll-Element (phrases.Of (expr 5) (each 10) [] (expr 26))) ≡ at 5
target_at_5 = element_at (phrases.Of (expr 5) (each 10) [] (expr 26)) (at 5) refl

-- ---- types

type_at : (x : TypeTree-F TypeTree) (place : Place) → type_level_place x ≡ place → type_place (roll-TypeTree x) ≡ place
type_at x place is = ap type_level_place (out-roll-TypeTree x) ∙ is

-- a . a
abbrev named : ℕ → TypeTree
named column = roll-TypeTree (types.Named (qual column))

pub named_type_at_5 : type_place (named 5) ≡ at 5
named_type_at_5 = type_at (types.Named (qual 5)) (at 5) refl

-- ( a , a )
pub enumeration_at_5 : type_place (roll-TypeTree (types.Enumeration (at 5) (names 6))) ≡ at 5
enumeration_at_5 = type_at (types.Enumeration (at 5) (names 6)) (at 5) refl

-- [ 1 .. 1 ]
pub subrange_at_5 : type_place (roll-TypeTree (types.Subrange (at 5) (expr 6) (expr 9))) ≡ at 5
subrange_at_5 = type_at (types.Subrange (at 5) (expr 6) (expr 9)) (at 5) refl

-- ARRAY a . a OF a . a
pub array_at_5 : type_place (roll-TypeTree (types.Array (at 5) (named 11) [] (named 18))) ≡ at 5
array_at_5 = type_at (types.Array (at 5) (named 11) [] (named 18)) (at 5) refl

-- RECORD END
pub record_at_5 : type_place (roll-TypeTree (types.Record (at 5) (fields.Empty (at 12)) [])) ≡ at 5
record_at_5 = type_at (types.Record (at 5) (fields.Empty (at 12)) []) (at 5) refl

-- RELATION a , a OF a . a
pub relation_at_5 : type_place (roll-TypeTree (types.Relation (at 5) (names 14) (qual 22))) ≡ at 5
relation_at_5 = type_at (types.Relation (at 5) (names 14) (qual 22)) (at 5) refl

-- a , a : a . a
pub fields_at_5 : fields_place (fields.Fields (names 5) (named 12)) ≡ at 5
fields_at_5 = refl

-- no fields, before a token at column 5
pub no_fields_at_5 : fields_place {T = TypeTree} (fields.Empty (at 5)) ≡ at 5
no_fields_at_5 = refl

-- ---- statements

statement_at :
    (x : Statement-F Statement) (place : Place) → statement_level_place x ≡ place →
    statement_place (roll-Statement x) ≡ place
statement_at x place is = ap statement_level_place (out-roll-Statement x) ∙ is

-- EXIT
abbrev exit : ℕ → Statement
exit column = roll-Statement (kinds.Exit (at column))

abbrev body : ℕ → StatementsOf Statement
body column = record { first = exit column; others = [] }

-- an empty statement, before a token at column 5
pub empty_at_5 : statement_place (roll-Statement (kinds.Empty (at 5))) ≡ at 5
empty_at_5 = statement_at (kinds.Empty (at 5)) (at 5) refl

-- a . a := 1
pub change_at_5 : statement_place (roll-Statement (kinds.Change (designator 5) (at 9) change.Becomes (expr 12))) ≡ at 5
change_at_5 = statement_at (kinds.Change (designator 5) (at 9) change.Becomes (expr 12)) (at 5) refl

-- a . a ( )
pub call_statement_at_5 :
    statement_place (roll-Statement (kinds.Call (designator 5) (Some (record { place = at 8; exprs = None })))) ≡ at 5
call_statement_at_5 =
    statement_at (kinds.Call (designator 5) (Some (record { place = at 8; exprs = None }))) (at 5) refl

-- IF 1 THEN EXIT END
pub if_at_5 : statement_place (roll-Statement (kinds.If (at 5) (expr 8) (body 15) [] None)) ≡ at 5
if_at_5 = statement_at (kinds.If (at 5) (expr 8) (body 15) [] None) (at 5) refl

-- 1 .. 1
abbrev label : ℕ → Label
label column = record { low = expr column; high = Some (expr (column + 3)) }

pub label_at_5 : label_place (label 5) ≡ at 5
label_at_5 = refl

-- 1 .. 1 : EXIT
abbrev branch : ℕ → CaseOf Statement
branch column = cases.Labelled (label column) [] (body (column + 6))

pub branch_at_5 : case_place (branch 5) ≡ at 5
branch_at_5 = refl

-- no branch, before a token at column 5
pub no_branch_at_5 : case_place {S = Statement} (cases.Empty (at 5)) ≡ at 5
no_branch_at_5 = refl

-- CASE 1 OF 1 .. 1 : EXIT END
pub case_at_5 : statement_place (roll-Statement (kinds.Case (at 5) (expr 10) (branch 15) [] None)) ≡ at 5
case_at_5 = statement_at (kinds.Case (at 5) (expr 10) (branch 15) [] None) (at 5) refl

-- WHILE 1 DO EXIT END
pub while_at_5 : statement_place (roll-Statement (kinds.While (at 5) (expr 11) (body 16))) ≡ at 5
while_at_5 = statement_at (kinds.While (at 5) (expr 11) (body 16)) (at 5) refl

-- REPEAT EXIT UNTIL 1
pub repeat_at_5 : statement_place (roll-Statement (kinds.Repeat (at 5) (body 12) (expr 23))) ≡ at 5
repeat_at_5 = statement_at (kinds.Repeat (at 5) (body 12) (expr 23)) (at 5) refl

-- LOOP EXIT END
pub loop_at_5 : statement_place (roll-Statement (kinds.Loop (at 5) (body 10))) ≡ at 5
loop_at_5 = statement_at (kinds.Loop (at 5) (body 10)) (at 5) refl

pub exit_at_5 : statement_place (exit 5) ≡ at 5
exit_at_5 = statement_at (kinds.Exit (at 5)) (at 5) refl

-- RETURN 1
pub return_at_5 : statement_place (roll-Statement (kinds.Return (at 5) (Some (expr 12)))) ≡ at 5
return_at_5 = statement_at (kinds.Return (at 5) (Some (expr 12))) (at 5) refl

-- FOR a := 1 TO 1 DO EXIT END
pub for_at_5 : statement_place (roll-Statement (kinds.For (at 5) (name 9) (expr 14) (expr 19) None (body 24))) ≡ at 5
for_at_5 = statement_at (kinds.For (at 5) (name 9) (expr 14) (expr 19) None (body 24)) (at 5) refl

-- FOR EACH a IN a . a : 1 DO EXIT END
pub for_each_at_5 :
    statement_place (roll-Statement (kinds.ForEach (at 5) (at 9) (name 14) (range 19) (expr 25) (body 30))) ≡ at 5
for_each_at_5 =
    statement_at (kinds.ForEach (at 5) (at 9) (name 14) (range 19) (expr 25) (body 30)) (at 5) refl

-- EXIT ; EXIT
pub statements_at_5 : statements_place (record { first = exit 5; others = exit 11 ∷ [] }) ≡ at 5
statements_at_5 = exit_at_5

-- ---- declarations

-- a = 1 ;
pub constant_at_5 : const_place (record { name = name 5; value = expr 9 }) ≡ at 5
constant_at_5 = refl

-- a = a . a ;
pub type_decl_at_5 : type_decl_place (record { name = name 5; kind = named 9 }) ≡ at 5
type_decl_at_5 = refl

-- a , a : a . a ;
pub variables_at_5 : var_place (record { names = names 5; kind = named 12 }) ≡ at 5
variables_at_5 = refl

-- CONST a = 1 ;
pub constants_at_5 : plain_place (plain.Const (at 5) (record { name = name 11; value = expr 15 } ∷ [])) ≡ at 5
constants_at_5 = refl

-- TYPE a = a . a ;
pub types_at_5 : plain_place (plain.Type (at 5) (record { name = name 10; kind = named 14 } ∷ [])) ≡ at 5
types_at_5 = refl

-- VAR a , a : a . a ;
abbrev variables : ℕ → PlainDecl
variables column = plain.Var (at column) (record { names = names (column + 4); kind = named (column + 11) } ∷ [])

pub var_at_5 : plain_place (variables 5) ≡ at 5
var_at_5 = refl

pub plain_at_5 : common_place (common.Plain (variables 5)) ≡ at 5
plain_at_5 = refl

-- SELECTOR a FOR a IN a . a : 1 ;
pub selector_at_5 : common_place (common.Selector (at 5) (name 14) None (name 20) (qual 25) (expr 30)) ≡ at 5
selector_at_5 = refl

-- CONSTRUCTOR a : a . a { 1 } ;
pub constructor_at_5 : common_place (common.Constructor (at 5) (name 17) None (aggregate 20)) ≡ at 5
constructor_at_5 = refl

-- ( ) : a . a
pub signature_at_5 :
    signature_place (record { params = record { place = at 5; sections = [] }; result = Some (qual 9) }) ≡ at 5
signature_at_5 = refl

-- PROCEDURE a
abbrev heading : ℕ → Heading
heading column =
    record { place = at column; word = routine.Procedure; name = name (column + 10); signature = None }

-- PROCEDURE a ; BEGIN EXIT END a ;
abbrev procedure : Routine
procedure = record {
  heading = heading 5;
  declarations = [];
  body = Some (body 24);
  end = at 29;
  end_name = name 33;
}

pub routine_at_5 : routine_place procedure ≡ at 5
routine_at_5 = refl

pub routine_decl_at_5 : decl_place (decl.Routine procedure) ≡ at 5
routine_decl_at_5 = refl

pub common_decl_at_5 : decl_place (decl.Common (common.Plain (variables 5))) ≡ at 5
common_decl_at_5 = refl

pub heading_item_at_5 : item_place (item.Heading (heading 5)) ≡ at 5
heading_item_at_5 = refl

pub common_item_at_5 : item_place (item.Common (common.Plain (variables 5))) ≡ at 5
common_item_at_5 = refl

-- ---- modules

-- IMPORT a , a ;
pub import_at_5 : import_place (imports.Whole (at 5) (names 12)) ≡ at 5
import_at_5 = refl

-- FROM a IMPORT a , a ;
pub from_at_5 : import_place (imports.From (at 5) (name 10) (names 19)) ≡ at 5
from_at_5 = refl

-- MODULE a ; END a .
abbrev module_a : ℕ → Program
module_a column = record {
  place = at column;
  name = name (column + 7);
  imports = [];
  declarations = [];
  body = None;
  end_name = name (column + 14);
}

pub module_at_5 : unit_place (units.Program (module_a 5)) ≡ at 5
module_at_5 = refl

-- IMPLEMENTATION MODULE a ; END a .
pub implementation_at_5 : unit_place (units.Implementation (at 5) (module_a 20)) ≡ at 5
implementation_at_5 = refl

-- DEFINITION MODULE a ; END a .
pub definition_at_5 :
    unit_place (units.Definition (record { place = at 5; name = name 23; imports = []; items = []; end_name = name 30 }))
    ≡ at 5
definition_at_5 = refl

-- DATABASE MODULE a ; END a .
pub data_at_5 :
    unit_place (units.Data (record { place = at 5; name = name 21; imports = []; items = []; end_name = name 28 })) ≡ at 5
data_at_5 = refl
