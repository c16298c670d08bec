-- A tree of each production of types, statements, declarations and modules, with its spelling written out by hand from
-- the grammar.
use Rattle.std.proofs.Common.{◌≡◌, ℕ, true, false, [], ◌∷◌, Some, None, refl}
use Rattle.std.specs.Prelude.{codes}
use Rattle.dbpl_base.specs.declared.lexeme.Lexeme.{Lexeme}
use Rattle.dbpl_base.specs.declared.lexeme.Lexeme.TheVariants as lexemes
use Rattle.dbpl_base.specs.declared.place.Place.{Place}
use Rattle.dbpl_base.specs.declared.token.Token.{Token}
use Rattle.dbpl_tree.proofs.Examples.{a, a_b, b, b_a, d1, e1, one-marks, p, q1, r1, r1-marks, the_1, the_a, the_b, q1-marks}
use Rattle.dbpl_tree.proofs.StatementLevels.{statement_marks-roll, type_marks-roll}
use Rattle.dbpl_tree.specs.Declarations.{common_marks, decl_marks, heading_marks, item_marks, plain_marks}
use Rattle.dbpl_tree.specs.Marks.{Of, Before, lexemes_in}
use Rattle.dbpl_tree.specs.Statements.{statement_marks, statements_marks}
use Rattle.dbpl_tree.specs.TypeTrees.{type_marks}
use Rattle.dbpl_tree.specs.Units.{SpellsUnit, import_marks, spell}
use Rattle.dbpl_tree.specs.Words as words
use Rattle.dbpl_tree.specs.declared.case.CaseOf.{CaseOf}
use Rattle.dbpl_tree.specs.declared.case.CaseOf.TheVariants as cases
use Rattle.dbpl_tree.specs.declared.decl.Common.TheVariants as common
use Rattle.dbpl_tree.specs.declared.decl.Decl.TheVariants as decl
use Rattle.dbpl_tree.specs.declared.decl.DefinitionItem.TheVariants as item
use Rattle.dbpl_tree.specs.declared.decl.PlainDecl.TheVariants as plain
use Rattle.dbpl_tree.specs.declared.heading.Heading.{Heading}
use Rattle.dbpl_tree.specs.declared.heading.Params.{Params}
use Rattle.dbpl_tree.specs.declared.heading.RoutineWord.TheVariants as routine
use Rattle.dbpl_tree.specs.declared.ident.Qual.{Qual}
use Rattle.dbpl_tree.specs.declared.operators.ChangeOperator.TheVariants as change
use Rattle.dbpl_tree.specs.declared.statement.Statement.{Statement, roll-Statement}
use Rattle.dbpl_tree.specs.declared.statement.Statement.TheOpen as kinds
use Rattle.dbpl_tree.specs.declared.statements.StatementsOf.{StatementsOf}
use Rattle.dbpl_tree.specs.declared.type_tree.FieldsOf.TheVariants as fields
use Rattle.dbpl_tree.specs.declared.type_tree.TypeTree.{TypeTree, roll-TypeTree}
use Rattle.dbpl_tree.specs.declared.type_tree.TypeTree.TheOpen as types
use Rattle.dbpl_tree.specs.declared.unit.Import.TheVariants as imports
use Rattle.dbpl_tree.specs.declared.unit.Program.{Program}
use Rattle.dbpl_tree.specs.declared.unit.Unit.TheVariants as units

-- ---- types

abbrev pub only_a : Qual
only_a = record { first = a; second = None }

-- a
unfoldable pub t1 : TypeTree
t1 = roll-TypeTree (types.Named only_a)

pub t1-marks : type_marks t1 ≡ Before p ∷ Of the_a ∷ []
unfolding t1
t1-marks = type_marks-roll (types.Named only_a)

-- ( a , b )
pub enumeration :
    lexemes_in (type_marks (roll-TypeTree (types.Enumeration p a_b)))
    ≡ words.left_parenthesis ∷ the_a ∷ words.comma ∷ the_b ∷ words.right_parenthesis ∷ []
enumeration = rw (type_marks-roll (types.Enumeration p a_b)) refl

-- [ 1 .. 1 ]
pub subrange :
    lexemes_in (type_marks (roll-TypeTree (types.Subrange p e1 e1)))
    ≡ words.left_bracket ∷ the_1 ∷ words.ellipsis ∷ the_1 ∷ words.right_bracket ∷ []
subrange = rw (type_marks-roll (types.Subrange p e1 e1), one-marks) refl

-- ARRAY a , a OF a
pub array :
    lexemes_in (type_marks (roll-TypeTree (types.Array p t1 (t1 ∷ []) t1)))
    ≡ words.word_array ∷ the_a ∷ words.comma ∷ the_a ∷ words.word_of ∷ the_a ∷ []
array = rw (type_marks-roll (types.Array p t1 (t1 ∷ []) t1), t1-marks) refl

-- RECORD a , b : a ; END
pub record_with_an_empty_phrase :
    lexemes_in (type_marks (roll-TypeTree (types.Record p (fields.Fields a_b t1) (fields.Empty p ∷ []))))
    ≡ words.word_record ∷ the_a ∷ words.comma ∷ the_b ∷ words.colon ∷ the_a ∷ words.semicolon ∷ words.word_end ∷ []
record_with_an_empty_phrase =
    rw (type_marks-roll (types.Record p (fields.Fields a_b t1) (fields.Empty p ∷ [])), t1-marks) refl

-- RELATION a , b OF b . a
pub relation :
    lexemes_in (type_marks (roll-TypeTree (types.Relation p a_b b_a)))
    ≡ words.word_relation ∷ the_a ∷ words.comma ∷ the_b ∷ words.word_of ∷ the_b ∷ words.full_stop ∷ the_a ∷ []
relation = rw (type_marks-roll (types.Relation p a_b b_a)) refl

-- ---- statements

-- EXIT
unfoldable pub s1 : Statement
s1 = roll-Statement (kinds.Exit p)

abbrev pub exit : Lexeme
exit = words.word_exit

pub s1-marks : statement_marks s1 ≡ Before p ∷ Of exit ∷ []
unfolding s1
s1-marks = statement_marks-roll (kinds.Exit p)

-- the empty statement
unfoldable pub s0 : Statement
s0 = roll-Statement (kinds.Empty p)

pub s0-marks : statement_marks s0 ≡ Before p ∷ []
unfolding s0
s0-marks = statement_marks-roll (kinds.Empty p)

abbrev pub ss : StatementsOf Statement
ss = record { first = s1; others = [] }

-- EXIT ; with the empty statement behind it
pub statements :
    lexemes_in (statements_marks statement_marks (record { first = s1; others = s0 ∷ [] }))
    ≡ exit ∷ words.semicolon ∷ []
statements = rw (s1-marks, s0-marks) refl

-- a :- 1
pub change_of_a :
    lexemes_in (statement_marks (roll-Statement (kinds.Change d1 p change.Remove e1)))
    ≡ the_a ∷ words.remove_sign ∷ the_1 ∷ []
change_of_a = rw (statement_marks-roll (kinds.Change d1 p change.Remove e1), one-marks) refl

-- a
pub call :
    lexemes_in (statement_marks (roll-Statement (kinds.Call d1 None))) ≡ the_a ∷ []
call = rw (statement_marks-roll (kinds.Call d1 None)) refl

-- a ( 1 )
pub call_with :
    lexemes_in (statement_marks (roll-Statement (kinds.Call d1
    (Some (record { place = p; exprs = Some (record { first = e1; others = [] }) })))))
    ≡ the_a ∷ words.left_parenthesis ∷ the_1 ∷ words.right_parenthesis ∷ []
call_with =
    rw (
      statement_marks-roll (kinds.Call d1
          (Some (record { place = p; exprs = Some (record { first = e1; others = [] }) }))),
      one-marks,
    ) refl

-- IF 1 THEN EXIT END
pub if_bare :
    lexemes_in (statement_marks (roll-Statement (kinds.If p e1 ss [] None)))
    ≡ words.word_if ∷ the_1 ∷ words.word_then ∷ exit ∷ words.word_end ∷ []
if_bare = rw (statement_marks-roll (kinds.If p e1 ss [] None), one-marks, s1-marks) refl

-- IF 1 THEN EXIT ELSIF 1 THEN EXIT ELSE EXIT END
pub if_whole :
    lexemes_in (statement_marks (roll-Statement (kinds.If p e1 ss (record { condition = e1; body = ss } ∷ []) (Some ss))))
    ≡ words.word_if ∷ the_1 ∷ words.word_then ∷ exit ∷ words.word_elsif ∷ the_1 ∷ words.word_then ∷ exit ∷
    words.word_else ∷ exit ∷ words.word_end ∷ []
if_whole =
    rw (
      statement_marks-roll (kinds.If p e1 ss (record { condition = e1; body = ss } ∷ []) (Some ss)),
      one-marks,
      s1-marks,
    ) refl

-- CASE 1 OF 1 , 1 .. 1 : EXIT | ELSE EXIT END
abbrev first_case : CaseOf Statement
first_case =
    cases.Labelled (record { low = e1; high = None }) (record { low = e1; high = Some e1 } ∷ []) ss

pub case_whole :
    lexemes_in (statement_marks (roll-Statement (kinds.Case p e1 first_case (cases.Empty p ∷ []) (Some ss))))
    ≡ words.word_case ∷ the_1 ∷ words.word_of ∷ the_1 ∷ words.comma ∷ the_1 ∷ words.ellipsis ∷ the_1 ∷ words.colon ∷
    exit ∷ words.bar ∷ words.word_else ∷ exit ∷ words.word_end ∷ []
case_whole =
    rw (statement_marks-roll (kinds.Case p e1 first_case (cases.Empty p ∷ []) (Some ss)), one-marks, s1-marks) refl

-- WHILE 1 DO EXIT END
pub while_loop :
    lexemes_in (statement_marks (roll-Statement (kinds.While p e1 ss)))
    ≡ words.word_while ∷ the_1 ∷ words.word_do ∷ exit ∷ words.word_end ∷ []
while_loop = rw (statement_marks-roll (kinds.While p e1 ss), one-marks, s1-marks) refl

-- REPEAT EXIT UNTIL 1
pub repeat_loop :
    lexemes_in (statement_marks (roll-Statement (kinds.Repeat p ss e1)))
    ≡ words.word_repeat ∷ exit ∷ words.word_until ∷ the_1 ∷ []
repeat_loop = rw (statement_marks-roll (kinds.Repeat p ss e1), one-marks, s1-marks) refl

-- LOOP EXIT END
pub endless_loop :
    lexemes_in (statement_marks (roll-Statement (kinds.Loop p ss))) ≡ words.word_loop ∷ exit ∷ words.word_end ∷ []
endless_loop = rw (statement_marks-roll (kinds.Loop p ss), s1-marks) refl

-- RETURN and RETURN 1
pub return_bare :
    lexemes_in (statement_marks (roll-Statement (kinds.Return p None))) ≡ words.word_return ∷ []
return_bare = rw (statement_marks-roll (kinds.Return p None)) refl

pub return_with :
    lexemes_in (statement_marks (roll-Statement (kinds.Return p (Some e1)))) ≡ words.word_return ∷ the_1 ∷ []
return_with = rw (statement_marks-roll (kinds.Return p (Some e1)), one-marks) refl

-- FOR a := 1 TO 1 BY 1 DO EXIT END
pub for_by :
    lexemes_in (statement_marks (roll-Statement (kinds.For p a e1 e1 (Some e1) ss)))
    ≡ words.word_for ∷ the_a ∷ words.becomes_sign ∷ the_1 ∷ words.word_to ∷ the_1 ∷ words.word_by ∷ the_1 ∷
    words.word_do ∷ exit ∷ words.word_end ∷ []
for_by = rw (statement_marks-roll (kinds.For p a e1 e1 (Some e1) ss), one-marks, s1-marks) refl

-- FOR a := 1 TO 1 DO EXIT END
pub for_bare :
    lexemes_in (statement_marks (roll-Statement (kinds.For p a e1 e1 None ss)))
    ≡ words.word_for ∷ the_a ∷ words.becomes_sign ∷ the_1 ∷ words.word_to ∷ the_1 ∷ words.word_do ∷ exit ∷
    words.word_end ∷ []
for_bare = rw (statement_marks-roll (kinds.For p a e1 e1 None ss), one-marks, s1-marks) refl

-- FOR EACH b IN a : 1 DO EXIT END
pub for_each :
    lexemes_in (statement_marks (roll-Statement (kinds.ForEach p p b r1 e1 ss)))
    ≡ words.word_for ∷ words.word_each ∷ the_b ∷ words.word_in ∷ the_a ∷ words.colon ∷ the_1 ∷ words.word_do ∷ exit ∷
    words.word_end ∷ []
for_each = rw (statement_marks-roll (kinds.ForEach p p b r1 e1 ss), r1-marks, one-marks, s1-marks) refl

-- ---- declarations

-- ( VAR a , b : a ; b : a )
abbrev params : Params
params = record {
  place = p;
  sections =
      record { place = p; by_reference = true; names = a_b; kind = only_a } ∷
      record { place = p; by_reference = false; names = record { first = b; others = [] }; kind = only_a } ∷ [];
}

-- PROCEDURE a ( VAR a , b : a ; b : a ) : b . a
abbrev heading : Heading
heading = record {
  place = p;
  word = routine.Procedure;
  name = a;
  signature = Some (record { params = params; result = Some b_a });
}

pub heading_of_procedure :
    lexemes_in (heading_marks heading)
    ≡ words.word_procedure ∷ the_a ∷ words.left_parenthesis ∷ words.word_var ∷ the_a ∷ words.comma ∷ the_b ∷
    words.colon ∷ the_a ∷ words.semicolon ∷ the_b ∷ words.colon ∷ the_a ∷ words.right_parenthesis ∷ words.colon ∷
    the_b ∷ words.full_stop ∷ the_a ∷ []
heading_of_procedure = refl

-- TRANSACTION a ;
pub heading_of_transaction :
    lexemes_in (item_marks (item.Heading (record { place = p; word = routine.Transaction; name = a; signature = None })))
    ≡ words.word_transaction ∷ the_a ∷ words.semicolon ∷ []
heading_of_transaction = refl

-- CONST a = 1 ; b = 1 ;
pub constants :
    lexemes_in (plain_marks (plain.Const p (record { name = a; value = e1 } ∷ record { name = b; value = e1 } ∷ [])))
    ≡ words.word_const ∷ the_a ∷ words.equal_sign ∷ the_1 ∷ words.semicolon ∷ the_b ∷ words.equal_sign ∷ the_1 ∷
    words.semicolon ∷ []
constants = rw one-marks refl

-- TYPE b = a ;
pub type_names :
    lexemes_in (plain_marks (plain.Type p (record { name = b; kind = t1 } ∷ [])))
    ≡ words.word_type ∷ the_b ∷ words.equal_sign ∷ the_a ∷ words.semicolon ∷ []
type_names = rw t1-marks refl

-- VAR a , b : a ;
pub variables :
    lexemes_in (plain_marks (plain.Var p (record { names = a_b; kind = t1 } ∷ [])))
    ≡ words.word_var ∷ the_a ∷ words.comma ∷ the_b ∷ words.colon ∷ the_a ∷ words.semicolon ∷ []
variables = rw t1-marks refl

-- SELECTOR a FOR b IN b . a : 1 ;
pub selector :
    lexemes_in (common_marks (common.Selector p a None b b_a e1))
    ≡ words.word_selector ∷ the_a ∷ words.word_for ∷ the_b ∷ words.word_in ∷ the_b ∷ words.full_stop ∷ the_a ∷
    words.colon ∷ the_1 ∷ words.semicolon ∷ []
selector = rw one-marks refl

-- CONSTRUCTOR a ( ) : b . a { 1 , 1 } ;
pub constructor_of_a :
    lexemes_in (common_marks (common.Constructor p a (Some (record { place = p; sections = [] })) q1))
    ≡ words.word_constructor ∷ the_a ∷ words.left_parenthesis ∷ words.right_parenthesis ∷ words.colon ∷
    the_b ∷ words.full_stop ∷ the_a ∷ words.left_brace ∷ the_1 ∷ words.comma ∷ the_1 ∷ words.right_brace ∷
    words.semicolon ∷ []
constructor_of_a = rw q1-marks refl

-- TRANSACTION a ; VAR BEGIN EXIT END a ;
pub routine_of_a :
    lexemes_in (decl_marks (decl.Routine (record {
      heading = record { place = p; word = routine.Transaction; name = a; signature = None };
      declarations = plain.Var p [] ∷ [];
      body = Some ss;
      end = p;
      end_name = a;
    })))
    ≡ words.word_transaction ∷ the_a ∷ words.semicolon ∷ words.word_var ∷ words.word_begin ∷ exit ∷ words.word_end ∷
    the_a ∷ words.semicolon ∷ []
routine_of_a = rw s1-marks refl

-- ---- modules

pub import_whole :
    lexemes_in (import_marks (imports.Whole p a_b)) ≡ words.word_import ∷ the_a ∷ words.comma ∷ the_b ∷ words.semicolon ∷ []
import_whole = refl

pub import_from :
    lexemes_in (import_marks (imports.From p b a_b))
    ≡ words.word_from ∷ the_b ∷ words.word_import ∷ the_a ∷ words.comma ∷ the_b ∷ words.semicolon ∷ []
import_from = refl

-- MODULE a ; IMPORT b ; TYPE BEGIN EXIT END a .
abbrev program : Program
program = record {
  place = p;
  name = a;
  imports = imports.Whole p (record { first = b; others = [] }) ∷ [];
  declarations = decl.Common (common.Plain (plain.Type p [])) ∷ [];
  body = Some ss;
  end_name = a;
}

pub program_module :
    spell (units.Program program)
    ≡ words.word_module ∷ the_a ∷ words.semicolon ∷ words.word_import ∷ the_b ∷ words.semicolon ∷ words.word_type ∷
    words.word_begin ∷ exit ∷ words.word_end ∷ the_a ∷ words.full_stop ∷ lexemes.Finish ∷ []
program_module = rw s1-marks refl

pub implementation_module :
    spell (units.Implementation p program) ≡ words.word_implementation ∷ spell (units.Program program)
implementation_module = refl

-- DEFINITION MODULE a ; CONST END a .
pub definition_module :
    spell (units.Definition (record {
      place = p;
      name = a;
      imports = [];
      items = item.Common (common.Plain (plain.Const p [])) ∷ [];
      end_name = a;
    }))
    ≡ words.word_definition ∷ words.word_module ∷ the_a ∷ words.semicolon ∷ words.word_const ∷ words.word_end ∷ the_a ∷
    words.full_stop ∷ lexemes.Finish ∷ []
definition_module = refl

-- DATABASE MODULE a ; IMPORT a , b ; END a .
pub data_module :
    spell (units.Data (record { place = p; name = a; imports = imports.Whole p a_b ∷ []; items = []; end_name = a }))
    ≡ words.word_database ∷ words.word_module ∷ the_a ∷ words.semicolon ∷ words.word_import ∷ the_a ∷ words.comma ∷
    the_b ∷ words.semicolon ∷ words.word_end ∷ the_a ∷ words.full_stop ∷ lexemes.Finish ∷ []
data_module = refl

-- ---- places

abbrev at : ℕ → Place
at column = record { unit = 0; line = 1; col = column }

abbrev token : Lexeme → ℕ → Token
token lexeme column = record { lexeme = lexeme; place = at column }

-- `MODULE a; BEGIN END a.`: the tree keeps the place of each name, that of MODULE, and for the empty statement that of
-- the word END behind it.
abbrev small : Program
small = record {
  place = at 1;
  name = record { place = at 8; name = codes "a" };
  imports = [];
  declarations = [];
  body = Some (record { first = roll-Statement (kinds.Empty (at 17)); others = [] });
  end_name = record { place = at 21; name = codes "a" };
}

pub small_is_spelled :
    SpellsUnit
    (token words.word_module 1 ∷ token the_a 8 ∷ token words.semicolon 9 ∷ token words.word_begin 11 ∷
    token words.word_end 17 ∷ token the_a 21 ∷ token words.full_stop 22 ∷ token lexemes.Finish 23 ∷ [])
    (units.Program small)
small_is_spelled =
    rw (statement_marks-roll (kinds.Empty (at 17)))
    (refl, (refl, (refl, (refl, (refl, (refl, (refl, (refl, (refl, (refl, (refl, (refl, refl))))))))))))
