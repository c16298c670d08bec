-- A tree that is a module that prints lines has the spelling of that module.
use Rattle.std.proofs.Common.{◌≡◌, ◌≢◌, ℕ, true, false, not, ◌&&◌, is_some, List, [], ◌∷◌, ◌++◌, Option, Some, None, option_and_then, option_map, refl, sym, ap, ap₂, ◌∙◌, append-nil, append_assoc, bytes_eq}
use Rattle.std.specs.List.{flat_map}
use Rattle.std.proofs.lemmas.Bool.{and_parts, false≢true, not-true}
use Rattle.dbpl_base.specs.declared.lexeme.Lexeme.{Lexeme}
use Rattle.dbpl_base.specs.declared.lexeme.Lexeme.TheVariants as lexemes
use Rattle.dbpl_base.specs.declared.place.Place.{Place}
use Rattle.dbpl_alone.proofs.Tests.{empty_is, name_is, same_bytes, under, unlike_imported}
use Rattle.dbpl_alone.specs.Program.{IsSmall, spell_module as small_spell, spell_statement, spell_statements}
use Rattle.dbpl_alone.specs.Small.{call_of, has_frame, in_front, is_imported, is_line_import, is_one_import, is_one_name, small_body, small_module, small_of, small_statement, small_statements, small_level}
use Rattle.dbpl_tree.specs.Plain.{argument_of, has_name, is_empty, is_factor, is_name, only_string, string_of, text_level}
use Rattle.dbpl_alone.specs.declared.program.Program.{Program}
use Rattle.dbpl_alone.specs.declared.statement.Statement.{Statement as Small}
use Rattle.dbpl_alone.specs.declared.statement.Statement.TheVariants.{WriteLn, WriteString}
use Rattle.dbpl_tree.proofs.Levels.{factor_marks-out}
use Rattle.dbpl_tree.proofs.Lexemes.{lexemes_in-join}
use Rattle.dbpl_tree.proofs.StatementLevels.{statement_marks-out}
use Rattle.dbpl_tree.specs.Declarations.{body_marks, decl_marks}
use Rattle.dbpl_tree.specs.Expressions.{arguments_marks, designator_marks, expr_marks, exprs_marks}
use Rattle.dbpl_tree.specs.Factors.{Spelling, factor_level, factor_marks, spelling}
use Rattle.dbpl_tree.specs.Marks.{Mark, Of, further_marks, lexemes_in, option_marks}
use Rattle.dbpl_tree.specs.Names.{ident_marks}
use Rattle.dbpl_tree.specs.Statements.{statement_level, statement_marks, statements_marks}
use Rattle.dbpl_tree.specs.Units.{ending_marks, import_marks, spell}
use Rattle.dbpl_tree.specs.Words.{comma, in_out, left_parenthesis, right_parenthesis, semicolon, word_begin, word_from, word_import, word_module, write_ln, write_string}
use Rattle.dbpl_tree.specs.declared.designator.ArgumentsOf.{ArgumentsOf}
use Rattle.dbpl_tree.specs.declared.designator.DesignatorOf.{DesignatorOf}
use Rattle.dbpl_tree.specs.declared.element.Element.TheOpen as phrases
use Rattle.dbpl_tree.specs.declared.expr.ExprOf.{ExprOf}
use Rattle.dbpl_tree.specs.declared.expr.ExprsOf.{ExprsOf}
use Rattle.dbpl_tree.specs.declared.factor.Factor.{Factor, Factor-F, out-Factor}
use Rattle.dbpl_tree.specs.declared.ident.Ident.{Ident}
use Rattle.dbpl_tree.specs.declared.statement.Statement.{Statement, Statement-F, out-Statement}
use Rattle.dbpl_tree.specs.declared.statement.Statement.TheOpen as kinds
use Rattle.dbpl_tree.specs.declared.statements.StatementsOf.{StatementsOf}
use Rattle.dbpl_tree.specs.declared.unit.Import.{Import}
use Rattle.dbpl_tree.specs.declared.unit.Import.TheVariants as imports
use Rattle.dbpl_tree.specs.declared.unit.Program.{Program as Module}
use Rattle.dbpl_tree.specs.declared.unit.Unit.{Unit as Tree}
use Rattle.dbpl_tree.specs.declared.unit.Unit.TheVariants as units

-- ---- strings

-- a factor that is a string
text-level : {E F R A C : Type 0} (s : Spelling E F R A C) (x : Factor-F E F R A C) (text : List ℕ) → text_level x ≡ Some text →
    lexemes_in (factor_level s x) ≡ lexemes.Text text ∷ []
text-level s (phrases.Text place other) text e = ap (λ (t : List ℕ). lexemes.Text t ∷ []) cc
text-level s _ text e = absurd (cc)

text-lexemes : (f : Factor) (text : List ℕ) → text_level (out-Factor f) ≡ Some text →
    lexemes_in (factor_marks f) ≡ lexemes.Text text ∷ []
text-lexemes f text e = ap lexemes_in (factor_marks-out f) ∙ text-level spelling (out-Factor f) text e

absent : {A : Type 0} (x : Option A) → not (is_some x) ≡ true → x ≡ None
absent None e = refl
absent (Some x) e = absurd (false≢true e)

-- an expression that is one factor has its lexemes
alone-lexemes : (e : ExprOf Factor) → e.right ≡ None → e.left.sign ≡ None → e.left.others ≡ [] → e.left.first.others ≡ [] →
    lexemes_in (expr_marks factor_marks e) ≡ lexemes_in (factor_marks e.left.first.first)
alone-lexemes e right sign terms factors =
    let marks : List Mark = factor_marks e.left.first.first in
    rw (right, sign, terms, factors) (ap lexemes_in (append-nil ((marks ++ []) ++ []) ∙ append-nil (marks ++ []) ∙ append-nil marks))

string-lexemes : (e : ExprOf Factor) (text : List ℕ) → string_of e ≡ Some text →
    lexemes_in (expr_marks factor_marks e) ≡ lexemes.Text text ∷ []
string-lexemes e text is =
    let found = under (is_factor e) (text_level (out-Factor e.left.first.first)) text is in
    let last = and_parts (not (is_some e.right) && not (is_some e.left.sign) && is_empty e.left.others) (is_empty e.left.first.others) found.0 in
    let third = and_parts (not (is_some e.right) && not (is_some e.left.sign)) (is_empty e.left.others) last.0 in
    let second = and_parts (not (is_some e.right)) (not (is_some e.left.sign)) third.0 in
    alone-lexemes e (absent e.right second.0) (absent e.left.sign second.1) (empty_is e.left.others third.1) (empty_is e.left.first.others last.1)
    ∙ text-lexemes e.left.first.first text found.1

exprs-lexemes : (es : ExprsOf Factor) (text : List ℕ) → only_string es ≡ Some text →
    lexemes_in (exprs_marks factor_marks es) ≡ lexemes.Text text ∷ []
exprs-lexemes es text is =
    let found = under (is_empty es.others) (string_of es.first) text is in
    rw (empty_is es.others found.0) (ap lexemes_in (append-nil (expr_marks factor_marks es.first)) ∙ string-lexemes es.first text found.1)

argument-lexemes : (place : Place) (exprs : Option (ExprsOf Factor)) (text : List ℕ) → option_and_then only_string exprs ≡ Some text →
    lexemes_in (arguments_marks factor_marks (record { place = place; exprs = exprs }))
    ≡ left_parenthesis ∷ lexemes.Text text ∷ right_parenthesis ∷ []
argument-lexemes place None text is = absurd (cc)
argument-lexemes place (Some es) text is =
    ap (λ (ls : List Lexeme). left_parenthesis ∷ ls)
    (lexemes_in-join (exprs_marks factor_marks es) (Of right_parenthesis ∷ [])
    ∙ ap (λ (ls : List Lexeme). ls ++ right_parenthesis ∷ []) (exprs-lexemes es text is))

-- ---- statements

-- a designator that is a name
name-lexemes : (name : List ℕ) (d : DesignatorOf Factor) → is_name name d ≡ true →
    lexemes_in (designator_marks factor_marks d) ≡ lexemes.Ident name ∷ []
name-lexemes name d e =
    let parts = name_is name d e in
    rw (parts.0, parts.1) refl

-- what is made of what was found
made_of : {A B : Type 0} (make : A → B) (found : Option A) (made : B) → option_map make found ≡ Some made →
    (x : A) × (found ≡ Some x) × (make x ≡ made)
made_of make None made e = absurd (cc)
made_of make (Some x) made e = (x, refl, cc)

call-lexemes : (d : DesignatorOf Factor) (a : Option (ArgumentsOf Factor)) (small : Small) → call_of d a ≡ Some small →
    lexemes_in (designator_marks factor_marks d ++ option_marks (arguments_marks factor_marks) a) ≡ spell_statement small
call-lexemes d None small is =
    let found = under (is_name write_ln d) (Some WriteLn) small is in
    let same : WriteLn ≡ small = cc (found.1) in
    rw (← same) (ap lexemes_in (append-nil (designator_marks factor_marks d)) ∙ name-lexemes write_ln d found.0)
call-lexemes d (Some a) small is =
    let found = under (is_name write_string d) (option_map WriteString (argument_of a)) small is in
    let text = made_of WriteString (argument_of a) small found.1 in
    rw (← text.2)
    (lexemes_in-join (designator_marks factor_marks d) (arguments_marks factor_marks a)
    ∙ ap₂ (λ (front back : List Lexeme). front ++ back) (name-lexemes write_string d found.0)
    (argument-lexemes a.place a.exprs text.0 text.1))

level-lexemes : (x : Statement-F Statement) (small : Small) → small_level x ≡ Some small →
    lexemes_in (statement_level statement_marks x) ≡ spell_statement small
level-lexemes (kinds.Call d a) small is = call-lexemes d a small is
level-lexemes _ small is = absurd (cc)

statement-lexemes : (s : Statement) (small : Small) → small_statement s ≡ Some small →
    lexemes_in (statement_marks s) ≡ spell_statement small
statement-lexemes s small is = ap lexemes_in (statement_marks-out s) ∙ level-lexemes (out-Statement s) small is

-- the first is of the form, and so are those behind it
pub both_found : (first : Option Small) (others : Option (List Small)) (all : List Small) → in_front first others ≡ Some all →
    (small : Small) × (smalls : List Small) × (first ≡ Some small) × (others ≡ Some smalls) × (small ∷ smalls ≡ all)
both_found None others all e = absurd (cc)
both_found (Some small) None all e = absurd (cc)
both_found (Some small) (Some smalls) all e = (small, smalls, refl, refl, cc)

further-lexemes : (small : Small) (others : List Statement) (smalls : List Small) → small_statements others ≡ Some smalls →
    spell_statement small ++ lexemes_in (further_marks semicolon statement_marks others) ≡ spell_statements (small ∷ smalls)
further-lexemes small [] smalls is =
    let none : [] ≡ smalls = cc (is) in
    rw (← none) (append-nil (spell_statement small))
further-lexemes small (next ∷ others) smalls is =
    let both = both_found (small_statement next) (small_statements others) smalls is in
    rw (← both.4)
    (ap (λ (rest : List Lexeme). spell_statement small ++ semicolon ∷ rest)
    (lexemes_in-join (statement_marks next) (further_marks semicolon statement_marks others)
    ∙ ap (λ (front : List Lexeme). front ++ lexemes_in (further_marks semicolon statement_marks others)) (statement-lexemes next both.0 both.2)
    ∙ further-lexemes both.0 others both.1 both.3))

statements-lexemes : (ss : StatementsOf Statement) (smalls : List Small) → small_statements (ss.first ∷ ss.others) ≡ Some smalls →
    lexemes_in (statements_marks statement_marks ss) ≡ spell_statements smalls
statements-lexemes ss smalls is =
    let both = both_found (small_statement ss.first) (small_statements ss.others) smalls is in
    rw (← both.4)
    (lexemes_in-join (statement_marks ss.first) (further_marks semicolon statement_marks ss.others)
    ∙ ap (λ (front : List Lexeme). front ++ lexemes_in (further_marks semicolon statement_marks ss.others)) (statement-lexemes ss.first both.0 both.2)
    ∙ further-lexemes both.0 ss.others both.1 both.3)

body-lexemes : (body : Option (StatementsOf Statement)) (smalls : List Small) → small_body body ≡ Some smalls →
    lexemes_in (body_marks body) ≡ word_begin ∷ spell_statements smalls
body-lexemes None smalls is = absurd (cc)
body-lexemes (Some ss) smalls is = ap (λ (ls : List Lexeme). word_begin ∷ ls) (statements-lexemes ss smalls is)

-- ---- the import

one-name-lexemes : (name : List ℕ) (idents : List Ident) → is_one_name name idents ≡ true →
    lexemes_in (further_marks comma ident_marks idents) ≡ comma ∷ lexemes.Ident name ∷ []
one-name-lexemes name [] e = absurd (false≢true e)
one-name-lexemes name (ident ∷ others) e =
    let parts = and_parts (has_name name ident) (is_empty others) e in
    rw (empty_is others parts.1, same_bytes ident.name name parts.0) refl

-- FROM InOut IMPORT WriteString , WriteLn ;
abbrev import_line : List Lexeme
import_line =
    word_from ∷ lexemes.Ident in_out ∷ word_import ∷ lexemes.Ident write_string ∷ comma ∷ lexemes.Ident write_ln ∷
    semicolon ∷ []

line-lexemes : (import : Import) → is_line_import import ≡ true → lexemes_in (import_marks import) ≡ import_line
line-lexemes (imports.Whole place names) e = absurd (false≢true e)
line-lexemes (imports.From place from names) e =
    let last = and_parts (has_name in_out from && has_name write_string names.first) (is_one_name write_ln names.others) e in
    let both = and_parts (has_name in_out from) (has_name write_string names.first) last.0 in
    rw (same_bytes from.name in_out both.0, same_bytes names.first.name write_string both.1)
    (ap (λ (ls : List Lexeme). word_from ∷ lexemes.Ident in_out ∷ word_import ∷ lexemes.Ident write_string ∷ ls)
    (lexemes_in-join (further_marks comma ident_marks names.others) (Of semicolon ∷ [])
    ∙ ap (λ (ls : List Lexeme). ls ++ semicolon ∷ []) (one-name-lexemes write_ln names.others last.1)))

imports-lexemes : (all : List Import) → is_one_import all ≡ true → lexemes_in (flat_map import_marks all) ≡ import_line
imports-lexemes [] e = absurd (false≢true e)
imports-lexemes (import ∷ others) e =
    let parts = and_parts (is_line_import import) (is_empty others) e in
    rw (empty_is others parts.1) (ap lexemes_in (append-nil (import_marks import)) ∙ line-lexemes import parts.0)

-- ---- modules

-- what has_frame says, part by part
record Frame (m : Module) : Type 0 where
  unlike : is_imported m.name.name ≡ false
  twice : m.end_name.name ≡ m.name.name
  imported : is_one_import m.imports ≡ true
  nothing : m.declarations ≡ []

frame : (m : Module) → has_frame m ≡ true → Frame m
frame m e =
    let last = and_parts (not (is_imported m.name.name) && bytes_eq m.end_name.name m.name.name && is_one_import m.imports) (is_empty m.declarations) e in
    let third = and_parts (not (is_imported m.name.name) && bytes_eq m.end_name.name m.name.name) (is_one_import m.imports) last.0 in
    let second = and_parts (not (is_imported m.name.name)) (bytes_eq m.end_name.name m.name.name) third.0 in
    record {
      unlike = not-true (is_imported m.name.name) second.0;
      twice = same_bytes m.end_name.name m.name.name second.1;
      imported = third.1;
      nothing = empty_is m.declarations last.1;
    }

-- the lexemes of five lists of marks one after another
five : (a b c d e : List Mark) →
    lexemes_in ((a ++ (b ++ (c ++ d))) ++ e)
    ≡ lexemes_in a ++ (lexemes_in b ++ (lexemes_in c ++ (lexemes_in d ++ lexemes_in e)))
five a b c d e =
    ap lexemes_in (append_assoc a (b ++ (c ++ d)) e)
    ∙ lexemes_in-join a ((b ++ (c ++ d)) ++ e)
    ∙ ap (λ (rest : List Lexeme). lexemes_in a ++ rest)
    (ap lexemes_in (append_assoc b (c ++ d) e)
    ∙ lexemes_in-join b ((c ++ d) ++ e)
    ∙ ap (λ (rest : List Lexeme). lexemes_in b ++ rest)
    (ap lexemes_in (append_assoc c d e)
    ∙ lexemes_in-join c (d ++ e)
    ∙ ap (λ (rest : List Lexeme). lexemes_in c ++ rest) (lexemes_in-join d e)))

-- what small_module says, part by part
module_parts : (m : Module) (program : Program) → small_module m ≡ Some program →
    Frame m × (small_body m.body ≡ Some program.statements) × (m.name.name ≡ program.name)
module_parts m program e =
    let named : List Small → Program = λ statements. record { name = m.name.name; statements = statements } in
    let found = under (has_frame m) (option_map named (small_body m.body)) program e in
    let statements = made_of named (small_body m.body) program found.1 in
    let same : statements.0 ≡ program.statements = ap (λ (p : Program). p.statements) statements.2 in
    (frame m found.0, statements.1 ∙ ap Some same, ap (λ (p : Program). p.name) statements.2)

module-lexemes : (m : Module) (program : Program) → small_module m ≡ Some program → spell (units.Program m) ≡ small_spell program
module-lexemes m program e =
    let parts = module_parts m program e in
    ap (λ (rest : List Lexeme). word_module ∷ lexemes.Ident m.name.name ∷ semicolon ∷ rest)
    (five (flat_map import_marks m.imports) (flat_map decl_marks m.declarations) (body_marks m.body) (ending_marks m.end_name) (Of lexemes.Finish ∷ []))
    ∙ rw (imports-lexemes m.imports parts.0.imported, parts.0.nothing, body-lexemes m.body program.statements parts.1, parts.0.twice, parts.2) refl

pub unit-lexemes : (unit : Tree) (program : Program) → small_of unit ≡ Some program → spell unit ≡ small_spell program
unfolding small_of
unit-lexemes (units.Program m) program e = module-lexemes m program e
unit-lexemes _ program e = absurd (cc)

-- ---- the form

some-statements : (body : Option (StatementsOf Statement)) (smalls : List Small) → small_body body ≡ Some smalls → smalls ≢ []
some-statements None smalls e none = cc
some-statements (Some ss) smalls e none =
    let both = both_found (small_statement ss.first) (small_statements ss.others) smalls e in
    let same : both.0 ∷ both.1 ≡ [] = both.4 ∙ none in
    cc

module-form : (m : Module) (program : Program) → small_module m ≡ Some program → IsSmall program
module-form m program e =
    let parts = module_parts m program e in
    let unlike = unlike_imported program.name (ap is_imported (sym parts.2) ∙ parts.0.unlike) in
    record {
      unlike_in_out = unlike.0;
      unlike_write_string = unlike.1;
      unlike_write_ln = unlike.2;
      some = some-statements m.body program.statements parts.1;
    }

pub unit-form : (unit : Tree) (program : Program) → small_of unit ≡ Some program → IsSmall program
unfolding small_of
unit-form (units.Program m) program e = module-form m program e
unit-form _ program e = absurd (cc)
