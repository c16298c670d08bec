-- Which trees are modules that print lines, and which module each is. The places that a tree keeps don't matter.
use Rattle.std.specs.Prelude.{ℕ, Bool, false, not, ◌&&◌, ◌||◌, List, [], ◌∷◌, Option, Some, None, option_map, bytes_eq, if◌then◌else◌}
use Rattle.dbpl_alone.specs.declared.program.Program.{Program}
use Rattle.dbpl_alone.specs.declared.statement.Statement.{Statement as Small}
use Rattle.dbpl_alone.specs.declared.statement.Statement.TheVariants.{WriteLn, WriteString}
use Rattle.dbpl_tree.specs.Plain.{argument_of, has_name, is_empty, is_name}
use Rattle.dbpl_tree.specs.Words.{in_out, write_ln, write_string}
use Rattle.dbpl_tree.specs.declared.designator.ArgumentsOf.{ArgumentsOf}
use Rattle.dbpl_tree.specs.declared.designator.DesignatorOf.{DesignatorOf}
use Rattle.dbpl_tree.specs.declared.factor.Factor.{Factor}
use Rattle.dbpl_tree.specs.declared.ident.Ident.{Ident}
use Rattle.dbpl_tree.specs.declared.statement.Statement.{Statement, Statement-F, out-Statement}
use Rattle.dbpl_tree.specs.declared.statement.Statement.TheOpen as kinds
use Rattle.dbpl_tree.specs.declared.statements.StatementsOf.{StatementsOf}
use Rattle.dbpl_tree.specs.declared.unit.Import.{Import}
use Rattle.dbpl_tree.specs.declared.unit.Import.TheVariants as imports
use Rattle.dbpl_tree.specs.declared.unit.Program.{Program as Module}
use Rattle.dbpl_tree.specs.declared.unit.Unit.{Unit}
use Rattle.dbpl_tree.specs.declared.unit.Unit.TheVariants as units

-- ---- statements

-- WriteLn, which has no parentheses, or WriteString with one string in them
abbrev pub call_of : DesignatorOf Factor → Option (ArgumentsOf Factor) → Option Small
call_of d None = if is_name write_ln d then Some WriteLn else None
call_of d (Some a) = if is_name write_string d then option_map WriteString (argument_of a) else None

abbrev pub small_level : Statement-F Statement → Option Small
small_level (kinds.Call d a) = call_of d a
small_level _ = None

-- the statement of the form that this one is
abbrev pub small_statement : Statement → Option Small
small_statement s = small_level (out-Statement s)

-- this one and those behind it, if there are both
abbrev pub in_front : Option Small → Option (List Small) → Option (List Small)
in_front None others = None
in_front (Some first) others = option_map (λ behind. first ∷ behind) others

-- all of them, if each is of the form
abbrev pub small_statements : List Statement → Option (List Small)
small_statements [] = Some []
small_statements (first ∷ others) = in_front (small_statement first) (small_statements others)

-- the statements of a body, if it has one
abbrev pub small_body : Option (StatementsOf Statement) → Option (List Small)
small_body None = None
small_body (Some ss) = small_statements (ss.first ∷ ss.others)

-- ---- modules

abbrev pub is_imported : List ℕ → Bool
is_imported name = bytes_eq name in_out || bytes_eq name write_string || bytes_eq name write_ln

abbrev pub is_one_name : List ℕ → List Ident → Bool
is_one_name name [] = false
is_one_name name (ident ∷ others) = has_name name ident && is_empty others

-- FROM InOut IMPORT WriteString , WriteLn ;
abbrev pub is_line_import : Import → Bool
is_line_import (imports.Whole place names) = false
is_line_import (imports.From place from names) =
    has_name in_out from && has_name write_string names.first && is_one_name write_ln names.others

abbrev pub is_one_import : List Import → Bool
is_one_import [] = false
is_one_import (first ∷ others) = is_line_import first && is_empty others

-- the name is none of the imported ones and given twice, the imports are that one line, and nothing is declared
abbrev pub has_frame : Module → Bool
has_frame m =
    not (is_imported m.name.name) && bytes_eq m.end_name.name m.name.name && is_one_import m.imports && is_empty m.declarations

abbrev pub small_module : Module → Option Program
small_module m =
    if has_frame m then option_map (λ statements. record { name = m.name.name; statements = statements }) (small_body m.body) else None

-- THE module that prints lines that this tree is, if it is one
unfoldable pub small_of : Unit → Option Program
small_of (units.Program m) = small_module m
small_of _ = None
