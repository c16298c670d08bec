-- The modules that can be run so far, and how each is spelt.
use Rattle.std.specs.Prelude.{◌≢◌, ℕ, List, [], ◌∷◌, ◌++◌}
use Rattle.dbpl_base.specs.declared.lexeme.Lexeme.{Lexeme}
use Rattle.dbpl_base.specs.declared.lexeme.Lexeme.TheVariants.{Ident, Text, Finish}
use Rattle.dbpl_tree.specs.Words.{comma, full_stop, in_out, left_parenthesis, right_parenthesis, semicolon, word_begin, word_end, word_from, word_import, word_module, write_ln, write_string}
use Rattle.dbpl_alone.specs.declared.program.Program.{Program}
use Rattle.dbpl_alone.specs.declared.statement.Statement.{Statement}
use Rattle.dbpl_alone.specs.declared.statement.Statement.TheVariants.{WriteLn, WriteString}

-- A module that prints lines: named apart from its imports, with one statement or more.
pub record IsSmall (program : Program) : Type 0 where
  pub unlike_in_out : program.name ≢ in_out
  pub unlike_write_string : program.name ≢ write_string
  pub unlike_write_ln : program.name ≢ write_ln
  pub some : program.statements ≢ []

-- WriteLn, or WriteString with its string in parentheses
abbrev pub spell_statement : Statement → List Lexeme
spell_statement WriteLn = Ident write_ln ∷ []
spell_statement (WriteString text) = Ident write_string ∷ left_parenthesis ∷ Text text ∷ right_parenthesis ∷ []

-- the statements with a semicolon between each two
abbrev pub spell_statements : List Statement → List Lexeme
spell_statements [] = []
spell_statements (statement ∷ []) = spell_statement statement
spell_statements (statement ∷ next ∷ others) =
    spell_statement statement ++ semicolon ∷ spell_statements (next ∷ others)

-- MODULE m ; FROM InOut IMPORT WriteString , WriteLn ; BEGIN
abbrev pub spell_heading : List ℕ → List Lexeme
spell_heading name =
    word_module ∷ Ident name ∷ semicolon ∷ word_from ∷ Ident in_out ∷ word_import ∷ Ident write_string ∷ comma ∷
    Ident write_ln ∷ semicolon ∷ word_begin ∷ []

-- THE spelling of such a module, with the end of its text
abbrev pub spell_module : Program → List Lexeme
spell_module program =
    spell_heading program.name ++ spell_statements program.statements ++ word_end ∷ Ident program.name ∷ full_stop ∷
    Finish ∷ []
