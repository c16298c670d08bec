-- The marks of modules, and the spelling of a text as a whole.
use Rattle.std.specs.Prelude.{List, [], ◌∷◌, ◌++◌}
use Rattle.std.specs.List.{flat_map}
use Rattle.dbpl_base.specs.declared.lexeme.Lexeme.{Lexeme}
use Rattle.dbpl_base.specs.declared.lexeme.Lexeme.TheVariants as lexemes
use Rattle.dbpl_base.specs.declared.token.Token.{Token}
use Rattle.dbpl_tree.specs.Declarations.{body_marks, common_marks, decl_marks, item_marks}
use Rattle.dbpl_tree.specs.Marks.{Mark, Meets, Of, Before, lexemes_in}
use Rattle.dbpl_tree.specs.Names.{ident_marks, idents_marks}
use Rattle.dbpl_tree.specs.Words.{full_stop, semicolon, word_database, word_definition, word_end, word_from, word_implementation, word_import, word_module}
use Rattle.dbpl_tree.specs.declared.ident.Ident.{Ident}
use Rattle.dbpl_tree.specs.declared.unit.DataUnit.{DataUnit}
use Rattle.dbpl_tree.specs.declared.unit.DefinitionUnit.{DefinitionUnit}
use Rattle.dbpl_tree.specs.declared.unit.Import.{Import}
use Rattle.dbpl_tree.specs.declared.unit.Import.TheVariants as imports
use Rattle.dbpl_tree.specs.declared.unit.Program.{Program}
use Rattle.dbpl_tree.specs.declared.unit.Unit.{Unit}
use Rattle.dbpl_tree.specs.declared.unit.Unit.TheVariants as units

abbrev pub import_marks : Import → List Mark
import_marks (imports.Whole place names) = Before place ∷ Of word_import ∷ (idents_marks names ++ Of semicolon ∷ [])
import_marks (imports.From place name names) =
    Before place ∷ Of word_from ∷
    (ident_marks name ++ Of word_import ∷ (idents_marks names ++ Of semicolon ∷ []))

-- END m .
abbrev pub ending_marks : Ident → List Mark
ending_marks name = Of word_end ∷ (ident_marks name ++ Of full_stop ∷ [])

abbrev pub program_marks : Program → List Mark
program_marks p =
    Before p.place ∷ Of word_module ∷
    (ident_marks p.name ++ Of semicolon ∷
    (flat_map import_marks p.imports ++
    (flat_map decl_marks p.declarations ++ (body_marks p.body ++ ending_marks p.end_name))))

abbrev pub definition_marks : DefinitionUnit → List Mark
definition_marks d =
    Before d.place ∷ Of word_definition ∷ Of word_module ∷
    (ident_marks d.name ++ Of semicolon ∷
    (flat_map import_marks d.imports ++ (flat_map item_marks d.items ++ ending_marks d.end_name)))

abbrev pub data_marks : DataUnit → List Mark
data_marks d =
    Before d.place ∷ Of word_database ∷ Of word_module ∷
    (ident_marks d.name ++ Of semicolon ∷
    (flat_map import_marks d.imports ++ (flat_map common_marks d.items ++ ending_marks d.end_name)))

abbrev pub unit_marks : Unit → List Mark
unit_marks (units.Program p) = program_marks p
unit_marks (units.Implementation place p) = Before place ∷ Of word_implementation ∷ program_marks p
unit_marks (units.Definition d) = definition_marks d
unit_marks (units.Data d) = data_marks d

-- the marks of a whole text
abbrev pub text_marks : Unit → List Mark
text_marks unit = unit_marks unit ++ Of lexemes.Finish ∷ []

-- THE spelling of a tree: its lexemes, with the end of the text
abbrev pub spell : Unit → List Lexeme
spell unit = lexemes_in (text_marks unit)

-- THE tokens that spell a tree: they have the lexemes of its spelling, and stand at the places that the tree keeps
abbrev pub SpellsUnit : List Token → Unit → Type 0
SpellsUnit tokens unit = Meets tokens (text_marks unit) []
