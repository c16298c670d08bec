-- What a program imports: what its database module declares, and what it prints with.
--
--     FROM D IMPORT R, S, v; FROM InOut IMPORT WriteString, WriteLn;
use Rattle.std.specs.Prelude.{ℕ, Bool, false, ◌&&◌, ◌||◌, List, ◌∷◌}
use Rattle.std.specs.List.{flat_map, list_all, list_any}
use Rattle.dbpl_stored_form.specs.Names.{names_of}
use Rattle.dbpl_stored_form.specs.declared.schema.Schema.{Schema}
use Rattle.dbpl_tree.specs.Plain.{has_name}
use Rattle.dbpl_tree.specs.Words.{in_out, write_ln, write_string}
use Rattle.dbpl_tree.specs.declared.ident.Ident.{Ident}
use Rattle.dbpl_tree.specs.declared.unit.Import.{Import}
use Rattle.dbpl_tree.specs.declared.unit.Import.TheVariants as imports

-- the import brings this name of this module
abbrev pub brings : List ℕ → List ℕ → Import → Bool
brings unit name (imports.Whole place units) = false
brings unit name (imports.From place from names) =
    has_name unit from && list_any (has_name name) (names.first ∷ names.others)

abbrev pub is_imported : List ℕ → List ℕ → List Import → Bool
is_imported unit name lines = list_any (brings unit name) lines

-- a name that the database module declares
abbrev pub is_declared : Schema → Ident → Bool
is_declared schema ident =
    has_name schema.element ident || has_name schema.relation ident || has_name schema.variable ident

-- a procedure of InOut that a program of the form may call
abbrev pub is_printer : Ident → Bool
is_printer ident = has_name write_string ident || has_name write_ln ident

-- FROM D IMPORT .., or FROM InOut IMPORT ..
abbrev pub is_line : Schema → Import → Bool
is_line schema (imports.Whole place units) = false
is_line schema (imports.From place from names) =
    (has_name schema.unit from && list_all (is_declared schema) (names.first ∷ names.others)) ||
    (has_name in_out from && list_all is_printer (names.first ∷ names.others))

-- all that the database module declares is imported, and nothing else but what prints
abbrev pub are_lines : Schema → List Import → Bool
are_lines schema lines =
    list_all (is_line schema) lines && is_imported schema.unit schema.element lines &&
    is_imported schema.unit schema.relation lines && is_imported schema.unit schema.variable lines

-- the names that an import declares
abbrev pub names_in : Import → List (List ℕ)
names_in (imports.Whole place units) = names_of units
names_in (imports.From place from names) = names_of names

abbrev pub imported_names : List Import → List (List ℕ)
imported_names lines = flat_map names_in lines
