-- Which two trees are a database module and a program of the form, and which program they are:
--
--     MODULE M; imports TRANSACTION t; BEGIN v :+ S{R{1, 2}}; .. END t; BEGIN t; WriteLn; .. END M.
use Rattle.std.specs.Prelude.{ℕ, Bool, true, false, not, ◌&&◌, is_some, bytes_eq, if◌then◌else◌, List, [], ◌∷◌, Option, Some, None, option_and_then, option_map}
use Rattle.std.specs.List.{list_any}
use Rattle.dbpl_stored_program.specs.declared.stored_program.StoredProgram.{StoredProgram}
use Rattle.dbpl_stored_form.specs.DataModules.{schema_of, variable_of}
use Rattle.dbpl_stored_form.specs.Imports.{are_lines, imported_names}
use Rattle.dbpl_stored_form.specs.Lists.{joined_all, passing}
use Rattle.dbpl_stored_form.specs.Statements.{actions_in, insertions_in, statements_of}
use Rattle.dbpl_stored_form.specs.declared.schema.Schema.{Schema}
use Rattle.dbpl_tree.specs.Plain.{has_name, is_empty}
use Rattle.dbpl_tree.specs.Words.{in_out}
use Rattle.dbpl_tree.specs.declared.decl.Decl.{Decl}
use Rattle.dbpl_tree.specs.declared.decl.Decl.TheVariants as decls
use Rattle.dbpl_tree.specs.declared.decl.Routine.{Routine}
use Rattle.dbpl_tree.specs.declared.heading.RoutineWord.{RoutineWord}
use Rattle.dbpl_tree.specs.declared.heading.RoutineWord.TheVariants as words
use Rattle.dbpl_tree.specs.declared.heading.Signature.{Signature}
use Rattle.dbpl_tree.specs.declared.unit.DataUnit.{DataUnit}
use Rattle.dbpl_tree.specs.declared.unit.Program.{Program}
use Rattle.dbpl_tree.specs.declared.unit.Unit.{Unit}
use Rattle.dbpl_tree.specs.declared.unit.Unit.TheVariants as units
use Rattle.dbpl_value.specs.Types.{are_different, is_same_name}

-- ---- the transaction

abbrev pub is_word : RoutineWord → Bool
is_word words.Transaction = true
is_word words.Procedure = false

-- neither parameters nor a result
abbrev pub is_bare : Option Signature → Bool
is_bare None = true
is_bare (Some signature) = is_empty signature.params.sections && not (is_some signature.result)

-- TRANSACTION t ; BEGIN .. END t ;
abbrev pub is_transaction : Routine → Bool
is_transaction routine =
    is_word routine.heading.word && is_bare routine.heading.signature && is_empty routine.declarations &&
    bytes_eq routine.end_name.name routine.heading.name.name

-- the one routine that is declared
abbrev pub routine_in : List Decl → Option Routine
routine_in (decls.Routine routine ∷ []) = Some routine
routine_in declarations = None

abbrev pub transaction_in : List Decl → Option Routine
transaction_in declarations = option_and_then (passing is_transaction) (routine_in declarations)

-- ---- names

-- the name is given twice, and is neither InOut nor that of the database module
abbrev pub is_titled : Schema → Program → Bool
is_titled schema m =
    bytes_eq m.end_name.name m.name.name && not (has_name in_out m.name) && not (has_name schema.unit m.name)

-- no name is declared twice, and the program imports none that is its own
abbrev pub are_sound_names : Program → List ℕ → Bool
are_sound_names m transaction =
    not (list_any (is_same_name m.name.name) (imported_names m.imports)) &&
    are_different (transaction ∷ imported_names m.imports)

abbrev pub has_frame : Schema → Program → Routine → Bool
has_frame schema m routine =
    is_titled schema m && are_lines schema m.imports && are_sound_names m routine.heading.name.name

-- ---- programs

abbrev pub with_statements : Schema → Program → Routine → Option StoredProgram
with_statements schema m routine =
    option_and_then (λ insertions. option_map (λ body. record {
      relation = variable_of schema;
      insertions = insertions;
      body = body;
    }) (joined_all (actions_in routine.heading.name.name m.imports) (statements_of m.body)))
    (joined_all (insertions_in schema) (statements_of routine.body))

abbrev pub with_routine : Schema → Program → Routine → Option StoredProgram
with_routine schema m routine = if has_frame schema m routine then with_statements schema m routine else None

abbrev pub program_of : Schema → Program → Option StoredProgram
program_of schema m = option_and_then (with_routine schema m) (transaction_in m.declarations)

abbrev pub program_over : DataUnit → Program → Option StoredProgram
program_over d m = option_and_then (λ schema. program_of schema m) (schema_of d)

-- THE program that a database module and a program module are, if they are of the form
unfoldable pub stored_of : Unit → Unit → Option StoredProgram
stored_of (units.Data d) (units.Program m) = program_over d m
stored_of database program = None
