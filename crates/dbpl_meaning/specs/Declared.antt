-- The module variables and the routines of a program, by their names.
use Rattle.std.specs.Prelude.{ℕ, ◌-◌, Bool, ◌&&◌, if◌then◌else◌, List, [], ◌∷◌, ◌++◌, map, length, find, flat_map, position, codes, Option}
use Rattle.dbpl_core.specs.declared.cell.Cell.{Cell}
use Rattle.dbpl_core.specs.declared.cell.Cell.TheVariants as cell
use Rattle.dbpl_core.specs.declared.program.Program.{Program}
use Rattle.dbpl_core.specs.declared.reference.Reference.{Reference}
use Rattle.dbpl_core.specs.declared.reference_root.ReferenceRoot.TheVariants as root
use Rattle.dbpl_core.specs.declared.routine.Routine.{Routine}
use Rattle.dbpl_core.specs.declared.unit.CoreUnit.{CoreUnit}
use Rattle.dbpl_value.specs.Types.{is_same_name}
use Rattle.dbpl_value.specs.Values.{start_value_of}
use Rattle.dbpl_value.specs.declared.db_type.DbType.{DbType}
use Rattle.dbpl_value.specs.declared.db_type.DbType.TheVariants as types
use Rattle.dbpl_value.specs.declared.variable.Variable.{Variable}

-- a module variable: its module, its name and its type
pub record Global : Type 0 where
  pub owner : List ℕ
  pub name : List ℕ
  pub kind : DbType

abbrev pub globals_in : CoreUnit → List Global
globals_in unit = map (λ variable. record { owner = unit.name; name = variable.name; kind = variable.kind }) unit.globals

abbrev pub done_of_in_out : Global
done_of_in_out = record { owner = codes "InOut"; name = codes "Done"; kind = types.Bool }

-- THE module variables of a program: in the order of units and declarations, InOut's Done last
abbrev pub globals_of : Program → List Global
globals_of program = flat_map globals_in program.units ++ done_of_in_out ∷ []

abbrev pub is_named : List ℕ → List ℕ → Global → Bool
is_named owner name variable = is_same_name variable.owner owner && is_same_name variable.name name

-- the number of the variable of this module and name
abbrev pub global_number : Program → List ℕ → List ℕ → Option ℕ
global_number program owner name = position (is_named owner name) (globals_of program)

abbrev pub global_reference : ℕ → Reference
global_reference number = record { root = root.Global number; path = [] }

-- Done, where it stands
abbrev pub done_reference : Program → Reference
done_reference program = global_reference (length (globals_of program) - 1)

-- a variable at its start
abbrev pub started : DbType → Cell
started kind = cell.Holds kind (start_value_of kind)

abbrev pub started_globals : Program → List Cell
started_globals program = map (λ variable. started variable.kind) (globals_of program)

abbrev pub started_locals : Routine → List Cell
started_locals routine = map (λ (variable : Variable). started variable.kind) routine.locals

-- THE routine of this module and name; a module may consist of two units
abbrev pub routine_named : Program → List ℕ → List ℕ → Option Routine
routine_named program owner name =
    find (λ routine. is_same_name routine.head.name name)
    (flat_map (λ (unit : CoreUnit). if is_same_name unit.name owner then unit.routines else []) program.units)
