-- What a module that prints lines means: the events that it makes within a number of turns. A turn is the beginning of a
-- call: the module's body is one, and each statement that calls a procedure of InOut is one.
use Rattle.std.specs.Prelude.{ℕ, List, [], ◌∷◌, map}
use Rattle.dbpl_stored_program.specs.Meaning.{Doing, Outcome, before_zero, block, outcome_of, prints_bytes, turn}
use Rattle.dbpl_alone.specs.declared.program.Program.{Program}
use Rattle.dbpl_alone.specs.declared.statement.Statement.{Statement}
use Rattle.dbpl_alone.specs.declared.statement.Statement.TheVariants.{WriteLn, WriteString}

-- WriteLn prints byte 10, WriteString the bytes of its string before the first byte 0.
abbrev pub printed_by : Statement → List ℕ
printed_by WriteLn = 10 ∷ []
printed_by (WriteString text) = before_zero text

abbrev pub statement_meaning : Statement → Doing (Unit {0})
statement_meaning statement = turn (prints_bytes (printed_by statement))

abbrev pub module_doing : Program → Doing (Unit {0})
module_doing program = turn (block (map statement_meaning program.statements))

-- THE meaning: what a module comes to with this input within so many turns. It has no database. So far no statement reads.
unfoldable pub module_meaning : Program → List ℕ → ℕ → Outcome
module_meaning program input turns =
    outcome_of (module_doing program (record { left = turns; database = []; input = input; events = [] }))
