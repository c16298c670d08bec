-- What the module InOut shows: procedures that read and print, and the variable Done.
use Rattle.std.specs.Prelude.{ℕ, true, false, List, [], ◌∷◌, ◌++◌, Some, None, codes}
use Rattle.dbpl_core.specs.declared.in_out_procedure.InOutProcedure.{InOutProcedure}
use Rattle.dbpl_core.specs.declared.in_out_procedure.InOutProcedure.TheVariants as procedures
use Rattle.dbpl_symbols.specs.Interfaces.{exports_of}
use Rattle.dbpl_symbols.specs.StandardNames.{own}
use Rattle.dbpl_symbols.specs.declared.decl.Decl.TheVariants as decls
use Rattle.dbpl_symbols.specs.declared.exports.Exports.{Exports}
use Rattle.dbpl_symbols.specs.declared.pair.Pair.{Pair}
use Rattle.dbpl_symbols.specs.declared.sort.Sort.TheVariants as sorts
use Rattle.dbpl_value.specs.declared.db_type.DbType.{DbType}
use Rattle.dbpl_value.specs.declared.db_type.DbType.TheVariants as kinds
use Rattle.dbpl_value.specs.declared.head.Head.{Head}
use Rattle.dbpl_value.specs.declared.param.Param.{Param}

-- VAR name: kind
abbrev pub var_param : List ℕ → DbType → Param
var_param name kind = record { name = name; kind = kind; by_ref = true }

-- name: kind
abbrev pub value_param : List ℕ → DbType → Param
value_param name kind = record { name = name; kind = kind; by_ref = false }

-- PROCEDURE name(params)
abbrev pub procedure_head : List ℕ → List Param → Head
procedure_head name params = record { name = name; transaction = false; params = params; result = None }

-- a procedure of InOut with a heading
abbrev pub routine : InOutProcedure → List ℕ → List Param → Pair
routine which name params = own name (decls.InOut which (Some (procedure_head name params)))

-- what reads
unfoldable pub reading_pairs : List Pair
reading_pairs =
    routine procedures.Read (codes "Read") (var_param (codes "c") kinds.Char ∷ []) ∷
    routine procedures.ReadInt (codes "ReadInt") (var_param (codes "x") kinds.Int ∷ []) ∷
    routine procedures.ReadCard (codes "ReadCard") (var_param (codes "x") kinds.Card ∷ []) ∷ []

-- the number that is printed, and the width
abbrev pub number_params : DbType → List Param
number_params kind = value_param (codes "x") kind ∷ value_param (codes "n") kinds.Card ∷ []

-- what prints
unfoldable pub writing_pairs : List Pair
writing_pairs =
    routine procedures.Write (codes "Write") (value_param (codes "c") kinds.Char ∷ []) ∷
    routine procedures.WriteLn (codes "WriteLn") [] ∷
    own (codes "WriteString") (decls.InOut procedures.WriteString None) ∷
    routine procedures.WriteInt (codes "WriteInt") (number_params kinds.Int) ∷
    routine procedures.WriteCard (codes "WriteCard") (number_params kinds.Card) ∷ []

-- THE declarations of InOut
abbrev pub in_out_pairs : List Pair
in_out_pairs = reading_pairs ++ writing_pairs ++ own (codes "Done") (decls.Variable kinds.Bool sorts.Done) ∷ []

-- THE interface of InOut
abbrev pub in_out_exports : Exports
in_out_exports = exports_of (codes "InOut") in_out_pairs
