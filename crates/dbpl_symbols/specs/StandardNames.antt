-- The standard names, which every text knows and may declare anew.
use Rattle.std.specs.Prelude.{ℕ, List, [], ◌∷◌, ◌++◌, pos, codes}
use Rattle.dbpl_symbols.specs.Scopes.{Declarations, with_pair}
use Rattle.dbpl_symbols.specs.declared.decl.Decl.{Decl}
use Rattle.dbpl_symbols.specs.declared.decl.Decl.TheVariants as decls
use Rattle.dbpl_symbols.specs.declared.origin.Origin.TheVariants as origins
use Rattle.dbpl_symbols.specs.declared.pair.Pair.{Pair}
use Rattle.dbpl_symbols.specs.declared.standard_procedure.StandardProcedure.TheVariants as procedures
use Rattle.dbpl_value.specs.declared.db_type.DbType.TheVariants as kinds

-- a name that is declared where it stands
abbrev pub own : List ℕ → Decl → Pair
own name decl = record { name = name; decl = decl; origin = origins.Declared }

-- the types
unfoldable pub type_pairs : List Pair
type_pairs =
    own (codes "INTEGER") (decls.Kind kinds.Int) ∷
    own (codes "CARDINAL") (decls.Kind kinds.Card) ∷
    own (codes "BOOLEAN") (decls.Kind kinds.Bool) ∷
    own (codes "CHAR") (decls.Kind kinds.Char) ∷ []

-- the constants
unfoldable pub truth_pairs : List Pair
truth_pairs = own (codes "FALSE") (decls.Num kinds.Bool (pos 0)) ∷ own (codes "TRUE") (decls.Num kinds.Bool (pos 1)) ∷ []

-- the functions
unfoldable pub function_pairs : List Pair
function_pairs =
    own (codes "ABS") (decls.Standard procedures.Abs) ∷
    own (codes "ODD") (decls.Standard procedures.Odd) ∷
    own (codes "CAP") (decls.Standard procedures.Cap) ∷
    own (codes "CHR") (decls.Standard procedures.Chr) ∷
    own (codes "ORD") (decls.Standard procedures.Ord) ∷
    own (codes "VAL") (decls.Standard procedures.Val) ∷
    own (codes "MIN") (decls.Standard procedures.Min) ∷
    own (codes "MAX") (decls.Standard procedures.Max) ∷
    own (codes "CARD") (decls.Standard procedures.Card) ∷ []

-- the procedures
unfoldable pub procedure_pairs : List Pair
procedure_pairs =
    own (codes "INC") (decls.Standard procedures.Inc) ∷
    own (codes "DEC") (decls.Standard procedures.Dec) ∷
    own (codes "HALT") (decls.Standard procedures.Halt) ∷
    own (codes "ABORT") (decls.Standard procedures.Abort) ∷ []

-- THE standard names with what they mean
abbrev pub standard_pairs : List Pair
standard_pairs = type_pairs ++ truth_pairs ++ function_pairs ++ procedure_pairs

-- the scope with each of these added in turn
abbrev pub declared_in_turn : List Pair → Declarations → Declarations
declared_in_turn [] scope = scope
declared_in_turn (pair ∷ pairs) scope = declared_in_turn pairs (with_pair pair scope)

-- THE scope with which every text begins: one level, that of the standard names
abbrev pub standard_scope : Declarations
standard_scope = record { pairs = standard_pairs; starts = [] }
