-- Which phrases fit a type, and what stands in the tree where a value of the type is asked for.
use Rattle.std.specs.Prelude.{ℕ, Bool, true, ◌&&◌, ◌||◌, ◌==◌, nat_le, if◌then◌else◌, ℤ, pos, Option, Some, None}
use Rattle.std.specs.Option.{option_map_or}
use Rattle.dbpl_base.specs.declared.place.Place.{Place}
use Rattle.dbpl_core.specs.declared.expr.CoreExpr.{CoreExpr, CoreExpr-F, out-CoreExpr}
use Rattle.dbpl_core.specs.declared.expr.CoreExpr.TheOpen as exprs
use Rattle.dbpl_core.specs.declared.expr.CoreExpr.TheVariants as trees
use Rattle.dbpl_judging.specs.declared.facts.Facts.{Facts}
use Rattle.dbpl_judging.specs.declared.kind.Kind.{Kind}
use Rattle.dbpl_judging.specs.declared.kind.Kind.TheVariants as phrases
use Rattle.dbpl_judging.specs.declared.typed.Typed.{Typed}
use Rattle.dbpl_rules_operators.specs.Hosts.{has_one_host, host, host_of, is_character, is_whole}
use Rattle.dbpl_value.specs.Types.{count_of, is_char_array, is_in, is_ordinal, range_of}
use Rattle.dbpl_value.specs.declared.db_type.DbType.{DbType, DbType-F, out-DbType}
use Rattle.dbpl_value.specs.declared.db_type.DbType.TheOpen as kinds

abbrev pub index_level : {Y : Type 0} → DbType → DbType-F DbType Y → DbType
index_level t (kinds.Arr index element) = index
index_level t _ = t

-- the index type of an array, and a type itself where it is none
abbrev pub index_of : DbType → DbType
index_of t = index_level t (out-DbType t)

-- a string of so many characters can be a value of the type: an array of CHAR that is as long or longer, or one character
-- of CHAR
abbrev pub takes_text : DbType → ℕ → Bool
takes_text t length =
    (length == 1 && is_character (host_of t)) || (is_char_array t && nat_le length (count_of (index_of t)))

-- THE phrases that have the type's host or are of the type itself: a whole constant has every whole host, and a string is
-- of each array that takes it
abbrev pub takes_kind : DbType → Kind → Bool
takes_kind t phrases.Whole = is_whole (host_of t)
takes_kind t (phrases.Text length first) = takes_text t length
takes_kind t (phrases.Of other) = has_one_host t other

-- a constant lies in the type, where that is ordinal
abbrev pub lies_in : DbType → Option ℤ → Bool
lies_in t None = true
lies_in t (Some n) = option_map_or (λ range. is_in range n) (range_of t) true

-- THE phrases that are assignable to a type: those that it takes, and each whole one where it is whole. An ordinal
-- constant must lie in it.
abbrev pub fits : DbType → Facts → Bool
fits t facts = (takes_kind t facts.kind || (is_whole (host facts.kind) && is_whole (host_of t))) && lies_in t facts.number

-- ---- trees

abbrev pub number_tree : Place → Kind → CoreExpr → CoreExpr
number_tree place (phrases.Text length first) tree = trees.Number place (pos first)
number_tree place _ tree = tree

-- an ordinal phrase: a string is its one character
abbrev pub as_ordinal : Typed → CoreExpr
as_ordinal e = number_tree e.facts.place e.facts.kind e.tree

abbrev pub array_level : DbType → CoreExpr → CoreExpr-F CoreExpr → CoreExpr
array_level t tree (exprs.Text place kind text) = trees.Text place (Some t) text
array_level t tree _ = tree

-- a phrase of this type that isn't ordinal: a string has the array's type
abbrev pub as_array : DbType → CoreExpr → CoreExpr
as_array t tree = array_level t tree (out-CoreExpr tree)

-- a phrase that the type takes, as one of the type
abbrev pub as_type : DbType → Typed → CoreExpr
as_type t e = if is_ordinal t then as_ordinal e else as_array t e.tree

-- THE tree of a phrase that fits a type: where that is ordinal, a test of fit at the phrase's first token
abbrev pub fitted : DbType → Typed → CoreExpr
fitted t e = if is_ordinal t then trees.Fitted e.facts.place t (as_ordinal e) else as_array t e.tree
