-- What a unit shows to others.
use Rattle.std.specs.Prelude.{ℕ, Bool, true, false, List, Option, option_map}
use Rattle.std.specs.List.{filter}
use Rattle.dbpl_symbols.specs.Scopes.{Declarations, last_level, latest}
use Rattle.dbpl_symbols.specs.declared.decl.Decl.{Decl}
use Rattle.dbpl_symbols.specs.declared.exports.Exports.{Exports, out-Exports, roll-Exports}
use Rattle.dbpl_symbols.specs.declared.origin.Origin.{Origin}
use Rattle.dbpl_symbols.specs.declared.origin.Origin.TheVariants as origins
use Rattle.dbpl_symbols.specs.declared.pair.Pair.{Pair}

abbrev pub is_own_origin : Origin → Bool
is_own_origin origins.Declared = true
is_own_origin origins.Imported = false

-- a declaration that was made where it stands, and not imported
abbrev pub is_own : Pair → Bool
is_own pair = is_own_origin pair.origin

-- the interface of a unit of this name that has these declarations
abbrev pub exports_of : List ℕ → List Pair → Exports
exports_of unit pairs = roll-Exports (record { «module» = unit; pairs = pairs })

-- THE interface of the unit of this name: the declarations of the last level that were made there
abbrev pub interface_of : List ℕ → Declarations → Exports
interface_of unit scope = exports_of unit (filter is_own (last_level scope))

-- THE declaration that a name behind a unit's name means, if the unit has declared it
abbrev pub shown : List ℕ → Exports → Option Decl
shown name exports = option_map (λ pair. pair.decl) (latest name (out-Exports exports).pairs)
