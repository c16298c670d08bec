-- What is known. A declaration that was refused, or whose type is unknown, is declared as unknown, and a use of it breaks no rule.
use Rattle.std.specs.Prelude.{List}
use Rattle.std.specs.List.{All}
use Rattle.dbpl_symbols.specs.Scopes.{Declarations}
use Rattle.dbpl_symbols.specs.declared.decl.Decl.{Decl, Decl-F, out-Decl}
use Rattle.dbpl_symbols.specs.declared.decl.Decl.TheOpen as decls
use Rattle.dbpl_symbols.specs.declared.exports.Exports.{Exports, out-Exports}
use Rattle.dbpl_symbols.specs.declared.pair.Pair.{Pair}

abbrev pub IsKnownLevel : {D E P : Type 0} → Decl-F D E P → Type 0
IsKnownLevel decls.Unknown = ⊥
IsKnownLevel _ = Unit {0}

-- the declaration itself isn't unknown
abbrev pub IsKnownItself : Decl → Type 0
IsKnownItself decl = IsKnownLevel (out-Decl decl)

-- nor is what a unit shows
abbrev pub ShowsKnown : Exports → Type 0
ShowsKnown exports = All (λ (pair : Pair). IsKnownItself pair.decl) (out-Exports exports).pairs

abbrev pub IsKnownThrough : {D P : Type 0} → Decl-F D Exports P → Type 0
IsKnownThrough decls.Unknown = ⊥
IsKnownThrough (decls.Unit exports) = ShowsKnown exports
IsKnownThrough _ = Unit {0}

-- THE declaration isn't unknown, nor is anything that it shows, where it is a unit
abbrev pub IsKnownDecl : Decl → Type 0
IsKnownDecl decl = IsKnownThrough (out-Decl decl)

-- none of these declarations is unknown
abbrev pub AreKnown : List Pair → Type 0
AreKnown pairs = All (λ (pair : Pair). IsKnownDecl pair.decl) pairs

-- THE same of a scope
abbrev pub IsKnown : Declarations → Type 0
IsKnown scope = AreKnown scope.pairs
