-- That a name means what is known, where no declaration of the scope is unknown.
use Rattle.std.proofs.Common.{Option, Some, None, IfSome}
use Rattle.std.specs.Prelude.{option_and_then}
use Rattle.dbpl_judging.specs.declared.setting.Setting.{Setting}
use Rattle.dbpl_rules_expr.specs.Names.{Word, unit_level, unit_named, word, word_by}
use Rattle.dbpl_symbols.proofs.KnownLaws.{seen_known, shown_known}
use Rattle.dbpl_symbols.specs.Known.{IsKnown, IsKnownDecl, IsKnownItself, IsKnownLevel, IsKnownThrough, ShowsKnown}
use Rattle.dbpl_symbols.specs.Scopes.{seen}
use Rattle.dbpl_symbols.specs.declared.decl.Decl.{Decl, Decl-F, out-Decl}
use Rattle.dbpl_symbols.specs.declared.decl.Decl.TheOpen as decls
use Rattle.dbpl_symbols.specs.declared.exports.Exports.{Exports}
use Rattle.dbpl_tree.specs.declared.ident.Ident.{Ident}

itself : {D P : Type 0} (level : Decl-F D Exports P) → IsKnownThrough level → IsKnownLevel level
itself decls.Unknown known = known
itself _ known = tt

shows : {D P : Type 0} (level : Decl-F D Exports P) → IsKnownThrough level → IfSome (unit_level level) ShowsKnown
shows (decls.Unit exports) known = known
shows _ known = tt

unit_known :
    (found : Option Decl) → IfSome found IsKnownDecl →
    IfSome (option_and_then (λ decl. unit_level (out-Decl decl)) found) ShowsKnown
unit_known None known = tt
unit_known (Some decl) known = shows (out-Decl decl) known

found_itself : (found : Option Decl) → IfSome found IsKnownDecl → IfSome found IsKnownItself
found_itself None known = tt
found_itself (Some decl) known = itself (out-Decl decl) known

-- what a word means isn't unknown
abbrev pub IsKnownWord : Word → Type 0
IsKnownWord word = IfSome word.found IsKnownItself

by_unit :
    (setting : Setting) (head : Ident) → IsKnown setting.scope → (unit : Option Exports) → IfSome unit ShowsKnown →
    (second : Option Ident) → IsKnownWord (word_by setting head unit second)
by_unit setting head known (Some exports) shown (Some x) = shown_known exports shown x.name
by_unit setting head known (Some exports) shown None = found_itself (seen head.name setting.scope) (seen_known setting.scope known head.name)
by_unit setting head known None shown (Some x) = found_itself (seen head.name setting.scope) (seen_known setting.scope known head.name)
by_unit setting head known None shown None = found_itself (seen head.name setting.scope) (seen_known setting.scope known head.name)

pub word_known :
    (setting : Setting) (head : Ident) (second : Option Ident) → IsKnown setting.scope → IsKnownWord (word setting head second)
word_known setting head second known =
    by_unit setting head known (unit_named setting head)
    (unit_known (seen head.name setting.scope) (seen_known setting.scope known head.name)) second
