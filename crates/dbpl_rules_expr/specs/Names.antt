-- What a name of a phrase means. A module's name and the name behind the dot are one name, which begins at the first.
use Rattle.std.specs.Prelude.{ℕ, Bool, true, false, List, ◌∷◌, Option, Some, None, if◌then◌else◌, option_and_then}
use Rattle.dbpl_base.specs.declared.place.Place.{Place}
use Rattle.dbpl_judging.specs.Judgements.{Judged, breaks, good, silent, ◌>>=◌}
use Rattle.dbpl_judging.specs.declared.setting.Setting.{Setting}
use Rattle.dbpl_symbols.specs.Interfaces.{shown}
use Rattle.dbpl_symbols.specs.Scopes.{seen}
use Rattle.dbpl_symbols.specs.declared.decl.Decl.{Decl, Decl-F, out-Decl}
use Rattle.dbpl_symbols.specs.declared.decl.Decl.TheOpen as decls
use Rattle.dbpl_symbols.specs.declared.exports.Exports.{Exports}
use Rattle.dbpl_tree.specs.Plain.{is_empty}
use Rattle.dbpl_tree.specs.declared.designator.PartOf.{PartOf}
use Rattle.dbpl_tree.specs.declared.designator.PartOf.TheVariants as parts
use Rattle.dbpl_tree.specs.declared.ident.Ident.{Ident}
use Rattle.dbpl_tree.specs.declared.ident.Qual.{Qual}

-- ---- names

-- A name by its last word: the word, the rule that it breaks where nothing is declared, what is declared, and whether a module's
-- name stands before it.
pub record Word : Type 0 where
  pub rule : ℕ
  pub ident : Ident
  pub found : Option Decl
  pub behind_module : Bool

abbrev pub unit_level : {D P : Type 0} → Decl-F D Exports P → Option Exports
unit_level (decls.Unit exports) = Some exports
unit_level _ = None

-- what a module of this name shows, if the name is that of a module
abbrev pub unit_named : Setting → Ident → Option Exports
unit_named setting head = option_and_then (λ decl. unit_level (out-Decl decl)) (seen head.name setting.scope)

-- S10: A used name is declared before its use (rule 10). S11: In M.x with a module M, x is declared by M (rule 11).
abbrev pub word_by : Setting → Ident → Option Exports → Option Ident → Word
word_by setting head (Some exports) (Some x) =
    record { rule = 11; ident = x; found = shown x.name exports; behind_module = true }
word_by setting head _ _ =
    record { rule = 10; ident = head; found = seen head.name setting.scope; behind_module = false }

-- THE name that a word is, with the word behind the dot, if there is one
abbrev pub word : Setting → Ident → Option Ident → Word
word setting head second = word_by setting head (unit_named setting head) second

-- a name, and the parts that stand behind it
pub record Named (F : Type 0) : Type 0 where
  pub word : Word
  pub parts : List (PartOf F)

-- the word behind a first dot
abbrev pub second_word : {F : Type 0} → List (PartOf F) → Option Ident
second_word (parts.Field x ∷ others) = Some x
second_word _ = None

abbrev pub parts_behind : {F : Type 0} → Bool → List (PartOf F) → List (PartOf F)
parts_behind true (part ∷ others) = others
parts_behind _ all = all

-- THE name with which a designator begins: a first word, and what stands behind it
abbrev pub named : {F : Type 0} → Setting → Ident → List (PartOf F) → Named F
named setting head all = record {
  word = word setting head (second_word all);
  parts = parts_behind (word setting head (second_word all)).behind_module all;
}

-- ---- what they mean

abbrev pub known_level : {D E P : Type 0} → Decl → Decl-F D E P → Judged Decl
known_level decl decls.Unknown = silent
known_level decl _ = good decl

-- A name whose declaration was refused breaks no rule.
abbrev pub meant : ℕ → Place → Option Decl → Judged Decl
meant rule place None = breaks rule place
meant rule place (Some decl) = known_level decl (out-Decl decl)

-- THE judgement of a name: its declaration
abbrev pub declared : Word → Judged Decl
declared word = meant word.rule word.ident.place word.found

-- The same of a name that begins at this place, where it is to stand alone and does or doesn't. With parts behind it, it would
-- be a variable, which is asked for nowhere here (S12).
abbrev pub whole_word : Place → Bool → Word → Judged Decl
whole_word place stands_alone word =
    if stands_alone then declared word else (declared word >>= λ decl. breaks 12 place)

-- the same of a designator's name
abbrev pub whole_name : {F : Type 0} → Place → Named F → Judged Decl
whole_name place name = whole_word place (is_empty name.parts) name.word

abbrev pub is_qual_whole : Bool → Option Ident → Bool
is_qual_whole false (Some x) = false
is_qual_whole _ _ = true

abbrev pub qual_name : Place → Option Ident → Word → Judged Decl
qual_name place second word = whole_word place (is_qual_whole word.behind_module second) word

-- the same of a name that may have a module's before it: what stands behind the dot of another is a part of it
abbrev pub qual_named : Setting → Qual → Judged Decl
qual_named setting q = qual_name q.first.place q.second (word setting q.first q.second)
