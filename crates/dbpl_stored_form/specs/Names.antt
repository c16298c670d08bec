-- Phrases that are one name.
use Rattle.std.specs.Prelude.{ℕ, Bool, false, not, ◌&&◌, is_some, List, ◌∷◌, map}
use Rattle.dbpl_tree.specs.Plain.{has_name}
use Rattle.dbpl_tree.specs.declared.ident.Idents.{Idents}
use Rattle.dbpl_tree.specs.declared.ident.Qual.{Qual}
use Rattle.dbpl_tree.specs.declared.type_tree.TypeTree.{TypeTree, TypeTree-F, out-TypeTree}
use Rattle.dbpl_tree.specs.declared.type_tree.TypeTree.TheOpen as types

abbrev pub names_of : Idents → List (List ℕ)
names_of idents = map (λ ident. ident.name) (idents.first ∷ idents.others)

-- a name without that of a module before it
abbrev pub is_plain : List ℕ → Qual → Bool
is_plain name qual = has_name name qual.first && not (is_some qual.second)

abbrev pub names_type : {T : Type 0} → List ℕ → TypeTree-F T → Bool
names_type name (types.Named qual) = is_plain name qual
names_type name _ = false

-- the type is this name and nothing else
abbrev pub is_type_name : List ℕ → TypeTree → Bool
is_type_name name t = names_type name (out-TypeTree t)
