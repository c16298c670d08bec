-- The names before the index stand behind those that were there.
use Rattle.std.proofs.Common.{◌≡◌, ◌∷◌, ◌++◌, map, take}
use Rattle.dbpl_stored_form.proofs.names.add_names.Given as goal

abbrev pub invariant-loop-ident : goal.invariant-loop-ident
invariant-loop-ident l =
    l.names ≡ l.fn.names ++ l.fn.idents.first.name ∷ map (λ ident. ident.name) (take l.ident-index l.fn.idents.others)
