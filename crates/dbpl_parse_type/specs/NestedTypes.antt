-- A function value that reads a type where so many phrases may still stand inside one another.
use Rattle.std.specs.Prelude.{ℕ, List, Result}
use Rattle.std.specs.declared.alloc.Global.{Global}
use denote.Ref.{Bor}
use Rattle.dbpl_base.specs.declared.token.Token.{Token}
use Rattle.dbpl_grammar.specs.Types.{type_at}
use Rattle.dbpl_parse_expr.specs.Nests.{Nests}
use Rattle.dbpl_parse_expr.specs.declared.read_err.ReadErr.{ReadErr}
use Rattle.dbpl_tree.specs.declared.type_tree.TypeTree.{TypeTree}

abbrev pub ReadsType : (depth : ℕ) → (Global → Bor (List Token) → ℕ → ℕ → Type 0)
    → (Global → Bor (List Token) → ℕ → ℕ → Result (TypeTree × ℕ) ReadErr → Type 0) → Type 0
ReadsType depth pre post = Nests (type_at depth) depth pre post
