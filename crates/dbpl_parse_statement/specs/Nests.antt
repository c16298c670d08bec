-- A function value that reads statements where so many phrases may still stand inside one another.
use Rattle.std.specs.Prelude.{ℕ, List, Result}
use Rattle.std.specs.declared.alloc.Global.{Global}
use denote.Ref.{Bor}
use Rattle.dbpl_base.specs.declared.token.Token.{Token}
use Rattle.dbpl_grammar.specs.Statements.{statements_at}
use Rattle.dbpl_tree.specs.declared.statement.Statement.{Statement}
use Rattle.dbpl_tree.specs.declared.statements.StatementsOf.{StatementsOf}
use Rattle.dbpl_parse_expr.specs.Nests.{Nests}
use Rattle.dbpl_parse_expr.specs.declared.read_err.ReadErr.{ReadErr}

abbrev pub ReadsStatements : (depth : ℕ) → (Global → Bor (List Token) → ℕ → ℕ → Type 0)
    → (Global → Bor (List Token) → ℕ → ℕ → Result (StatementsOf Statement × ℕ) ReadErr → Type 0) → Type 0
ReadsStatements depth pre post = Nests (statements_at depth) depth pre post
