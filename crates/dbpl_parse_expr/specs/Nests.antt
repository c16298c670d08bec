-- A function value that reads a phrase where so many may still stand inside one another.
use Rattle.std.specs.Prelude.{ℕ, List, drop, Result}
use Rattle.std.specs.declared.alloc.Global.{Global}
use denote.Ref.{Bor}
use Rattle.dbpl_base.specs.declared.place.Place.{Place}
use Rattle.dbpl_base.specs.declared.token.Token.{Token}
use Rattle.dbpl_grammar.specs.Expressions.{at_depth}
use Rattle.dbpl_grammar.specs.Reading.{Parser}
use Rattle.dbpl_tree.specs.declared.expr.ExprOf.{ExprOf}
use Rattle.dbpl_tree.specs.declared.factor.Factor.{Factor}
use Rattle.dbpl_tree.specs.declared.operators.NotOperator.{NotOperator}
use Rattle.dbpl_tree.specs.declared.range.Range.{Range}
use Rattle.dbpl_parse_expr.specs.Gives.{Reads}
use Rattle.dbpl_parse_expr.specs.declared.read_err.ReadErr.{ReadErr}

-- it may be called, and answers what is read
pub record Nests {A : Type 0} (read : Parser A) (depth : ℕ) (pre : Global → Bor (List Token) → ℕ → ℕ → Type 0)
    (post : Global → Bor (List Token) → ℕ → ℕ → Result (A × ℕ) ReadErr → Type 0) : Type 0 where
  pub callable : (alloc : Global) (tokens : Bor (List Token)) (at : ℕ) → pre alloc tokens at depth
  pub reads : (alloc : Global) (tokens : Bor (List Token)) (at : ℕ) (result : Result (A × ℕ) ReadErr)
      → post alloc tokens at depth result → Reads tokens.now result (read (drop at tokens.now))

abbrev pub ReadsExpr : (depth : ℕ) → (Global → Bor (List Token) → ℕ → ℕ → Type 0)
    → (Global → Bor (List Token) → ℕ → ℕ → Result (ExprOf Factor × ℕ) ReadErr → Type 0) → Type 0
ReadsExpr depth pre post = Nests (at_depth depth).expr depth pre post

abbrev pub ReadsRange : (depth : ℕ) → (Global → Bor (List Token) → ℕ → ℕ → Type 0)
    → (Global → Bor (List Token) → ℕ → ℕ → Result (Range × ℕ) ReadErr → Type 0) → Type 0
ReadsRange depth pre post = Nests (at_depth depth).range depth pre post

abbrev pub ReadsNegated : (depth : ℕ) → (Global → Bor (List Token) → ℕ → ℕ → Type 0)
    → (Global → Bor (List Token) → ℕ → ℕ → Result ((Place × (NotOperator × Factor)) × ℕ) ReadErr → Type 0) → Type 0
ReadsNegated depth pre post = Nests (at_depth depth).negated depth pre post
