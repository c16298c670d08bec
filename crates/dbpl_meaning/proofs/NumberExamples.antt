-- Expressions and counts, computed from the rows.
use Rattle.std.proofs.Common.{◌≡◌, ◌+◌, ◌∙◌, ℕ, ℤ, pos, negsuc, true, false, List, [], ◌∷◌, Some, None, refl}
use Rattle.dbpl_base.specs.declared.place.Place.{Place}
use Rattle.dbpl_core.specs.Stores.{Store}
use Rattle.dbpl_core.specs.Stores as stores
use Rattle.dbpl_core.specs.declared.arithmetic_operator.ArithmeticOperator.TheVariants as operators
use Rattle.dbpl_core.specs.declared.direction.Direction.TheVariants as directions
use Rattle.dbpl_core.specs.declared.expr.CoreExpr.{CoreExpr, CoreExpr-F, roll-CoreExpr}
use Rattle.dbpl_core.specs.declared.expr.CoreExpr.TheOpen as exprs
use Rattle.dbpl_core.specs.declared.logical_operator.LogicalOperator.TheVariants as logical
use Rattle.dbpl_core.specs.declared.program.Program.{Program}
use Rattle.dbpl_core.specs.declared.sign.Sign.TheVariants as signs
use Rattle.dbpl_core.specs.declared.stmt.CoreStmtOf.{CoreStmtOf-F, roll-CoreStmtOf}
use Rattle.dbpl_core.specs.declared.stmt.CoreStmtOf.TheOpen as stmts
use Rattle.dbpl_core.specs.declared.whole_host.WholeHost.TheVariants as hosts
use Rattle.dbpl_meaning.proofs.Examples.{Statement, c-gets, c-led, c-reads, c_begins, c_named, c_read, calls, card-range, cards, ended-comes, here, literal, of-body, opened, program, state_with, store_of, trap-comes}
use Rattle.dbpl_meaning.proofs.Running.{exact-runs, fits-runs, fitted-runs, gives-runs, number-runs, number_text-runs, row-runs, spend-runs, stopped, then, truth-runs, value-runs}
use Rattle.dbpl_meaning.specs.Expressions.{Calls, value_of}
use Rattle.dbpl_meaning.specs.Meaning.{Ended, Trapped, meaning}
use Rattle.dbpl_meaning.specs.Numbers.{reckoned}
use Rattle.dbpl_meaning.specs.State as phrase
use Rattle.dbpl_meaning.specs.State.{Doing, Done, State, Stops}
use Rattle.dbpl_meaning.specs.Statements.{does}
use Rattle.dbpl_meaning.specs.Words.{block, looks, nothing, stops, trap, value_at}
use Rattle.dbpl_value.specs.declared.db_type.DbType.TheVariants as kinds
use Rattle.dbpl_value.specs.declared.value.Value.TheVariants as value

-- ---- constants, in any program and state

module _ (program : Program) (calls : Calls) (left work : ℕ) (store : Store) where
  abbrev minus : ℕ → CoreExpr-F CoreExpr
  minus n = exprs.Signed here signs.Minus None (literal n)

  minus_seven-runs :
      (work : ℕ) → value_of program calls (roll-CoreExpr (minus 7)) (state_with left work store) ≡ Done (value.Num (negsuc 6)) (state_with left (work + 1 + 1) store)
  minus_seven-runs work =
      value-runs program calls (minus 7) _ _
      (then _ _ _ _ _ _ (spend-runs 1 _)
      (then _ _ _ _ _ _ (number_text-runs program calls here (pos 7) _)
      (then _ _ _ _ _ _ (number-runs (pos 7) _)
      (then _ _ _ _ _ _ (exact-runs (negsuc 6) _ refl) (gives-runs _ _)))))

  -- (-7) DIV 2 is -4
  pub quotient-runs :
      value_of program calls (roll-CoreExpr (exprs.Arithmetic here here operators.Div None (roll-CoreExpr (minus 7)) (literal 2))) (state_with left work store)
      ≡ Done (value.Num (negsuc 3)) (state_with left (work + 1 + 1 + 1 + 1) store)
  quotient-runs =
      value-runs program calls (exprs.Arithmetic here here operators.Div None (roll-CoreExpr (minus 7)) (literal 2)) _ _
      (then _ _ _ _ _ _ (spend-runs 1 _)
      (then _ _ _ _ _ _ (minus_seven-runs (work + 1))
      (then _ _ _ _ _ _ (number-runs (negsuc 6) _)
      (then _ _ _ _ _ _ (number_text-runs program calls here (pos 2) _)
      (then _ _ _ _ _ _ (number-runs (pos 2) _)
      (then _ _ _ _ _ _ (gives-runs (negsuc 3) _)
      (then _ _ _ _ _ _ (exact-runs (negsuc 3) _ refl) (gives-runs _ _))))))))

  -- (-7) MOD 2 is 1
  pub rest-runs :
      value_of program calls (roll-CoreExpr (exprs.Arithmetic here here operators.Mod None (roll-CoreExpr (minus 7)) (literal 2))) (state_with left work store)
      ≡ Done (value.Num (pos 1)) (state_with left (work + 1 + 1 + 1 + 1) store)
  rest-runs =
      value-runs program calls (exprs.Arithmetic here here operators.Mod None (roll-CoreExpr (minus 7)) (literal 2)) _ _
      (then _ _ _ _ _ _ (spend-runs 1 _)
      (then _ _ _ _ _ _ (minus_seven-runs (work + 1))
      (then _ _ _ _ _ _ (number-runs (negsuc 6) _)
      (then _ _ _ _ _ _ (number_text-runs program calls here (pos 2) _)
      (then _ _ _ _ _ _ (number-runs (pos 2) _)
      (then _ _ _ _ _ _ (gives-runs (pos 1) _)
      (then _ _ _ _ _ _ (exact-runs (pos 1) _ refl) (gives-runs _ _))))))))

  -- FALSE AND b is FALSE, whatever b is
  pub and-runs :
      (b : CoreExpr) →
      value_of program calls (roll-CoreExpr (exprs.Logical here logical.And (literal 0) b)) (state_with left work store)
      ≡ Done (value.Num (pos 0)) (state_with left (work + 1 + 1) store)
  and-runs b =
      value-runs program calls (exprs.Logical here logical.And (literal 0) b) _ _
      (then _ _ _ _ _ _ (spend-runs 1 _)
      (then _ _ _ _ _ _ (number_text-runs program calls here (pos 0) _)
      (then _ _ _ _ _ _ (truth-runs false _) (gives-runs _ _))))

  -- TRUE OR b is TRUE, whatever b is
  pub or-runs :
      (b : CoreExpr) →
      value_of program calls (roll-CoreExpr (exprs.Logical here logical.Or (literal 1) b)) (state_with left work store)
      ≡ Done (value.Num (pos 1)) (state_with left (work + 1 + 1) store)
  or-runs b =
      value-runs program calls (exprs.Logical here logical.Or (literal 1) b) _ _
      (then _ _ _ _ _ _ (spend-runs 1 _)
      (then _ _ _ _ _ _ (number_text-runs program calls here (pos 1) _)
      (then _ _ _ _ _ _ (truth-runs true _) (gives-runs _ _))))

  -- NOT TRUE is FALSE
  pub not-runs :
      value_of program calls (roll-CoreExpr (exprs.Not here (literal 1))) (state_with left work store)
      ≡ Done (value.Num (pos 0)) (state_with left (work + 1 + 1) store)
  not-runs =
      value-runs program calls (exprs.Not here (literal 1)) _ _
      (then _ _ _ _ _ _ (spend-runs 1 _)
      (then _ _ _ _ _ _ (number_text-runs program calls here (pos 1) _)
      (then _ _ _ _ _ _ (truth-runs true _) (gives-runs _ _))))

-- ---- c := 7 DIV c, where c is 0

-- where DIV stands
abbrev q : Place
q = record { unit = 0; line = 1; col = 9 }

abbrev by_c : CoreExpr-F CoreExpr
by_c = exprs.Arithmetic here q operators.Div (Some hosts.Cardinal) (literal 7) c_read

abbrev divided_by_c : CoreStmtOf-F CoreExpr Statement
divided_by_c = stmts.Assign here c_named (roll-CoreExpr (exprs.Fitted here kinds.Card (roll-CoreExpr by_c)))

abbrev dividing : List Statement
dividing = roll-CoreStmtOf CoreExpr divided_by_c ∷ []

zero-traps : (n : ℤ) (state : State) → reckoned operators.Div q n (pos 0) state ≡ Stops (phrase.Trapped (trap 2 q)) state
unfolding stops
zero-traps n state = refl

dividing-stops :
    block (does (program dividing) (calls dividing)) dividing (opened (program dividing) [] 99)
    ≡ Stops (phrase.Trapped (trap 2 q)) (state_with 99 6 (store_of 0))
dividing-stops =
    rw (c_begins dividing 99)
    (stopped (does (program dividing) (calls dividing) (roll-CoreStmtOf CoreExpr divided_by_c)) (λ _. nothing) _ _ _
    (row-runs _ _ divided_by_c _ _
    (then _ _ _ _ _ _ (c-led dividing _)
    (stopped _ _ _ _ _
    (value-runs _ _ (exprs.Fitted here kinds.Card (roll-CoreExpr by_c)) _ _
    (stopped _ _ _ _ _
    (value-runs _ _ by_c _ _
    (then _ _ _ _ _ _ (spend-runs 1 _)
    (then _ _ _ _ _ _ (number_text-runs _ _ here (pos 7) _)
    (then _ _ _ _ _ _ (number-runs (pos 7) _)
    (then _ _ _ _ _ _ (c-reads dividing 99 5 0)
    (then _ _ _ _ _ _ (number-runs (pos 0) _)
    (stopped _ _ _ _ _ (zero-traps (pos 7) _))))))))))))))

pub dividing-comes : meaning (program dividing) [] [] 100 ≡ record { events = []; stands = Trapped (trap 2 q); input = []; work = 6 }
dividing-comes = of-body _ _ _ _ _ ∙ trap-comes (program dividing) _ [] 99 _ (state_with 99 6 (store_of 0)) dividing-stops

-- ---- c := 2; DEC(c)

abbrev two_set : CoreStmtOf-F CoreExpr Statement
two_set = stmts.Assign here c_named (roll-CoreExpr (exprs.Fitted here kinds.Card (literal 2)))

abbrev dec : CoreStmtOf-F CoreExpr Statement
dec = stmts.Count here directions.Down c_named kinds.Card None

abbrev counted_down : List Statement
counted_down = roll-CoreStmtOf CoreExpr two_set ∷ roll-CoreStmtOf CoreExpr dec ∷ []

-- c is 1 afterwards
pub counted_down-does :
    block (does (program counted_down) (calls counted_down)) counted_down (opened (program counted_down) [] 99)
    ≡ Done (tt {0}) (state_with 99 6 (store_of 1))
unfolding value_at looks stores.reads
counted_down-does =
    rw (c_begins counted_down 99)
    (then (does (program counted_down) (calls counted_down) (roll-CoreStmtOf CoreExpr two_set)) _ _ (state_with 99 4 (store_of 2)) _ _
    (row-runs _ _ two_set _ _
    (then _ _ _ _ _ _ (c-led counted_down _)
    (then _ _ _ _ _ _ (fits-runs _ _ here kinds.Card cards (literal 2) (pos 2) _ _ card-range refl (number_text-runs _ _ here (pos 2) _))
    (c-gets counted_down 99 4 0 2 refl))))
    (then (does (program counted_down) (calls counted_down) (roll-CoreStmtOf CoreExpr dec)) _ _ _ _ _
    (row-runs _ _ dec _ _
    (then _ _ _ _ _ _ (c-led counted_down _)
    (then _ _ _ _ _ _ (gives-runs (pos 1) _)
    (then _ _ _ _ (value.Num (pos 2)) _ refl
    (then _ _ _ _ _ _ (number-runs (pos 2) _)
    (then _ _ _ _ _ _ (exact-runs (pos 1) _ refl)
    (then _ _ _ _ _ _ (fitted-runs kinds.Card cards here (pos 1) _ card-range refl)
    (c-gets counted_down 99 6 2 1 refl))))))))
    (gives-runs _ _)))

pub counted_down-comes : meaning (program counted_down) [] [] 100 ≡ record { events = []; stands = Ended; input = []; work = 6 }
counted_down-comes = of-body _ _ _ _ _ ∙ ended-comes (program counted_down) _ [] 99 _ counted_down-does
