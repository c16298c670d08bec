-- REPEAT and IF, computed from the rows.
use Rattle.std.proofs.Common.{◌≡◌, ◌+◌, ◌∙◌, ℕ, pos, Bool, true, false, not, List, [], ◌∷◌, Some, refl}
use Rattle.std.specs.Ordering.{int_cmp}
use Rattle.dbpl_core.specs.Events.{Out}
use Rattle.dbpl_core.specs.Stores as stores
use Rattle.dbpl_core.specs.Stores.{Store}
use Rattle.dbpl_core.specs.declared.comparison.Comparison.TheVariants as comparisons
use Rattle.dbpl_core.specs.declared.expr.CoreExpr.{CoreExpr, roll-CoreExpr}
use Rattle.dbpl_core.specs.declared.expr.CoreExpr.TheOpen as exprs
use Rattle.dbpl_core.specs.declared.program.Program.{Program}
use Rattle.dbpl_core.specs.declared.relation.Relation.TheVariants as relations
use Rattle.dbpl_core.specs.declared.stmt.CoreStmtOf.{CoreStmtOf-F, roll-CoreStmtOf}
use Rattle.dbpl_core.specs.declared.stmt.CoreStmtOf.TheOpen as stmts
use Rattle.dbpl_meaning.proofs.Calling.{chars, write, write-runs}
use Rattle.dbpl_meaning.proofs.Examples.{Statement, c-reads, c_begins, c_read, calls, empty_store, ended-comes, here, inc, inc-runs, cards, literal, of-body, one-runs, opened, program, program_of, state_with, store_of}
use Rattle.dbpl_meaning.proofs.Running.{compared-runs, gives-runs, loops-runs, number_text-runs, spend-runs, then, truth-runs, turn-again, turn-ends, turn-runs, value-runs}
use Rattle.dbpl_meaning.specs.Expressions.{Calls}
use Rattle.dbpl_meaning.specs.Meaning.{Ended, calls_at, meaning}
use Rattle.dbpl_meaning.specs.Numbers.{is_related, wide}
use Rattle.dbpl_meaning.specs.State.{Done}
use Rattle.dbpl_meaning.specs.Statements.{condition, does, round_until}
use Rattle.dbpl_meaning.specs.Words.{block}
use Rattle.dbpl_value.specs.Types.{is_in}

-- ---- REPEAT INC(c) UNTIL c = 3

abbrev three_reached : CoreExpr
three_reached = roll-CoreExpr (exprs.Compared here here relations.Equal comparisons.Numbers c_read (literal 3))

abbrev repeat : CoreStmtOf-F CoreExpr Statement
repeat = stmts.Repeat here (inc ∷ []) three_reached

abbrev repeated_up : List Statement
repeated_up = roll-CoreStmtOf CoreExpr repeat ∷ []

abbrev is_three : ℕ → Bool
is_three n = is_related relations.Equal (int_cmp (pos n) (pos 3))

reached-runs :
    (left work n : ℕ) →
    condition (program repeated_up) (calls repeated_up) three_reached (state_with left work (store_of n))
    ≡ Done (is_three n) (state_with left (work + 1 + 1 + 1) (store_of n))
reached-runs left work n =
    then _ _ _ _ _ _
    (value-runs (program repeated_up) (calls repeated_up) (exprs.Compared here here relations.Equal comparisons.Numbers c_read (literal 3)) _ _
    (then _ _ _ _ _ _ (spend-runs 1 _)
    (then _ _ _ _ _ _ (c-reads repeated_up left (work + 1) n)
    (then _ _ _ _ _ _ (number_text-runs _ _ here (pos 3) _)
    (then _ _ _ _ _ _ (compared-runs relations.Equal (pos n) (pos 3) _) (gives-runs _ _))))))
    (truth-runs (is_three n) _)

round-runs :
    (left work n : ℕ) (before : Bool) → is_in wide (pos (n + 1)) ≡ true → is_in cards (pos (n + 1)) ≡ true →
    round_until (program repeated_up) (calls repeated_up) (does (program repeated_up) (calls repeated_up)) (inc ∷ []) three_reached before
    (state_with left work (store_of n))
    ≡ Done (not (is_three (n + 1))) (state_with left (work + 1 + 1 + 1 + 1 + 1) (store_of (n + 1)))
round-runs left work n before wide_lies lies =
    then _ _ _ _ _ _ (inc-runs repeated_up left work n wide_lies lies)
    (then _ _ _ _ _ _ (reached-runs left (work + 1 + 1) (n + 1)) (gives-runs _ _))

-- c is 3 afterwards
pub repeated_up-does :
    block (does (program repeated_up) (calls repeated_up)) repeated_up (opened (program repeated_up) [] 99)
    ≡ Done (tt {0}) (state_with 96 20 (store_of 3))
repeated_up-does =
    rw (c_begins repeated_up 99)
    (one-runs _ _ _ _ _
    (loops-runs _ _ _ _ _
    (turn-again _ _ _ _ _ _ _ _ _ (gives-runs true _) (turn-runs _ _ 98 _ refl (round-runs 98 3 0 true refl refl))
    (turn-again _ _ _ _ _ _ _ _ _ (gives-runs true _) (turn-runs _ _ 97 _ refl (round-runs 97 9 1 true refl refl))
    (turn-again _ _ _ _ _ _ _ _ _ (gives-runs true _) (turn-runs _ _ 96 _ refl (round-runs 96 15 2 true refl refl))
    (turn-ends _ _ _ _ _ _ (gives-runs false _)))))))

pub repeated_up-comes : meaning (program repeated_up) [] [] 100 ≡ record { events = []; stands = Ended; input = []; work = 20 }
repeated_up-comes = of-body _ _ _ _ _ ∙ ended-comes (program repeated_up) _ [] 99 _ repeated_up-does

-- ---- IF FALSE THEN Write('a') ELSIF e THEN Write('b') ELSE Write('c') END, with TRUE and with FALSE for e

abbrev writing : ℕ → List Statement
writing byte = roll-CoreStmtOf CoreExpr (write byte) ∷ []

abbrev choice : ℕ → CoreStmtOf-F CoreExpr Statement
choice e =
    stmts.If here
    (record { condition = literal 0; statements = writing 97 } ∷ record { condition = literal e; statements = writing 98 } ∷ [])
    (Some (writing 99))

abbrev choosing : ℕ → Program
choosing e = program_of [] [] (roll-CoreStmtOf CoreExpr (choice e) ∷ [])

literal-holds :
    (program : Program) (calls : Calls) (work : ℕ) (store : Store) →
    condition program calls (literal 1) (state_with 99 work store) ≡ Done true (state_with 99 (work + 1) store)
literal-holds program calls work store = then _ _ _ _ _ _ (number_text-runs program calls here (pos 1) _) (truth-runs true _)

literal-fails :
    (program : Program) (calls : Calls) (work : ℕ) (store : Store) →
    condition program calls (literal 0) (state_with 99 work store) ≡ Done false (state_with 99 (work + 1) store)
literal-fails program calls work store = then _ _ _ _ _ _ (number_text-runs program calls here (pos 0) _) (truth-runs false _)

writing-runs :
    (program : Program) (byte : ℕ) (store : Store) → is_in chars (pos byte) ≡ true →
    block (does program (calls_at program 9999)) (writing byte) (state_with 99 4 store) ≡ Done (tt {0}) (state_with 98 15 (stores.says (byte ∷ []) store))
writing-runs program byte store lies =
    then (does program (calls_at program 9999) (roll-CoreStmtOf CoreExpr (write byte))) _ _ _ _ _ (write-runs program 9998 byte 98 4 store lies) (gives-runs _ _)

pub elsif-comes : meaning (choosing 1) [] [] 100 ≡ record { events = Out 98 ∷ []; stands = Ended; input = []; work = 15 }
unfolding stores.opens stores.says
elsif-comes =
    let all : Program = choosing 1 in
    let calls : Calls = calls_at all 9999 in
    let store : Store = empty_store all in
    of-body _ _ _ _ _ ∙
    ended-comes all _ [] 99 (state_with 98 15 (stores.says (98 ∷ []) store))
    (one-runs all calls (choice 1) _ _
    (then (condition all calls (literal 0)) _ _ _ false _ (literal-fails all calls 2 store)
    (then (condition all calls (literal 1)) _ _ _ true _ (literal-holds all calls 3 store) (writing-runs all 98 store refl))))

pub else-comes : meaning (choosing 0) [] [] 100 ≡ record { events = Out 99 ∷ []; stands = Ended; input = []; work = 15 }
unfolding stores.opens stores.says
else-comes =
    let all : Program = choosing 0 in
    let calls : Calls = calls_at all 9999 in
    let store : Store = empty_store all in
    of-body _ _ _ _ _ ∙
    ended-comes all _ [] 99 (state_with 98 15 (stores.says (99 ∷ []) store))
    (one-runs all calls (choice 0) _ _
    (then (condition all calls (literal 0)) _ _ _ false _ (literal-fails all calls 2 store)
    (then (condition all calls (literal 0)) _ _ _ false _ (literal-fails all calls 3 store) (writing-runs all 99 store refl))))
