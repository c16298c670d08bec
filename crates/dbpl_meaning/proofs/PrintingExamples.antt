-- What is printed, computed from the rows.
use Rattle.std.proofs.Common.{◌≡◌, ◌+◌, ◌+ℤ◌, ◌∙◌, ℕ, suc, pos, negsuc, true, false, List, [], ◌∷◌, ◌++◌, Some, None, ap, refl}
use Rattle.std.specs.Fmt.{digits}
use Rattle.dbpl_core.specs.Events.{Event, Out}
use Rattle.dbpl_core.specs.Stores as stores
use Rattle.dbpl_core.specs.Stores.{Store}
use Rattle.dbpl_core.specs.declared.argument_of.CoreArgumentOf.TheVariants as arguments
use Rattle.dbpl_core.specs.declared.expr.CoreExpr.{CoreExpr, CoreExpr-F, roll-CoreExpr}
use Rattle.dbpl_core.specs.declared.expr.CoreExpr.TheOpen as exprs
use Rattle.dbpl_core.specs.declared.in_out_procedure.InOutProcedure.TheVariants as procedures
use Rattle.dbpl_core.specs.declared.program.Program.{Program}
use Rattle.dbpl_core.specs.declared.sign.Sign.TheVariants as signs
use Rattle.dbpl_core.specs.declared.stmt.CoreStmtOf.{CoreStmtOf-F, roll-CoreStmtOf}
use Rattle.dbpl_core.specs.declared.stmt.CoreStmtOf.TheOpen as stmts
use Rattle.dbpl_meaning.proofs.Calling.{prints-runs, write, write-runs}
use Rattle.dbpl_meaning.proofs.Examples.{Statement, empty_store, program_of, c-led, c_begins, c_named, c_read, calls, card-range, cards, control, ended-comes, here, in_out-runs, literal, literal-host, of-body, one-runs, opened, program, state_with, store_of, width, width-range}
use Rattle.dbpl_meaning.proofs.Running.{exact-runs, number-runs, fits-runs, fitted-runs, gives-runs, loops-runs, number_of_card-runs, number_text-runs, of_card-runs, spend-runs, then, turn-again, turn-ends, turn-runs, value-runs}
use Rattle.dbpl_meaning.proofs.TrapExamples.{int-range, ints, of_int-runs}
use Rattle.dbpl_meaning.specs.Declared.{global_reference}
use Rattle.dbpl_meaning.specs.Expressions.{Calls, value_of}
use Rattle.dbpl_meaning.specs.InOut.{number_text}
use Rattle.dbpl_meaning.specs.Meaning.{Ended, calls_at, meaning}
use Rattle.dbpl_meaning.specs.State.{Done}
use Rattle.dbpl_meaning.specs.Statements.{carried_host, does, number_in_host, round_with}
use Rattle.dbpl_meaning.specs.Words.{assigns, block, looks, replaces, value_at, writes}
use Rattle.dbpl_value.specs.Types.{is_in}
use Rattle.dbpl_value.specs.declared.db_type.DbType.TheVariants as kinds
use Rattle.dbpl_value.specs.declared.value.Value.TheVariants as value

-- ---- FOR c := 3 TO 1 BY -1 DO WriteCard(c, 0) END

abbrev c_written : CoreStmtOf-F CoreExpr Statement
c_written =
    stmts.InOut here procedures.WriteCard
    (arguments.Value (roll-CoreExpr (exprs.Fitted here kinds.Card c_read)) ∷
    arguments.Value (roll-CoreExpr (exprs.Fitted here width (literal 0))) ∷ [])

abbrev falling_for : CoreStmtOf-F CoreExpr Statement
falling_for = stmts.For here control (literal 3) (literal 1) (Some (negsuc 0)) (roll-CoreStmtOf CoreExpr c_written ∷ [])

abbrev down : List Statement
down = roll-CoreStmtOf CoreExpr falling_for ∷ []

-- with these events so far
abbrev shown : ℕ → List Event → Store
shown n events = record (store_of n) { events = events }

reads-runs : (left work n : ℕ) (events : List Event) → value_of (program down) (calls down) c_read (state_with left work (shown n events)) ≡ Done (value.Num (pos n)) (state_with left (work + 1) (shown n events))
unfolding value_at looks stores.reads
reads-runs left work n events = value-runs (program down) (calls down) (exprs.Read c_named kinds.Card) _ _ (then _ _ _ _ _ _ (c-led down _) refl)

gets-runs :
    (left work n m : ℕ) (events : List Event) → is_in cards (pos m) ≡ true →
    assigns (global_reference 0) (value.Num (pos m)) (state_with left work (shown n events)) ≡ Done (tt {0}) (state_with left work (shown m events))
unfolding assigns looks replaces stores.puts
gets-runs left work n m events lies = then _ _ _ _ _ _ refl (then _ _ _ _ _ _ (of_card-runs (pos m) _ lies) refl)

says-runs :
    (left work m byte : ℕ) (events : List Event) → number_text (pos m) 0 ≡ byte ∷ [] →
    writes (number_text (pos m) 0) (state_with left work (shown m events)) ≡ Done (tt {0}) (state_with left (work + 8) (shown m (events ++ Out byte ∷ [])))
unfolding stores.says
says-runs left work m byte events is =
    ap (λ (bytes : List ℕ). writes bytes (state_with left work (shown m events))) is ∙ prints-runs (byte ∷ []) left work (shown m events)

written-runs :
    (left work m byte : ℕ) (events : List Event) → is_in cards (pos m) ≡ true → number_text (pos m) 0 ≡ byte ∷ [] →
    block (does (program down) (calls down)) (roll-CoreStmtOf CoreExpr c_written ∷ []) (state_with (suc left) work (shown m events))
    ≡ Done (tt {0}) (state_with left (work + 1 + 1 + 1 + 1 + 8) (shown m (events ++ Out byte ∷ [])))
written-runs left work m byte events lies is =
    one-runs (program down) (calls down) c_written _ _
    (then _ _ _ _ _ _
    (then _ _ _ _ _ _
    (then _ _ _ _ _ _ (fits-runs (program down) (calls down) here kinds.Card cards c_read (pos m) _ _ card-range lies (reads-runs (suc left) (work + 1) m events)) (gives-runs _ _))
    (then _ _ _ _ _ _
    (then _ _ _ _ _ _
    (then _ _ _ _ _ _ (fits-runs (program down) (calls down) here width _ (literal 0) (pos 0) _ _ width-range refl (number_text-runs (program down) (calls down) here (pos 0) _)) (gives-runs _ _))
    (then _ _ _ _ _ _ (gives-runs _ _) (gives-runs _ _)))
    (gives-runs _ _)))
    (in_out-runs (program down) here _ _ _ left refl
    (then _ _ _ _ _ _ (number_of_card-runs (pos m) _ lies)
    (then _ _ _ _ _ _ (number_of_card-runs (pos 0) _ refl) (says-runs left (work + 1 + 1 + 1 + 1) m byte events is)))))

-- a turn with the number m where c was n
round-runs :
    (left work n m byte : ℕ) (events : List Event) → is_in cards (pos m) ≡ true → number_text (pos m) 0 ≡ byte ∷ [] →
    round_with (program down) (calls down) (does (program down) (calls down)) control (negsuc 0) (roll-CoreStmtOf CoreExpr c_written ∷ []) (pos m)
    (state_with (suc left) work (shown n events))
    ≡ Done (pos m +ℤ negsuc 0) (state_with left (work + 1 + 1 + 1 + 1 + 1 + 8) (shown m (events ++ Out byte ∷ [])))
round-runs left work n m byte events lies is =
    then _ _ _ _ _ _
    (then _ _ _ _ _ _ (c-led down _)
    (then _ _ _ _ _ _ (fitted-runs kinds.Card cards here (pos m) _ card-range lies) (gets-runs (suc left) (work + 1) n m events lies)))
    (then _ _ _ _ _ _ (written-runs left (work + 1) m byte events lies is) (gives-runs _ _))

bound-runs :
    (n left work : ℕ) (store : Store) → is_in cards (pos n) ≡ true →
    number_in_host (program down) (calls down) (carried_host kinds.Card (literal n)) (literal n) (state_with left work store)
    ≡ Done (pos n) (state_with left (work + 1) store)
bound-runs n left work store lies =
    rw (literal-host n) (then _ _ _ _ _ _ (number_text-runs (program down) (calls down) here (pos n) _) (number_of_card-runs (pos n) _ lies))

-- c is 1 afterwards
pub down-does :
    block (does (program down) (calls down)) down (opened (program down) [] 99)
    ≡ Done (tt {0}) (state_with 93 47 (shown 1 (Out 51 ∷ Out 50 ∷ Out 49 ∷ [])))
unfolding digits
down-does =
    rw (c_begins down 99)
    (one-runs _ _ _ _ _
    (then _ _ _ _ _ _ (bound-runs 3 99 2 (store_of 0) refl)
    (then _ _ _ _ _ _ (bound-runs 1 99 3 (store_of 0) refl)
    (then _ _ _ _ _ _ (spend-runs 1 _)
    (loops-runs _ _ _ _ _
    (turn-again _ _ _ _ _ _ _ _ _ (gives-runs true _) (turn-runs _ _ 98 _ refl (round-runs 97 6 0 3 51 [] refl refl))
    (turn-again _ _ _ _ _ _ _ _ _ (gives-runs true _) (turn-runs _ _ 96 _ refl (round-runs 95 20 3 2 50 (Out 51 ∷ []) refl refl))
    (turn-again _ _ _ _ _ _ _ _ _ (gives-runs true _) (turn-runs _ _ 94 _ refl (round-runs 93 34 2 1 49 (Out 51 ∷ Out 50 ∷ []) refl refl))
    (turn-ends _ _ _ _ _ _ (gives-runs false _))))))))))

pub down-comes : meaning (program down) [] [] 100 ≡ record { events = Out 51 ∷ Out 50 ∷ Out 49 ∷ []; stands = Ended; input = []; work = 47 }
down-comes = of-body _ _ _ _ _ ∙ ended-comes (program down) _ [] 99 _ down-does

-- ---- Write('x'); WriteLn

abbrev line_written : CoreStmtOf-F CoreExpr Statement
line_written = stmts.InOut here procedures.WriteLn []

abbrev x_line : Program
x_line = program_of [] [] (roll-CoreStmtOf CoreExpr (write 120) ∷ roll-CoreStmtOf CoreExpr line_written ∷ [])

pub x_line-comes : meaning x_line [] [] 100 ≡ record { events = Out 120 ∷ Out 10 ∷ []; stands = Ended; input = []; work = 22 }
unfolding stores.opens stores.says
x_line-comes =
    let lines : Calls = calls_at x_line 9999 in
    let printed : Store = stores.says (120 ∷ []) (empty_store x_line) in
    of-body _ _ _ _ _ ∙
    ended-comes x_line _ [] 99 (state_with 97 22 (stores.says (10 ∷ []) printed))
    (then (does x_line lines (roll-CoreStmtOf CoreExpr (write 120))) _ _ (state_with 98 12 printed) _ _ (write-runs x_line 9998 120 98 1 (empty_store x_line) refl)
    (one-runs x_line lines line_written _ _
    (then _ _ _ _ _ _ (gives-runs [] _) (in_out-runs x_line here _ _ _ 97 refl (prints-runs (10 ∷ []) 97 14 printed)))))

-- ---- WriteInt(-4, 4)

abbrev minus_four : CoreExpr-F CoreExpr
minus_four = exprs.Signed here signs.Minus None (literal 4)

abbrev int_written : CoreStmtOf-F CoreExpr Statement
int_written =
    stmts.InOut here procedures.WriteInt
    (arguments.Value (roll-CoreExpr (exprs.Fitted here kinds.Int (roll-CoreExpr minus_four))) ∷
    arguments.Value (roll-CoreExpr (exprs.Fitted here width (literal 4))) ∷ [])

abbrev signed : Program
signed = program_of [] [] (roll-CoreStmtOf CoreExpr int_written ∷ [])

minus_four-runs :
    (left work : ℕ) (store : Store) →
    value_of signed (calls_at signed 9999) (roll-CoreExpr minus_four) (state_with left work store) ≡ Done (value.Num (negsuc 3)) (state_with left (work + 1 + 1) store)
minus_four-runs left work store =
    value-runs signed (calls_at signed 9999) minus_four _ _
    (then _ _ _ _ _ _ (spend-runs 1 _)
    (then _ _ _ _ _ _ (number_text-runs signed (calls_at signed 9999) here (pos 4) _)
    (then _ _ _ _ _ _ (number-runs (pos 4) _)
    (then _ _ _ _ _ _ (exact-runs (negsuc 3) _ refl) (gives-runs _ _)))))

minus_four-text : number_text (negsuc 3) 4 ≡ 32 ∷ 32 ∷ 45 ∷ 52 ∷ []
unfolding digits
minus_four-text = refl

pub signed-comes :
    meaning signed [] [] 100 ≡ record { events = Out 32 ∷ Out 32 ∷ Out 45 ∷ Out 52 ∷ []; stands = Ended; input = []; work = 38 }
unfolding stores.opens stores.says
signed-comes =
    let all : Calls = calls_at signed 9999 in
    let store : Store = empty_store signed in
    of-body _ _ _ _ _ ∙
    ended-comes signed _ [] 99 (state_with 98 38 (stores.says (32 ∷ 32 ∷ 45 ∷ 52 ∷ []) store))
    (one-runs signed all int_written _ _
    (then _ _ _ _ _ _
    (then _ _ _ _ _ _
    (then _ _ _ _ _ _ (fits-runs signed all here kinds.Int ints (roll-CoreExpr minus_four) (negsuc 3) _ _ int-range refl (minus_four-runs 99 2 store)) (gives-runs _ _))
    (then _ _ _ _ _ _
    (then _ _ _ _ _ _
    (then _ _ _ _ _ _ (fits-runs signed all here width _ (literal 4) (pos 4) _ _ width-range refl (number_text-runs signed all here (pos 4) _)) (gives-runs _ _))
    (then _ _ _ _ _ _ (gives-runs _ _) (gives-runs _ _)))
    (gives-runs _ _)))
    (in_out-runs signed here _ _ _ 98 refl
    (then _ _ _ _ (negsuc 3) _ (then _ _ _ _ _ _ (of_int-runs (negsuc 3) _ refl) (number-runs (negsuc 3) _))
    (then _ _ _ _ (pos 4) _ (number_of_card-runs (pos 4) _ refl)
    (ap (λ (bytes : List ℕ). writes bytes (state_with 98 6 store)) minus_four-text ∙ prints-runs (32 ∷ 32 ∷ 45 ∷ 52 ∷ []) 98 6 store))))))
