-- CASE with a label that fits, computed from the rows: of a range, and of constants for which the tree carries a host in which
-- they aren't.
use Rattle.std.proofs.Common.{◌≡◌, ◌+◌, ◌∙◌, ℕ, ℤ, pos, negsuc, true, List, [], ◌∷◌, None, refl}
use Rattle.dbpl_core.specs.Events.{Out}
use Rattle.dbpl_core.specs.Stores as stores
use Rattle.dbpl_core.specs.Stores.{Store}
use Rattle.dbpl_core.specs.declared.expr.CoreExpr.{CoreExpr, CoreExpr-F, roll-CoreExpr}
use Rattle.dbpl_core.specs.declared.expr.CoreExpr.TheOpen as exprs
use Rattle.dbpl_core.specs.declared.program.Program.{Program}
use Rattle.dbpl_core.specs.declared.sign.Sign.TheVariants as signs
use Rattle.dbpl_core.specs.declared.stmt.CoreStmtOf.{CoreStmtOf-F, roll-CoreStmtOf}
use Rattle.dbpl_core.specs.declared.stmt.CoreStmtOf.TheOpen as stmts
use Rattle.dbpl_meaning.proofs.Calling.{write, write-runs}
use Rattle.dbpl_meaning.proofs.Examples.{Statement, case-runs, empty, empty-runs, empty_store, ended-comes, here, literal, of-body, one-runs, program_of, state_with, word_case}
use Rattle.dbpl_meaning.proofs.Running.{exact-runs, gives-runs, number-runs, number_text-runs, spend-runs, then, value-runs}
use Rattle.dbpl_meaning.specs.Expressions.{Calls, value_of}
use Rattle.dbpl_meaning.specs.Meaning.{Ended, calls_at, meaning}
use Rattle.dbpl_meaning.specs.State.{Done}
use Rattle.dbpl_meaning.specs.Statements.{does, is_constant_level, is_labelled, number_of_case}
use Rattle.dbpl_meaning.specs.Words.{block}
use Rattle.dbpl_value.specs.Types.{is_in}
use Rattle.dbpl_value.specs.declared.db_type.DbType.{DbType}
use Rattle.dbpl_value.specs.declared.db_type.DbType.TheVariants as kinds
use Rattle.dbpl_value.specs.declared.range.Range.{Range}
use Rattle.dbpl_value.specs.declared.value.Value.TheVariants as value

-- ---- CASE n OF label: body END, with a constant n and this host

module _ (x : CoreExpr-F CoreExpr) (n : ℤ) (host : DbType) (label : Range) (body : List Statement) where
  abbrev cased : CoreStmtOf-F CoreExpr Statement
  cased = stmts.Case word_case (roll-CoreExpr x) host (record { labels = label ∷ []; statements = body } ∷ []) None

  abbrev casing : Program
  casing = program_of [] [] (roll-CoreStmtOf CoreExpr cased ∷ [])

  labelled-runs : (left work : ℕ) (store : Store) → is_in label n ≡ true → is_labelled n (label ∷ []) (state_with left work store) ≡ Done true (state_with left (work + 1) store)
  labelled-runs left work store lies = then _ _ _ _ _ _ (spend-runs 1 _) (rw lies (gives-runs true _))

  -- the body of the program, where the expression costs so much, and so do the statements behind the label
  case-comes :
      (cost left work : ℕ) (store : Store) → is_constant_level x ≡ true → is_in label n ≡ true →
      value_of casing (calls_at casing 9999) (roll-CoreExpr x) (state_with 99 2 (empty_store casing)) ≡ Done (value.Num n) (state_with 99 (2 + cost) (empty_store casing)) →
      block (does casing (calls_at casing 9999)) body (state_with 99 (2 + cost + 1) (empty_store casing)) ≡ Done (tt {0}) (state_with left work store) →
      block (does casing (calls_at casing 9999)) (roll-CoreStmtOf CoreExpr cased ∷ []) (state_with 99 1 (empty_store casing)) ≡ Done (tt {0}) (state_with left work store)
  case-comes cost left work store constant lies number rest =
      let calls : Calls = calls_at casing 9999 in
      one-runs casing calls cased _ _
      (then (number_of_case casing calls host (roll-CoreExpr x)) _ _ _ n _ (case-runs casing calls host x n _ _ constant number)
      (then (is_labelled n (label ∷ [])) _ _ _ true _ (labelled-runs 99 (2 + cost) (empty_store casing) lies) rest))

abbrev from_to : ℤ → ℤ → Range
from_to least greatest = record { least = least; greatest = greatest }

-- ---- CASE 2 OF 1 .. 3: Write('x') END

abbrev two : CoreExpr-F CoreExpr
two = exprs.Number here (pos 2)

abbrev x_written : List Statement
x_written = roll-CoreStmtOf CoreExpr (write 120) ∷ []

abbrev in_range : Program
in_range = casing two (pos 2) kinds.Card (from_to (pos 1) (pos 3)) x_written

pub in_range-comes : meaning in_range [] [] 100 ≡ record { events = Out 120 ∷ []; stands = Ended; input = []; work = 15 }
unfolding stores.opens stores.says
in_range-comes =
    of-body _ _ _ _ _ ∙
    ended-comes in_range _ [] 99 (state_with 98 15 (stores.says (120 ∷ []) (empty_store in_range)))
    (case-comes two (pos 2) kinds.Card (from_to (pos 1) (pos 3)) x_written 1 98 15 _ refl refl (number_text-runs in_range (calls_at in_range 9999) here (pos 2) _)
    (then (does in_range (calls_at in_range 9999) (roll-CoreStmtOf CoreExpr (write 120))) _ _ _ _ _ (write-runs in_range 9998 120 98 4 (empty_store in_range) refl) (gives-runs _ _)))

-- ---- CASE -1 OF -1: END, where the tree carries CARDINAL

abbrev minus_one : CoreExpr-F CoreExpr
minus_one = exprs.Signed here signs.Minus None (literal 1)

abbrev below_cards : Program
below_cards = casing minus_one (negsuc 0) kinds.Card (from_to (negsuc 0) (negsuc 0)) (empty ∷ [])

pub below_cards-comes : meaning below_cards [] [] 100 ≡ record { events = []; stands = Ended; input = []; work = 6 }
unfolding stores.opens
below_cards-comes =
    let calls : Calls = calls_at below_cards 9999 in
    of-body _ _ _ _ _ ∙
    ended-comes below_cards _ [] 99 (state_with 99 6 (empty_store below_cards))
    (case-comes minus_one (negsuc 0) kinds.Card (from_to (negsuc 0) (negsuc 0)) (empty ∷ []) 2 99 6 _ refl refl
    (value-runs below_cards calls minus_one _ _
    (then _ _ _ _ _ _ (spend-runs 1 _)
    (then _ _ _ _ _ _ (number_text-runs below_cards calls here (pos 1) _)
    (then _ _ _ _ _ _ (number-runs (pos 1) _)
    (then _ _ _ _ _ _ (exact-runs (negsuc 0) _ refl) (gives-runs _ _))))))
    (empty-runs below_cards calls 99 5 (empty_store below_cards)))

-- ---- CASE 4294967295 OF 4294967295: END, where the tree carries INTEGER

abbrev most_cards : CoreExpr-F CoreExpr
most_cards = exprs.Number here (pos 4294967295)

abbrev above_ints : Program
above_ints = casing most_cards (pos 4294967295) kinds.Int (from_to (pos 4294967295) (pos 4294967295)) (empty ∷ [])

pub above_ints-comes : meaning above_ints [] [] 100 ≡ record { events = []; stands = Ended; input = []; work = 5 }
unfolding stores.opens
above_ints-comes =
    let calls : Calls = calls_at above_ints 9999 in
    of-body _ _ _ _ _ ∙
    ended-comes above_ints _ [] 99 (state_with 99 5 (empty_store above_ints))
    (case-comes most_cards (pos 4294967295) kinds.Int (from_to (pos 4294967295) (pos 4294967295)) (empty ∷ []) 1 99 5 _ refl refl
    (number_text-runs above_ints calls here (pos 4294967295) _)
    (empty-runs above_ints calls 99 4 (empty_store above_ints)))
