-- Small programs, what each comes to and how much work it is, computed from the rows. All places are one here but where a
-- trap stands.
use Rattle.std.proofs.Common.{◌≡◌, ◌+◌, ℕ, suc, ℤ, ◌+ℤ◌, List, [], ◌∷◌, Option, Some, None, pos, negsuc, Bool, true, refl, ap, ◌∙◌, false}
use Rattle.std.specs.Prelude.{codes}
use Rattle.std.specs.Fmt.{digits}
use Rattle.std.specs.Ordering.{int_cmp}
use Rattle.dbpl_base.specs.declared.place.Place.{Place}
use Rattle.dbpl_core.specs.Events.{Out}
use Rattle.dbpl_core.specs.Stores as stores
use Rattle.dbpl_core.specs.Stores.{Store, first_store}
use Rattle.dbpl_core.specs.declared.arithmetic_operator.ArithmeticOperator.TheVariants as operators
use Rattle.dbpl_core.specs.declared.branch_of.CoreBranchOf.{CoreBranchOf}
use Rattle.dbpl_core.specs.declared.call_of.CoreCallOf.{CoreCallOf}
use Rattle.dbpl_core.specs.declared.cell.Cell.{Cell}
use Rattle.dbpl_core.specs.declared.cell.Cell.TheVariants as cell
use Rattle.dbpl_core.specs.declared.whole_host.WholeHost.TheVariants as hosts
use Rattle.dbpl_value.specs.declared.head.Head.{Head}
use Rattle.dbpl_core.specs.declared.control_of.CoreControlOf.{CoreControlOf}
use Rattle.dbpl_core.specs.declared.trap.Trap.{Trap}
use Rattle.dbpl_core.specs.declared.comparison.Comparison.TheVariants as comparisons
use Rattle.dbpl_core.specs.declared.direction.Direction.TheVariants as directions
use Rattle.dbpl_core.specs.declared.relation.Relation.TheVariants as relations
use Rattle.dbpl_core.specs.declared.designator_of.CoreDesignatorOf.{CoreDesignatorOf}
use Rattle.dbpl_core.specs.declared.sign.Sign.TheVariants as signs
use Rattle.dbpl_core.specs.declared.root.Root.TheVariants as roots
use Rattle.dbpl_core.specs.declared.argument_of.CoreArgumentOf.TheVariants as arguments
use Rattle.dbpl_core.specs.declared.expr.CoreExpr.{CoreExpr, CoreExpr-F, out-roll-CoreExpr, roll-CoreExpr}
use Rattle.dbpl_core.specs.declared.expr.CoreExpr.TheOpen as exprs
use Rattle.dbpl_core.specs.declared.in_out_procedure.InOutProcedure.TheVariants as procedures
use Rattle.dbpl_core.specs.declared.program.Program.{Program}
use Rattle.dbpl_core.specs.declared.routine.Routine.{Routine}
use Rattle.dbpl_core.specs.declared.stmt.CoreStmtOf.{CoreStmtOf, CoreStmtOf-F, roll-CoreStmtOf}
use Rattle.dbpl_core.specs.declared.stmt.CoreStmtOf.TheOpen as stmts
use Rattle.dbpl_core.specs.declared.unit.CoreUnit.{CoreUnit}
use Rattle.dbpl_meaning.proofs.Running.{after, compared-runs, exact-runs, fits-runs, fitted-runs, loops-runs, truth-runs, turn-again, turn-cut, turn-ends, turn-runs, gives-runs, number-runs, number_of_card-runs, number_text-runs, of_card-runs, row-runs, spend-runs, stopped, then, there-runs, value-runs}
use Rattle.dbpl_meaning.proofs.Steady.{turn-one}
use Rattle.dbpl_meaning.proofs.Trees.{one-call, one-in_out}
use Rattle.dbpl_meaning.specs.Declared.{global_reference, started, started_globals}
use Rattle.dbpl_meaning.specs.InOut.{characters_of}
use Rattle.dbpl_meaning.specs.Expressions.{Calls, argument, characters, led_to, value_of}
use Rattle.dbpl_meaning.specs.Meaning.{Ended, Going, ProgramOutcome, Trapped, begun, calls_at, limit, meaning, named_does, outcome_of, runs, without_value}
use Rattle.dbpl_meaning.specs.State.{Doing, Done, State, Stops}
use Rattle.dbpl_meaning.specs.Statements.{carried_host, condition, does, is_constant_level, number_in_host, number_of_case, of, round_with, row}
use Rattle.dbpl_meaning.specs.Numbers.{in_host, is_related, wide}
use Rattle.dbpl_meaning.specs.State as phrase
use Rattle.dbpl_meaning.specs.Words.{◌>>=◌, AtEnd, assigns, block, closes_frame, each_with, gives, in_frame, looks, nothing, of_type, opens_frame, replaces, spend, stops, turn, up_to_return, value_at, variable_at, writes}
use Rattle.dbpl_value.proofs.ValuesLemmas.{is_of-out}
use Rattle.dbpl_value.proofs.TypeParts.{by_parts-out}
use Rattle.dbpl_value.specs.Types.{is_in, range_of}
use Rattle.dbpl_value.specs.Values.{is_of, start_level, start_value_of}
use Rattle.dbpl_value.specs.declared.range.Range.{Range}
use Rattle.dbpl_value.specs.declared.db_type.DbType.{DbType}
use Rattle.dbpl_value.specs.declared.db_type.DbType.TheVariants as kinds
use Rattle.dbpl_value.specs.declared.value.Value.{Value}
use Rattle.dbpl_value.specs.declared.value.Value.TheVariants as value
use Rattle.dbpl_value.specs.declared.variable.Variable.{Variable}

abbrev pub here : Place
here = record { unit = 0; line = 1; col = 1 }

abbrev pub Statement : Type 0
Statement = CoreStmtOf CoreExpr

abbrev pub unit_of : List Variable → List Routine → List Statement → CoreUnit
unit_of globals routines body = record { name = codes "M"; form = 3; globals = globals; routines = routines; body = body }

abbrev pub program_of : List Variable → List Routine → List Statement → Program
program_of globals routines body = record { units = unit_of globals routines body ∷ []; order = 0 ∷ [] }

-- what a program comes to whose one body does this
unfoldable pub comes_to : Program → Doing (Unit {0}) → List ℕ → ℕ → ProgramOutcome
comes_to program doing input turns =
    outcome_of
    ((turn (in_frame [] (up_to_return doing >>= (λ leaving. without_value leaving))) >>= (λ _. nothing))
    (begun program [] input turns))

pub of-body :
    (globals : List Variable) (routines : List Routine) (body : List Statement) (input : List ℕ) (turns : ℕ) →
    meaning (program_of globals routines body) [] input turns
    ≡ comes_to (program_of globals routines body)
    (block (does (program_of globals routines body) (calls_at (program_of globals routines body) 9999)) body) input turns
unfolding meaning runs limit ◌>>=◌ gives comes_to
of-body globals routines body input turns = refl

in_out-open : (program : Program) (room : ℕ) → (calls_at program (suc room)).in_out ≡ (λ place doing. turn doing)
unfolding calls_at
in_out-open program room = refl

-- ---- WriteCard(7, 3)

abbrev pub width : DbType
width = kinds.Sub kinds.Card (pos 0) (pos 1000)

abbrev seven : CoreExpr-F CoreExpr
seven = exprs.Number here (pos 7)

abbrev three : CoreExpr-F CoreExpr
three = exprs.Number here (pos 3)

abbrev write_card : Program
write_card =
    program_of [] []
    (roll-CoreStmtOf CoreExpr (stmts.InOut here procedures.WriteCard
    (arguments.Value (roll-CoreExpr (exprs.Fitted here kinds.Card (roll-CoreExpr seven))) ∷
    arguments.Value (roll-CoreExpr (exprs.Fitted here width (roll-CoreExpr three))) ∷ [])) ∷ [])

abbrev pub cards : Range
cards = record { least = pos 0; greatest = pos 4294967295 }

pub card-range : range_of kinds.Card ≡ Some cards
card-range = rw kinds.outs-Card refl

pub width-range : range_of width ≡ Some (record { least = pos 0; greatest = pos 1000 })
width-range = rw (kinds.outs-Sub kinds.Card (pos 0) (pos 1000)) refl

abbrev pub opened : Program → List ℕ → ℕ → State
opened program input turns = record { left = turns; work = 1; store = stores.opens [] (first_store (started_globals program) [] input) }

-- a body that comes to its end
pub ended-comes :
    (program : Program) (doing : Doing (Unit {0})) (input : List ℕ) (turns : ℕ) (state : State) →
    doing (opened program input turns) ≡ Done (tt {0}) state →
    comes_to program doing input (suc turns)
    ≡ record { events = state.store.events; stands = Ended; input = state.store.input; work = state.work }
unfolding comes_to ◌>>=◌ gives turn up_to_return opens_frame closes_frame stores.closes
ended-comes program doing input turns state is = rw is refl

-- a body of one statement
pub one-runs :
    (program : Program) (calls : Calls) (x : CoreStmtOf-F CoreExpr Statement) (state further : State) →
    row program calls (does program calls) x (after 1 state) ≡ Done (tt {0}) further →
    block (does program calls) (roll-CoreStmtOf CoreExpr x ∷ []) state ≡ Done (tt {0}) further
one-runs program calls x state further is =
    then _ _ _ _ _ _ (row-runs program calls x state (Done (tt {0}) further) is) (gives-runs (tt {0}) further)

pub in_out-runs :
    (program : Program) (place : Place) (doing : Doing (Unit {0})) (state further : State) (left : ℕ) → state.left ≡ suc left →
    doing (record state { left = left; work = state.work + 1 }) ≡ Done (tt {0}) further →
    (calls_at program 9999).in_out place doing state ≡ Done (tt {0}) further
in_out-runs program place doing state further left some is =
    ap (λ (phrase : Doing (Unit {0})). phrase state) (one-in_out program 9998 place doing) ∙ turn-one doing state left some ∙ is

abbrev pub state_with : ℕ → ℕ → Store → State
state_with left work store = record { left = left; work = work; store = store }

abbrev pub empty_store : Program → Store
empty_store program = stores.opens [] (first_store (started_globals program) [] [])

pub write_card-comes : meaning write_card [] [] 100 ≡ record { events = Out 32 ∷ Out 32 ∷ Out 55 ∷ []; stands = Ended; input = []; work = 29 }
unfolding gives writes stores.says stores.opens digits
write_card-comes =
    let calls : Calls = calls_at write_card 9999 in
    of-body _ _ _ _ _ ∙
    ended-comes write_card _ [] 99 (state_with 98 29 (stores.says (32 ∷ 32 ∷ 55 ∷ []) (empty_store write_card)))
    (one-runs write_card calls _ _ _
    (then _ _ _ _ _ _
    (then _ _ _ _ _ _
    (then _ _ _ _ _ _ (fits-runs write_card calls here kinds.Card cards _ _ _ _ card-range refl (number_text-runs write_card calls here (pos 7) _)) (gives-runs _ _))
    (then _ _ _ _ _ _
    (then _ _ _ _ _ _
    (then _ _ _ _ _ _ (fits-runs write_card calls here width _ _ _ _ _ width-range refl (number_text-runs write_card calls here (pos 3) _)) (gives-runs _ _))
    (then _ _ _ _ _ _ (gives-runs _ _) (gives-runs _ _)))
    (gives-runs _ _)))
    (in_out-runs write_card here _ _ _ 98 refl
    (then _ _ _ _ _ _ (number_of_card-runs (pos 7) _ refl)
    (then _ _ _ _ _ _ (number_of_card-runs (pos 3) _ refl) refl)))))

-- ---- WriteString('ab')

abbrev ab : List ℕ
ab = 97 ∷ 98 ∷ []

abbrev write_string : Program
write_string =
    program_of [] []
    (roll-CoreStmtOf CoreExpr (stmts.InOut here procedures.WriteString
    (arguments.Value (roll-CoreExpr (exprs.Text here None (codes "ab"))) ∷ [])) ∷ [])

characters-ab : characters_of (value.Arr (characters ab)) ≡ Some ab
characters-ab = rw (value.outs-Arr (characters ab), value.outs-Num (pos 97), value.outs-Num (pos 98)) refl

pub write_string-comes : meaning write_string [] [] 100 ≡ record { events = Out 97 ∷ Out 98 ∷ []; stands = Ended; input = []; work = 20 }
unfolding writes stores.says stores.opens
write_string-comes =
    let calls : Calls = calls_at write_string 9999 in
    of-body _ _ _ _ _ ∙
    ended-comes write_string _ [] 99 (state_with 98 20 (stores.says ab (empty_store write_string)))
    (one-runs write_string calls _ _ _
    (then _ _ _ _ _ _
    (then _ _ _ _ _ _
    (then _ _ _ _ _ _ (value-runs write_string calls (exprs.Text here None (codes "ab")) _ _ (then _ _ _ _ _ _ (spend-runs 1 _) (gives-runs _ _))) (gives-runs _ _))
    (then _ _ _ _ _ _ (gives-runs _ _) (gives-runs _ _)))
    (in_out-runs write_string here _ _ _ 98 refl (then _ _ _ _ _ _ (there-runs _ _ _ characters-ab) refl))))

-- ---- one variable c of type CARDINAL

abbrev pub c_declared : List Variable
c_declared = record { name = codes "c"; kind = kinds.Card } ∷ []

abbrev pub c_named : CoreDesignatorOf CoreExpr
c_named = record { place = here; root = roots.Global (codes "M") (codes "c"); root_kind = kinds.Card; steps = [] }

abbrev pub c_read : CoreExpr
c_read = roll-CoreExpr (exprs.Read c_named kinds.Card)

abbrev pub literal : ℕ → CoreExpr
literal n = roll-CoreExpr (exprs.Number here (pos n))

abbrev pub store_of : ℕ → Store
store_of n = record {
  globals = cell.Holds kinds.Card (value.Num (pos n)) ∷ started kinds.Bool ∷ [];
  frames = [] ∷ [] ∷ [];
  database = [];
  input = [];
  events = [];
}

pub start-card : start_value_of kinds.Card ≡ value.Num (pos 0)
start-card = by_parts-out Value start_level kinds.Card ∙ rw kinds.outs-Card refl

pub c_begins : (body : List Statement) (turns : ℕ) → opened (program_of c_declared [] body) [] turns ≡ state_with turns 1 (store_of 0)
unfolding stores.opens
c_begins body turns = rw start-card refl

module _ (body : List Statement) where
  abbrev pub program : Program
  program = program_of c_declared [] body

  abbrev pub calls : Calls
  calls = calls_at program 9999

  pub c-led : (state : State) → led_to program (of program calls) c_named state ≡ Done (global_reference 0) (after 1 state)
  unfolding ◌>>=◌ spend gives
  c-led state = refl

  pub c-reads : (left work n : ℕ) → value_of program calls c_read (state_with left work (store_of n)) ≡ Done (value.Num (pos n)) (state_with left (work + 1) (store_of n))
  unfolding value_at looks stores.reads
  c-reads left work n = value-runs program calls (exprs.Read c_named kinds.Card) _ _ (then _ _ _ _ _ _ (c-led _) refl)

  pub c-gets :
      (left work n m : ℕ) → is_in cards (pos m) ≡ true →
      assigns (global_reference 0) (value.Num (pos m)) (state_with left work (store_of n)) ≡ Done (tt {0}) (state_with left work (store_of m))
  unfolding assigns looks replaces stores.puts
  c-gets left work n m lies = then _ _ _ _ _ _ refl (then _ _ _ _ _ _ (of_card-runs (pos m) _ lies) refl)

-- ---- c := 1 + 2

abbrev sum : CoreExpr
sum = roll-CoreExpr (exprs.Arithmetic here here operators.Plus None (literal 1) (literal 2))

abbrev sum_assigned : List Statement
sum_assigned = roll-CoreStmtOf CoreExpr (stmts.Assign here c_named (roll-CoreExpr (exprs.Fitted here kinds.Card sum))) ∷ []

sum-runs : (left work : ℕ) (store : Store) → value_of (program sum_assigned) (calls sum_assigned) sum (state_with left work store) ≡ Done (value.Num (pos 3)) (state_with left (work + 1 + 1 + 1) store)
sum-runs left work store =
    value-runs _ _ (exprs.Arithmetic here here operators.Plus None (literal 1) (literal 2)) _ _
    (then _ _ _ _ _ _ (spend-runs 1 _)
    (then _ _ _ _ _ _ (number_text-runs _ _ here (pos 1) _)
    (then _ _ _ _ _ _ (number-runs (pos 1) _)
    (then _ _ _ _ _ _ (number_text-runs _ _ here (pos 2) _)
    (then _ _ _ _ _ _ (number-runs (pos 2) _)
    (then _ _ _ _ _ _ (gives-runs _ _)
    (then _ _ _ _ _ _ (gives-runs _ _) (gives-runs _ _))))))))

-- c is 3 afterwards
pub sum-does : block (does (program sum_assigned) (calls sum_assigned)) sum_assigned (opened (program sum_assigned) [] 99) ≡ Done (tt {0}) (state_with 99 6 (store_of 3))
sum-does =
    rw (c_begins sum_assigned 99)
    (one-runs _ _ _ _ _
    (then _ _ _ _ _ _ (c-led sum_assigned _)
    (then _ _ _ _ _ _ (fits-runs _ _ here kinds.Card cards sum (pos 3) _ _ card-range refl (sum-runs 99 3 (store_of 0)))
    (c-gets sum_assigned 99 6 0 3 refl))))

pub sum-comes : meaning (program sum_assigned) [] [] 100 ≡ record { events = []; stands = Ended; input = []; work = 6 }
sum-comes = of-body _ _ _ _ _ ∙ ended-comes (program sum_assigned) _ [] 99 _ sum-does

-- ---- WHILE c < 3 DO INC(c) END

abbrev less : CoreExpr
less = roll-CoreExpr (exprs.Compared here here relations.Less comparisons.Numbers c_read (literal 3))

abbrev pub inc : Statement
inc = roll-CoreStmtOf CoreExpr (stmts.Count here directions.Up c_named kinds.Card None)

abbrev counted_up : List Statement
counted_up = roll-CoreStmtOf CoreExpr (stmts.While here less (inc ∷ [])) ∷ []

abbrev is_less : ℕ → Bool
is_less n = is_related relations.Less (int_cmp (pos n) (pos 3))

module _ (body : List Statement) where
  less-runs :
      (left work n : ℕ) →
      condition (program body) (calls body) less (state_with left work (store_of n))
      ≡ Done (is_less n) (state_with left (work + 1 + 1 + 1) (store_of n))
  less-runs left work n =
      then _ _ _ _ _ _
      (value-runs (program body) (calls body) (exprs.Compared here here relations.Less comparisons.Numbers c_read (literal 3)) _ _
      (then _ _ _ _ _ _ (spend-runs 1 _)
      (then _ _ _ _ _ _ (c-reads body left (work + 1) n)
      (then _ _ _ _ _ _ (number_text-runs _ _ here (pos 3) _)
      (then _ _ _ _ _ _ (compared-runs relations.Less (pos n) (pos 3) _) (gives-runs _ _))))))
      (truth-runs (is_less n) _)

  pub inc-runs :
      (left work n : ℕ) → is_in wide (pos (n + 1)) ≡ true → is_in cards (pos (n + 1)) ≡ true →
      block (does (program body) (calls body)) (inc ∷ []) (state_with left work (store_of n))
      ≡ Done (tt {0}) (state_with left (work + 1 + 1) (store_of (n + 1)))
  unfolding value_at looks stores.reads
  inc-runs left work n wide_lies lies =
      one-runs _ _ _ _ _
      (then _ _ _ _ _ _ (c-led body _)
      (then _ _ _ _ _ _ (gives-runs (pos 1) _)
      (then _ _ _ _ (value.Num (pos n)) _ refl
      (then _ _ _ _ _ _ (number-runs (pos n) _)
      (then _ _ _ _ _ _ (exact-runs (pos (n + 1)) _ wide_lies)
      (then _ _ _ _ _ _ (fitted-runs kinds.Card cards here (pos (n + 1)) _ card-range lies)
      (c-gets body left (work + 1 + 1) n (n + 1) lies)))))))

-- c is 3 afterwards
pub counted_up-does :
    block (does (program counted_up) (calls counted_up)) counted_up (opened (program counted_up) [] 99)
    ≡ Done (tt {0}) (state_with 96 23 (store_of 3))
counted_up-does =
    rw (c_begins counted_up 99)
    (one-runs _ _ _ _ _
    (loops-runs _ _ _ _ _
    (turn-again _ _ _ _ _ _ _ _ _ (less-runs counted_up 99 2 0) (turn-runs _ _ 98 _ refl (inc-runs counted_up 98 6 0 refl refl))
    (turn-again _ _ _ _ _ _ _ _ _ (less-runs counted_up 98 8 1) (turn-runs _ _ 97 _ refl (inc-runs counted_up 97 12 1 refl refl))
    (turn-again _ _ _ _ _ _ _ _ _ (less-runs counted_up 97 14 2) (turn-runs _ _ 96 _ refl (inc-runs counted_up 96 18 2 refl refl))
    (turn-ends _ _ _ _ _ _ (less-runs counted_up 96 20 3)))))))

pub counted_up-comes : meaning (program counted_up) [] [] 100 ≡ record { events = []; stands = Ended; input = []; work = 23 }
counted_up-comes = of-body _ _ _ _ _ ∙ ended-comes (program counted_up) _ [] 99 _ counted_up-does

-- ---- WHILE TRUE DO END within 5 turns

-- a body that is cut off
cut-comes :
    (program : Program) (doing : Doing (Unit {0})) (input : List ℕ) (turns : ℕ) (state : State) →
    doing (opened program input turns) ≡ Stops phrase.Going state →
    comes_to program doing input (suc turns)
    ≡ record { events = state.store.events; stands = Going; input = state.store.input; work = state.work }
unfolding comes_to ◌>>=◌ turn up_to_return opens_frame
cut-comes program doing input turns state is = rw is refl

abbrev pub empty : Statement
empty = roll-CoreStmtOf CoreExpr (stmts.Empty here)

abbrev endless : List Statement
endless = roll-CoreStmtOf CoreExpr (stmts.While here (literal 1) (empty ∷ [])) ∷ []

true-runs :
    (left work : ℕ) (store : Store) →
    condition (program_of [] [] endless) (calls_at (program_of [] [] endless) 9999) (literal 1) (state_with left work store)
    ≡ Done true (state_with left (work + 1) store)
true-runs left work store = then _ _ _ _ _ _ (number_text-runs _ _ here (pos 1) _) (truth-runs true _)

pub empty-runs :
    (program : Program) (calls : Calls) (left work : ℕ) (store : Store) →
    block (does program calls) (empty ∷ []) (state_with left work store) ≡ Done (tt {0}) (state_with left (work + 1) store)
empty-runs program calls left work store = one-runs program calls (stmts.Empty here) _ _ (gives-runs _ _)

pub endless-comes : meaning (program_of [] [] endless) [] [] 5 ≡ record { events = []; stands = Going; input = []; work = 15 }
unfolding stores.opens
endless-comes =
    let all : Program = program_of [] [] endless in
    let calls : Calls = calls_at all 9999 in
    let store : Store = empty_store all in
    of-body _ _ _ _ _ ∙
    cut-comes all _ [] 4 (state_with 0 15 store)
    (stopped _ _ _ _ _
    (row-runs all calls (stmts.While here (literal 1) (empty ∷ [])) _ _
    (loops-runs _ _ _ _ _
    (turn-again _ _ _ _ _ _ _ _ _ (true-runs 4 2 store) (turn-runs _ _ 3 _ refl (empty-runs all calls 3 4 store))
    (turn-again _ _ _ _ _ _ _ _ _ (true-runs 3 5 store) (turn-runs _ _ 2 _ refl (empty-runs all calls 2 7 store))
    (turn-again _ _ _ _ _ _ _ _ _ (true-runs 2 8 store) (turn-runs _ _ 1 _ refl (empty-runs all calls 1 10 store))
    (turn-again _ _ _ _ _ _ _ _ _ (true-runs 1 11 store) (turn-runs _ _ 0 _ refl (empty-runs all calls 0 13 store))
    (turn-cut _ _ _ _ _ _ (true-runs 0 14 store) refl))))))))

-- the expression of a CASE, a constant with this number
pub case-runs :
    (program : Program) (calls : Calls) (host : DbType) (x : CoreExpr-F CoreExpr) (n : ℤ) (state between : State) →
    is_constant_level x ≡ true → value_of program calls (roll-CoreExpr x) state ≡ Done (value.Num n) between →
    number_of_case program calls host (roll-CoreExpr x) state ≡ Done n between
case-runs program calls host x n state between constant is =
    rw (out-roll-CoreExpr x, constant) (then _ _ _ _ _ _ is (number-runs n between))

-- a body that HALT ends
pub halt-comes :
    (program : Program) (doing : Doing (Unit {0})) (input : List ℕ) (turns : ℕ) (state : State) →
    doing (opened program input turns) ≡ Stops phrase.Ended state →
    comes_to program doing input (suc turns)
    ≡ record { events = state.store.events; stands = Ended; input = state.store.input; work = state.work }
unfolding comes_to ◌>>=◌ turn up_to_return opens_frame
halt-comes program doing input turns state is = rw is refl

-- ---- CASE 3 OF 1: | 2: END

-- a body that traps
pub trap-comes :
    (program : Program) (doing : Doing (Unit {0})) (input : List ℕ) (turns : ℕ) (trap : Trap) (state : State) →
    doing (opened program input turns) ≡ Stops (phrase.Trapped trap) state →
    comes_to program doing input (suc turns)
    ≡ record { events = state.store.events; stands = Trapped trap; input = state.store.input; work = state.work }
unfolding comes_to ◌>>=◌ turn up_to_return opens_frame
trap-comes program doing input turns trap state is = rw is refl

abbrev pub word_case : Place
word_case = record { unit = 0; line = 1; col = 17 }

abbrev pub label : ℕ → CoreBranchOf Statement
label n = record { labels = record { least = pos n; greatest = pos n } ∷ []; statements = empty ∷ [] }

abbrev unlabelled : List Statement
unlabelled =
    roll-CoreStmtOf CoreExpr (stmts.Case word_case (literal 3) kinds.Card (label 1 ∷ label 2 ∷ []) None) ∷ []

pub unlabelled-comes :
    meaning (program_of [] [] unlabelled) [] [] 100
    ≡ record { events = []; stands = Trapped (record { kind = 5; place = word_case }); input = []; work = 5 }
unfolding ◌>>=◌ gives spend stops stores.opens
unlabelled-comes =
    let all : Program = program_of [] [] unlabelled in
    let calls : Calls = calls_at all 9999 in
    let store : Store = empty_store all in
    of-body _ _ _ _ _ ∙
    trap-comes all _ [] 99 _ (state_with 99 5 store)
    (stopped (does all calls (roll-CoreStmtOf CoreExpr (stmts.Case word_case (literal 3) kinds.Card (label 1 ∷ label 2 ∷ []) None)))
    (λ _. nothing) _ _ _
    (row-runs all calls (stmts.Case word_case (literal 3) kinds.Card (label 1 ∷ label 2 ∷ []) None) _ _
    (then (number_of_case all calls kinds.Card (literal 3)) _ (state_with 99 2 store) (state_with 99 3 store) (pos 3) _
    (case-runs all calls kinds.Card (exprs.Number here (pos 3)) (pos 3) _ _ refl (number_text-runs all calls here (pos 3) _))
    refl)))

-- ---- FOR c := 1 TO 3 DO END

abbrev pub control : CoreControlOf CoreExpr
control = record { variable = c_named; kind = kinds.Card; host = kinds.Card }

abbrev counting : List Statement
counting = roll-CoreStmtOf CoreExpr (stmts.For here control (literal 1) (literal 3) None (empty ∷ [])) ∷ []

pub literal-host : (n : ℕ) → carried_host kinds.Card (literal n) ≡ kinds.Card
literal-host n = rw (out-roll-CoreExpr (exprs.Number here (pos n))) refl

bound-runs :
    (n left work : ℕ) (store : Store) → is_in cards (pos n) ≡ true →
    number_in_host (program counting) (calls counting) (carried_host kinds.Card (literal n)) (literal n) (state_with left work store)
    ≡ Done (pos n) (state_with left (work + 1) store)
bound-runs n left work store lies =
    rw (literal-host n)
    (then _ _ _ _ _ _ (number_text-runs (program counting) (calls counting) here (pos n) _) (number_of_card-runs (pos n) _ lies))

-- a turn of the FOR, with the number m where c was n
counting-runs :
    (n m left work : ℕ) → is_in cards (pos m) ≡ true →
    round_with (program counting) (calls counting) (does (program counting) (calls counting)) control (pos 1) (empty ∷ []) (pos m)
    (state_with left work (store_of n))
    ≡ Done (pos m +ℤ pos 1) (state_with left (work + 1 + 1) (store_of m))
counting-runs n m left work lies =
    then _ _ _ _ _ _
    (then _ _ _ _ _ _ (c-led counting _)
    (then _ _ _ _ _ _ (fitted-runs kinds.Card cards here (pos m) _ card-range lies) (c-gets counting left (work + 1) n m lies)))
    (then _ _ _ _ _ _ (empty-runs _ _ left (work + 1) (store_of m)) (gives-runs _ _))

-- c is 3 afterwards
pub counting-does :
    block (does (program counting) (calls counting)) counting (opened (program counting) [] 99) ≡ Done (tt {0}) (state_with 96 13 (store_of 3))
counting-does =
    rw (c_begins counting 99)
    (one-runs _ _ _ _ _
    (then _ _ _ _ _ _ (bound-runs 1 99 2 (store_of 0) refl)
    (then _ _ _ _ _ _ (bound-runs 3 99 3 (store_of 0) refl)
    (then _ _ _ _ _ _ (spend-runs 0 _)
    (loops-runs _ _ _ _ _
    (turn-again _ _ _ _ _ _ _ _ _ (gives-runs true _) (turn-runs _ _ 98 _ refl (counting-runs 0 1 98 5 refl))
    (turn-again _ _ _ _ _ _ _ _ _ (gives-runs true _) (turn-runs _ _ 97 _ refl (counting-runs 1 2 97 8 refl))
    (turn-again _ _ _ _ _ _ _ _ _ (gives-runs true _) (turn-runs _ _ 96 _ refl (counting-runs 2 3 96 11 refl))
    (turn-ends _ _ _ _ _ _ (gives-runs false _))))))))))

pub counting-comes : meaning (program counting) [] [] 100 ≡ record { events = []; stands = Ended; input = []; work = 13 }
counting-comes = of-body _ _ _ _ _ ∙ ended-comes (program counting) _ [] 99 _ counting-does

-- ---- p(c, c), with PROCEDURE p(VAR x, y: CARDINAL); BEGIN x := 1; y := y + x END p;

abbrev p_head : Head
p_head = record {
  name = codes "p";
  transaction = false;
  params = record { name = codes "x"; kind = kinds.Card; by_ref = true } ∷ record { name = codes "y"; kind = kinds.Card; by_ref = true } ∷ [];
  result = None;
}

abbrev pub slot : ℕ → CoreDesignatorOf CoreExpr
slot n = record { place = here; root = roots.Frame n; root_kind = kinds.Card; steps = [] }

abbrev slot_read : ℕ → CoreExpr
slot_read n = roll-CoreExpr (exprs.Read (slot n) kinds.Card)

abbrev slots_added : CoreExpr-F CoreExpr
slots_added = exprs.Arithmetic here here operators.Plus (Some hosts.Cardinal) (slot_read 1) (slot_read 0)

abbrev x_set : CoreStmtOf-F CoreExpr Statement
x_set = stmts.Assign here (slot 0) (roll-CoreExpr (exprs.Fitted here kinds.Card (literal 1)))

abbrev y_set : CoreStmtOf-F CoreExpr Statement
y_set = stmts.Assign here (slot 1) (roll-CoreExpr (exprs.Fitted here kinds.Card (roll-CoreExpr slots_added)))

abbrev p_body : List Statement
p_body = roll-CoreStmtOf CoreExpr x_set ∷ roll-CoreStmtOf CoreExpr y_set ∷ []

abbrev p_routine : Routine
p_routine = record { head = p_head; locals = []; body = p_body; finish = here }

abbrev p_call : CoreCallOf CoreExpr
p_call = record {
  place = here;
  owner = codes "M";
  head = p_head;
  arguments = arguments.Variable c_named ∷ arguments.Variable c_named ∷ [];
}

abbrev p_called : List Statement
p_called = roll-CoreStmtOf CoreExpr (stmts.Call p_call) ∷ []

abbrev twice : Program
twice = program_of c_declared (p_routine ∷ []) p_called

abbrev p_calls : Calls
p_calls = calls_at twice 9998

abbrev p_cells : List Cell
p_cells = cell.Refers (global_reference 0) ∷ cell.Refers (global_reference 0) ∷ []

-- while p is open
abbrev frame_of : ℕ → Store
frame_of n = record (store_of n) { frames = [] ∷ [] ∷ p_cells ∷ [] }

slot-led-0 :
    (left work n : ℕ) → led_to twice (of twice p_calls) (slot 0) (state_with left work (frame_of n))
    ≡ Done (global_reference 0) (state_with left (work + 1) (frame_of n))
unfolding ◌>>=◌ spend gives variable_at looks stores.refers
slot-led-0 left work n = refl

slot-led-1 :
    (left work n : ℕ) → led_to twice (of twice p_calls) (slot 1) (state_with left work (frame_of n))
    ≡ Done (global_reference 0) (state_with left (work + 1) (frame_of n))
unfolding ◌>>=◌ spend gives variable_at looks stores.refers
slot-led-1 left work n = refl

frame-value : (left work n : ℕ) → value_at (global_reference 0) (state_with left work (frame_of n)) ≡ Done (value.Num (pos n)) (state_with left work (frame_of n))
unfolding value_at looks stores.reads
frame-value left work n = refl

frame-gets :
    (left work n m : ℕ) → is_in cards (pos m) ≡ true →
    assigns (global_reference 0) (value.Num (pos m)) (state_with left work (frame_of n)) ≡ Done (tt {0}) (state_with left work (frame_of m))
unfolding assigns looks replaces stores.puts
frame-gets left work n m lies = then _ _ _ _ _ _ refl (then _ _ _ _ _ _ (of_card-runs (pos m) _ lies) refl)

x_set-runs : does twice p_calls (roll-CoreStmtOf CoreExpr x_set) (state_with 98 5 (frame_of 0)) ≡ Done (tt {0}) (state_with 98 8 (frame_of 1))
x_set-runs =
    row-runs twice p_calls x_set _ _
    (then _ _ _ _ _ _ (slot-led-0 98 6 0)
    (then _ _ _ _ _ _ (fits-runs twice p_calls here kinds.Card cards (literal 1) (pos 1) _ _ card-range refl (number_text-runs twice p_calls here (pos 1) _))
    (frame-gets 98 8 0 1 refl)))

pub in_cards-runs : (n : ℤ) (state : State) → is_in cards n ≡ true → in_host (Some hosts.Cardinal) here n state ≡ Done n state
unfolding ◌>>=◌ gives
in_cards-runs n state lies = rw (card-range, lies) refl

added-runs : value_of twice p_calls (roll-CoreExpr slots_added) (state_with 98 10 (frame_of 1)) ≡ Done (value.Num (pos 2)) (state_with 98 13 (frame_of 1))
added-runs =
    value-runs twice p_calls slots_added _ _
    (then _ _ _ _ _ _ (spend-runs 1 _)
    (then _ _ _ _ _ _ (value-runs twice p_calls (exprs.Read (slot 1) kinds.Card) _ _ (then _ _ _ _ _ _ (slot-led-1 98 11 1) (frame-value 98 12 1)))
    (then _ _ _ _ _ _ (number-runs (pos 1) _)
    (then _ _ _ _ _ _ (value-runs twice p_calls (exprs.Read (slot 0) kinds.Card) _ _ (then _ _ _ _ _ _ (slot-led-0 98 12 1) (frame-value 98 13 1)))
    (then _ _ _ _ _ _ (number-runs (pos 1) _)
    (then _ _ _ _ _ _ (gives-runs (pos 2) _)
    (then _ _ _ _ _ _ (in_cards-runs (pos 2) _ refl) (gives-runs _ _))))))))

y_set-runs : does twice p_calls (roll-CoreStmtOf CoreExpr y_set) (state_with 98 8 (frame_of 1)) ≡ Done (tt {0}) (state_with 98 13 (frame_of 2))
y_set-runs =
    row-runs twice p_calls y_set _ _
    (then _ _ _ _ _ _ (slot-led-1 98 9 1)
    (then _ _ _ _ _ _ (fits-runs twice p_calls here kinds.Card cards (roll-CoreExpr slots_added) (pos 2) _ _ card-range refl added-runs)
    (frame-gets 98 13 1 2 refl)))

returned-runs :
    (doing : Doing (Unit {0})) (state between : State) → doing state ≡ Done (tt {0}) between → up_to_return doing state ≡ Done AtEnd between
unfolding up_to_return
returned-runs doing state between is = rw is refl

p-does : named_does twice p_calls (codes "M") (codes "p") p_cells (state_with 98 5 (store_of 0)) ≡ Done None (state_with 98 13 (store_of 2))
unfolding opens_frame closes_frame stores.opens stores.closes
p-does =
    then _ _ _ _ _ _ (there-runs _ p_routine _ refl)
    (then (opens_frame p_cells) _ _ (state_with 98 5 (frame_of 0)) _ _ refl
    (then _ _ _ _ _ _
    (then _ _ _ _ _ _
    (returned-runs (block (does twice p_calls) p_body) _ _
    (then _ _ _ _ _ _ x_set-runs (then _ _ _ _ _ _ y_set-runs (gives-runs _ _))))
    (gives-runs None _))
    (then closes_frame _ _ (state_with 98 13 (store_of 2)) _ _ refl (gives-runs _ _))))

twice-cells :
    (state : State) →
    each_with (argument twice (of twice (calls_at twice 9999))) p_call.arguments p_call.head.params state
    ≡ Done p_cells (after 1 (after 1 state))
unfolding ◌>>=◌ spend gives
twice-cells state = refl

twice_begins : (turns : ℕ) → opened twice [] turns ≡ state_with turns 1 (store_of 0)
unfolding stores.opens
twice_begins turns = rw start-card refl

-- c is 2 afterwards
pub twice-does : block (does twice (calls_at twice 9999)) p_called (opened twice [] 99) ≡ Done (tt {0}) (state_with 98 13 (store_of 2))
twice-does =
    rw (twice_begins 99)
    (one-runs _ _ _ _ _
    (then _ _ _ _ _ _
    (then _ _ _ _ _ _ (twice-cells _)
    (ap (λ (phrase : Doing (Option Value)). phrase (state_with 99 4 (store_of 0))) (one-call twice 9998 here (codes "M") (codes "p") p_cells)
    ∙ turn-runs _ (state_with 99 4 (store_of 0)) 98 _ refl p-does))
    (gives-runs _ _)))

pub twice-comes : meaning twice [] [] 100 ≡ record { events = []; stands = Ended; input = []; work = 13 }
twice-comes = of-body _ _ _ _ _ ∙ ended-comes twice _ [] 99 _ twice-does

-- ---- i := -1; FOR c := 0 TO i DO END, with i an INTEGER

abbrev i_named : CoreDesignatorOf CoreExpr
i_named = record { place = here; root = roots.Global (codes "M") (codes "i"); root_kind = kinds.Int; steps = [] }

abbrev i_read : CoreExpr-F CoreExpr
i_read = exprs.Read i_named kinds.Int

abbrev minus_one : CoreExpr
minus_one = roll-CoreExpr (exprs.Signed here signs.Minus None (literal 1))

abbrev i_set : CoreStmtOf-F CoreExpr Statement
i_set = stmts.Assign here i_named (roll-CoreExpr (exprs.Fitted here kinds.Int minus_one))

abbrev no_turn : CoreStmtOf-F CoreExpr Statement
no_turn = stmts.For here control (literal 0) (roll-CoreExpr i_read) None (empty ∷ [])

abbrev falling : Program
falling =
    program_of (record { name = codes "c"; kind = kinds.Card } ∷ record { name = codes "i"; kind = kinds.Int } ∷ []) []
    (roll-CoreStmtOf CoreExpr i_set ∷ roll-CoreStmtOf CoreExpr no_turn ∷ [])

abbrev fall_calls : Calls
fall_calls = calls_at falling 9999

abbrev store_with_i : Value → Store
store_with_i v = record {
  globals = started kinds.Card ∷ cell.Holds kinds.Int v ∷ started kinds.Bool ∷ [];
  frames = [] ∷ [] ∷ [];
  database = [];
  input = [];
  events = [];
}

abbrev ints : Range
ints = record { least = negsuc 2147483647; greatest = pos 2147483647 }

int-range : range_of kinds.Int ≡ Some ints
int-range = rw kinds.outs-Int refl

minus_one-of : is_of kinds.Int (value.Num (negsuc 0)) ≡ true
minus_one-of = is_of-out kinds.Int (value.Num (negsuc 0)) ∙ rw (kinds.outs-Int, value.outs-Num (negsuc 0)) refl

of_int-runs : (state : State) → of_type kinds.Int (value.Num (negsuc 0)) state ≡ Done (value.Num (negsuc 0)) state
unfolding gives
of_int-runs state = rw minus_one-of refl

i-led : (state : State) → led_to falling (of falling fall_calls) i_named state ≡ Done (global_reference 1) (after 1 state)
unfolding ◌>>=◌ spend gives
i-led state = refl

i-gets :
    (v : Value) (left work : ℕ) →
    assigns (global_reference 1) (value.Num (negsuc 0)) (state_with left work (store_with_i v)) ≡ Done (tt {0}) (state_with left work (store_with_i (value.Num (negsuc 0))))
unfolding assigns looks replaces stores.puts
i-gets v left work = then _ _ _ _ _ _ refl (then _ _ _ _ _ _ (of_int-runs _) refl)

minus_one-runs : (left work : ℕ) (store : Store) → value_of falling fall_calls minus_one (state_with left work store) ≡ Done (value.Num (negsuc 0)) (state_with left (work + 1 + 1) store)
minus_one-runs left work store =
    value-runs falling fall_calls (exprs.Signed here signs.Minus None (literal 1)) _ _
    (then _ _ _ _ _ _ (spend-runs 1 _)
    (then _ _ _ _ _ _ (number_text-runs falling fall_calls here (pos 1) _)
    (then _ _ _ _ _ _ (number-runs (pos 1) _)
    (then _ _ _ _ _ _ (exact-runs (negsuc 0) _ refl) (gives-runs _ _)))))

i_set-runs : (v : Value) → does falling fall_calls (roll-CoreStmtOf CoreExpr i_set) (state_with 99 1 (store_with_i v)) ≡ Done (tt {0}) (state_with 99 5 (store_with_i (value.Num (negsuc 0))))
i_set-runs v =
    row-runs falling fall_calls i_set _ _
    (then _ _ _ _ _ _ (i-led _)
    (then _ _ _ _ _ _ (fits-runs falling fall_calls here kinds.Int ints minus_one (negsuc 0) _ _ int-range refl (minus_one-runs 99 3 (store_with_i v)))
    (i-gets v 99 5)))

i-host : carried_host kinds.Card (roll-CoreExpr i_read) ≡ kinds.Int
i-host = rw (out-roll-CoreExpr i_read, kinds.outs-Int) refl

first-runs :
    (left work : ℕ) (store : Store) →
    number_in_host falling fall_calls (carried_host kinds.Card (literal 0)) (literal 0) (state_with left work store) ≡ Done (pos 0) (state_with left (work + 1) store)
first-runs left work store =
    rw (literal-host 0)
    (then _ _ _ _ _ _ (number_text-runs falling fall_calls here (pos 0) _) (number_of_card-runs (pos 0) _ refl))

last-runs :
    (left work : ℕ) →
    number_in_host falling fall_calls (carried_host kinds.Card (roll-CoreExpr i_read)) (roll-CoreExpr i_read)
    (state_with left work (store_with_i (value.Num (negsuc 0))))
    ≡ Done (negsuc 0) (state_with left (work + 1) (store_with_i (value.Num (negsuc 0))))
unfolding value_at looks stores.reads
last-runs left work =
    rw i-host
    (then _ _ _ _ _ _ (value-runs falling fall_calls i_read _ _ (then _ _ _ _ _ _ (i-led _) refl))
    (then _ _ _ _ _ _ (of_int-runs _) (number-runs (negsuc 0) _)))

falling-does :
    (v : Value) → block (does falling fall_calls) (roll-CoreStmtOf CoreExpr i_set ∷ roll-CoreStmtOf CoreExpr no_turn ∷ []) (state_with 99 1 (store_with_i v))
    ≡ Done (tt {0}) (state_with 99 8 (store_with_i (value.Num (negsuc 0))))
falling-does v =
    then (does falling fall_calls (roll-CoreStmtOf CoreExpr i_set)) _ _ _ _ _ (i_set-runs v)
    (one-runs _ _ _ _ _
    (then _ _ _ _ _ _ (first-runs 99 6 _)
    (then _ _ _ _ _ _ (last-runs 99 7)
    (then _ _ _ _ _ _ (spend-runs 0 _)
    (loops-runs _ _ _ _ _ (turn-ends _ _ _ _ _ _ (gives-runs false _)))))))

pub falling-comes : meaning falling [] [] 100 ≡ record { events = []; stands = Ended; input = []; work = 8 }
unfolding stores.opens
falling-comes = of-body _ _ _ _ _ ∙ ended-comes falling _ [] 99 _ (falling-does (start_value_of kinds.Int))
