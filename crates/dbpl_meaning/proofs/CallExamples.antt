-- c := f(3), with PROCEDURE f(n: CARDINAL): CARDINAL; BEGIN IF n > 0 THEN RETURN n * f(n - 1) END END f; computed from the
-- rows. The call with 0 reaches the END of f, while those with 3, 2 and 1 are open.
use Rattle.std.proofs.Common.{◌≡◌, ◌+◌, ◌∙◌, ℕ, suc, ℤ, pos, ◌-ℤ◌, Bool, true, false, List, [], ◌∷◌, Option, Some, None, ap, refl}
use Rattle.std.specs.Ordering.{int_cmp}
use Rattle.std.specs.Prelude.{codes}
use Rattle.dbpl_base.specs.declared.place.Place.{Place}
use Rattle.dbpl_core.specs.Stores as stores
use Rattle.dbpl_core.specs.Stores.{Store}
use Rattle.dbpl_core.specs.declared.argument_of.CoreArgumentOf.TheVariants as arguments
use Rattle.dbpl_core.specs.declared.arithmetic_operator.ArithmeticOperator.TheVariants as operators
use Rattle.dbpl_core.specs.declared.arm_of.CoreArmOf.{CoreArmOf}
use Rattle.dbpl_core.specs.declared.cell.Cell.{Cell}
use Rattle.dbpl_core.specs.declared.cell.Cell.TheVariants as cell
use Rattle.dbpl_core.specs.declared.comparison.Comparison.TheVariants as comparisons
use Rattle.dbpl_core.specs.declared.expr.CoreExpr.{CoreExpr, CoreExpr-F, roll-CoreExpr}
use Rattle.dbpl_core.specs.declared.expr.CoreExpr.TheOpen as exprs
use Rattle.dbpl_core.specs.declared.program.Program.{Program}
use Rattle.dbpl_core.specs.declared.reference.Reference.{Reference}
use Rattle.dbpl_core.specs.declared.reference_root.ReferenceRoot.TheVariants as root
use Rattle.dbpl_core.specs.declared.relation.Relation.TheVariants as relations
use Rattle.dbpl_core.specs.declared.routine.Routine.{Routine}
use Rattle.dbpl_core.specs.declared.stmt.CoreStmtOf.{CoreStmtOf-F, roll-CoreStmtOf}
use Rattle.dbpl_core.specs.declared.stmt.CoreStmtOf.TheOpen as stmts
use Rattle.dbpl_core.specs.declared.whole_host.WholeHost.TheVariants as hosts
use Rattle.dbpl_meaning.proofs.Examples.{Statement, c_declared, c_named, card-range, cards, in_cards-runs, literal, of-body, here, program_of, slot, state_with, trap-comes}
use Rattle.dbpl_meaning.proofs.Running.{after, compared-runs, fits-runs, gives-runs, number-runs, number_text-runs, of_card-runs, row-runs, spend-runs, stopped, then, there-runs, truth-runs, turn-runs, value-runs}
use Rattle.dbpl_meaning.proofs.Trees.{one-call}
use Rattle.dbpl_meaning.specs.Declared.{global_reference, started}
use Rattle.dbpl_meaning.specs.Expressions.{Calls, led_to, value_of}
use Rattle.dbpl_meaning.specs.Meaning.{Trapped, calls_at, meaning}
use Rattle.dbpl_meaning.specs.Numbers.{is_related}
use Rattle.dbpl_meaning.specs.State as phrase
use Rattle.dbpl_meaning.specs.State.{Doing, Done, Ran, State, Stops}
use Rattle.dbpl_meaning.specs.Statements.{condition, does, of}
use Rattle.dbpl_meaning.specs.Words.{◌>>=◌, AtEnd, block, gives, looks, nothing, opens_frame, spend, stops, trap, up_to_return, value_at, variable_at}
use Rattle.dbpl_value.specs.Types.{is_in}
use Rattle.dbpl_value.specs.declared.db_type.DbType.TheVariants as kinds
use Rattle.dbpl_value.specs.declared.head.Head.{Head}
use Rattle.dbpl_value.specs.declared.value.Value.{Value}
use Rattle.dbpl_value.specs.declared.value.Value.TheVariants as value

-- the END of f
abbrev q : Place
q = record { unit = 0; line = 1; col = 9 }

abbrev f_head : Head
f_head = record {
  name = codes "f";
  transaction = false;
  params = record { name = codes "n"; kind = kinds.Card; by_ref = false } ∷ [];
  result = Some kinds.Card;
}

abbrev called_with : CoreExpr → CoreExpr-F CoreExpr
called_with e = exprs.Call (record {
  place = here;
  owner = codes "M";
  head = f_head;
  arguments = arguments.Value (roll-CoreExpr (exprs.Fitted here kinds.Card e)) ∷ [];
}) kinds.Card

abbrev n_read : CoreExpr
n_read = roll-CoreExpr (exprs.Read (slot 0) kinds.Card)

abbrev n_positive : CoreExpr-F CoreExpr
n_positive = exprs.Compared here here relations.Greater comparisons.Numbers n_read (literal 0)

abbrev one_less : CoreExpr-F CoreExpr
one_less = exprs.Arithmetic here here operators.Minus (Some hosts.Cardinal) n_read (literal 1)

abbrev product : CoreExpr-F CoreExpr
product = exprs.Arithmetic here here operators.Times (Some hosts.Cardinal) n_read (roll-CoreExpr (called_with (roll-CoreExpr one_less)))

abbrev product_returned : CoreStmtOf-F CoreExpr Statement
product_returned = stmts.Return here (Some (roll-CoreExpr (exprs.Fitted here kinds.Card (roll-CoreExpr product))))

abbrev f_arm : CoreArmOf CoreExpr Statement
f_arm = record { condition = roll-CoreExpr n_positive; statements = roll-CoreStmtOf CoreExpr product_returned ∷ [] }

abbrev f_if : CoreStmtOf-F CoreExpr Statement
f_if = stmts.If here (f_arm ∷ []) None

abbrev f_body : List Statement
f_body = roll-CoreStmtOf CoreExpr f_if ∷ []

abbrev f_routine : Routine
f_routine = record { head = f_head; locals = []; body = f_body; finish = q }

abbrev c_set : CoreStmtOf-F CoreExpr Statement
c_set = stmts.Assign here c_named (roll-CoreExpr (exprs.Fitted here kinds.Card (roll-CoreExpr (called_with (literal 3)))))

abbrev recursing : Program
recursing = program_of c_declared (f_routine ∷ []) (roll-CoreStmtOf CoreExpr c_set ∷ [])

abbrev holds : ℕ → Cell
holds n = cell.Holds kinds.Card (value.Num (pos n))

-- with these frames
abbrev store_with : List (List Cell) → Store
store_with frames = record {
  globals = started kinds.Card ∷ started kinds.Bool ∷ [];
  frames = frames;
  database = [];
  input = [];
  events = [];
}

-- what an expression that stops makes of what stands around it
module _ (calls : Calls) where
  fitted-stops :
      (e : CoreExpr) (state last : State) (stop : phrase.Stop) → value_of recursing calls e state ≡ Stops stop last →
      value_of recursing calls (roll-CoreExpr (exprs.Fitted here kinds.Card e)) state ≡ Stops stop last
  fitted-stops e state last stop is = value-runs recursing calls (exprs.Fitted here kinds.Card e) _ _ (stopped _ _ _ _ _ is)

  -- a call with a number, of which the routine stops
  call-stops :
      (e : CoreExpr) (n : ℕ) (state between last : State) (stop : phrase.Stop) → is_in cards (pos n) ≡ true →
      value_of recursing calls e (after 1 state) ≡ Done (value.Num (pos n)) between →
      calls.routine here (codes "M") (codes "f") (holds n ∷ []) between ≡ Stops stop last →
      value_of recursing calls (roll-CoreExpr (called_with e)) state ≡ Stops stop last
  call-stops e n state between last stop lies argument is =
      value-runs recursing calls (called_with e) _ _
      (then _ _ _ _ _ _ (spend-runs 1 _)
      (stopped _ _ _ _ _
      (then _ _ _ _ _ _
      (then _ _ _ _ _ _
      (then _ _ _ _ _ _
      (then _ _ _ _ _ _ (fits-runs recursing calls here kinds.Card cards e (pos n) _ _ card-range lies argument) (gives-runs _ _))
      (then _ _ _ _ _ _ (of_card-runs (pos n) _ lies) (gives-runs _ _)))
      (then _ _ _ _ _ _ (gives-runs _ _) (gives-runs _ _)))
      is)))

-- the body of f, with n in the last of these frames
module _ (room n : ℕ) (frames : List (List Cell)) (r : Reference)
    (led : (left work : ℕ) → led_to recursing (of recursing (calls_at recursing room)) (slot 0) (state_with left work (store_with frames)) ≡ Done r (state_with left (work + 1) (store_with frames)))
    (seen : (left work : ℕ) → value_at r (state_with left work (store_with frames)) ≡ Done (value.Num (pos n)) (state_with left work (store_with frames))) where
  abbrev f_calls : Calls
  f_calls = calls_at recursing room

  n-runs : (left work : ℕ) → value_of recursing f_calls n_read (state_with left work (store_with frames)) ≡ Done (value.Num (pos n)) (state_with left (work + 1) (store_with frames))
  n-runs left work = value-runs recursing f_calls (exprs.Read (slot 0) kinds.Card) _ _ (then _ _ _ _ _ _ (led left work) (seen left (work + 1)))

  test-runs :
      (left work : ℕ) →
      condition recursing f_calls (roll-CoreExpr n_positive) (state_with left work (store_with frames))
      ≡ Done (is_related relations.Greater (int_cmp (pos n) (pos 0))) (state_with left (work + 1 + 1 + 1) (store_with frames))
  test-runs left work =
      then _ _ _ _ _ _
      (value-runs recursing f_calls n_positive _ _
      (then _ _ _ _ _ _ (spend-runs 1 _)
      (then _ _ _ _ _ _ (n-runs left (work + 1))
      (then _ _ _ _ _ _ (number_text-runs recursing f_calls here (pos 0) _)
      (then _ _ _ _ _ _ (compared-runs relations.Greater (pos n) (pos 0) _) (gives-runs _ _))))))
      (truth-runs _ _)

  less-runs :
      (left work m : ℕ) → pos n -ℤ pos 1 ≡ pos m → is_in cards (pos m) ≡ true →
      value_of recursing f_calls (roll-CoreExpr one_less) (state_with left work (store_with frames))
      ≡ Done (value.Num (pos m)) (state_with left (work + 1 + 1 + 1) (store_with frames))
  less-runs left work m is lies =
      value-runs recursing f_calls one_less _ _
      (then _ _ _ _ _ _ (spend-runs 1 _)
      (then _ _ _ _ _ _ (n-runs left (work + 1))
      (then _ _ _ _ _ _ (number-runs (pos n) _)
      (then _ _ _ _ _ _ (number_text-runs recursing f_calls here (pos 1) _)
      (then _ _ _ _ _ _ (number-runs (pos 1) _)
      (then _ _ _ _ (pos m) _ (ap (λ (k : ℤ). gives k (state_with left (work + 1 + 1 + 1) (store_with frames))) is ∙ gives-runs (pos m) _)
      (then _ _ _ _ _ _ (in_cards-runs (pos m) _ lies) (gives-runs _ _))))))))

  -- where n isn't 0 and the call with one less stops, so does the body
  body-stops :
      (left work m : ℕ) (last : State) (stop : phrase.Stop) → is_related relations.Greater (int_cmp (pos n) (pos 0)) ≡ true →
      pos n -ℤ pos 1 ≡ pos m → is_in cards (pos m) ≡ true →
      f_calls.routine here (codes "M") (codes "f") (holds m ∷ []) (state_with left (work + 1 + 1 + 1 + 1 + 1 + 1 + 1 + 1 + 1 + 1 + 1) (store_with frames)) ≡ Stops stop last →
      block (does recursing f_calls) f_body (state_with left work (store_with frames)) ≡ Stops stop last
  body-stops left work m last stop positive is lies inner =
      stopped (does recursing f_calls (roll-CoreStmtOf CoreExpr f_if)) (λ _. nothing) _ _ _
      (row-runs recursing f_calls f_if _ _
      (then (condition recursing f_calls (roll-CoreExpr n_positive)) _ _ _ true _
      (test-runs left (work + 1) ∙ ap (λ (test : Bool). Done test (state_with left (work + 1 + 1 + 1 + 1) (store_with frames))) positive)
      (stopped (does recursing f_calls (roll-CoreStmtOf CoreExpr product_returned)) (λ _. nothing) _ _ _
      (row-runs recursing f_calls product_returned _ _
      (stopped _ _ _ _ _
      (stopped _ _ _ _ _
      (fitted-stops f_calls (roll-CoreExpr product) _ _ _
      (value-runs recursing f_calls product _ _
      (then _ _ _ _ _ _ (spend-runs 1 _)
      (then _ _ _ _ _ _ (n-runs left (work + 1 + 1 + 1 + 1 + 1 + 1))
      (then _ _ _ _ _ _ (number-runs (pos n) _)
      (stopped _ _ _ _ _
      (call-stops f_calls (roll-CoreExpr one_less) m _ _ _ _ lies (less-runs left (work + 1 + 1 + 1 + 1 + 1 + 1 + 1 + 1) m is lies) inner)))))))))))))

  -- where n is 0 the body comes to its end
  body-ends :
      (left work : ℕ) → is_related relations.Greater (int_cmp (pos n) (pos 0)) ≡ false →
      block (does recursing f_calls) f_body (state_with left work (store_with frames)) ≡ Done (tt {0}) (state_with left (work + 1 + 1 + 1 + 1) (store_with frames))
  body-ends left work zero =
      then (does recursing f_calls (roll-CoreStmtOf CoreExpr f_if)) _ _ _ _ _
      (row-runs recursing f_calls f_if _ _
      (then (condition recursing f_calls (roll-CoreExpr n_positive)) _ _ _ false _
      (test-runs left (work + 1) ∙ ap (λ (test : Bool). Done test (state_with left (work + 1 + 1 + 1 + 1) (store_with frames))) zero)
      (gives-runs _ _)))
      (gives-runs _ _)

return-stops :
    (doing : Doing (Unit {0})) (state last : State) (trap : _) → doing state ≡ Stops (phrase.Trapped trap) last →
    up_to_return doing state ≡ Stops (phrase.Trapped trap) last
unfolding up_to_return
return-stops doing state last trap is = rw is refl

return-ends : (doing : Doing (Unit {0})) (state last : State) → doing state ≡ Done (tt {0}) last → up_to_return doing state ≡ Done AtEnd last
unfolding up_to_return
return-ends doing state last is = rw is refl

-- a call of f, in the frames before it
module _ (room n left work : ℕ) (frames inner : List (List Cell)) (last : State)
    (opening : opens_frame (holds n ∷ []) (state_with left (work + 1) (store_with frames)) ≡ Done (tt {0}) (state_with left (work + 1) (store_with inner))) where
  abbrev beginning : Type 0
  beginning =
      (calls_at recursing (suc room)).routine here (codes "M") (codes "f") (holds n ∷ []) (state_with (suc left) work (store_with frames))
      ≡ Stops (phrase.Trapped (trap 6 q)) last

  routine-traps :
      block (does recursing (calls_at recursing room)) f_body (state_with left (work + 1) (store_with inner)) ≡ Stops (phrase.Trapped (trap 6 q)) last →
      beginning
  routine-traps is =
      ap (λ (doing : Doing (Option Value)). doing (state_with (suc left) work (store_with frames))) (one-call recursing room here (codes "M") (codes "f") (holds n ∷ []))
      ∙ turn-runs _ (state_with (suc left) work (store_with frames)) left _ refl
      (then _ _ _ _ _ _ (there-runs _ f_routine _ refl)
      (then (opens_frame (holds n ∷ [])) _ _ _ _ _ opening
      (stopped _ _ _ _ _
      (stopped _ _ _ _ _ (return-stops (block (does recursing (calls_at recursing room)) f_body) _ _ _ is)))))

  routine-ends :
      block (does recursing (calls_at recursing room)) f_body (state_with left (work + 1) (store_with inner)) ≡ Done (tt {0}) last →
      beginning
  unfolding stops
  routine-ends is =
      ap (λ (doing : Doing (Option Value)). doing (state_with (suc left) work (store_with frames))) (one-call recursing room here (codes "M") (codes "f") (holds n ∷ []))
      ∙ turn-runs _ (state_with (suc left) work (store_with frames)) left _ refl
      (then _ _ _ _ _ _ (there-runs _ f_routine _ refl)
      (then (opens_frame (holds n ∷ [])) _ _ _ _ _ opening
      (stopped _ _ _ _ _
      (then _ _ _ _ _ _ (return-ends (block (does recursing (calls_at recursing room)) f_body) _ _ is) refl))))

-- ---- the four calls

abbrev outside : List (List Cell)
outside = [] ∷ [] ∷ []

abbrev with_3 : List (List Cell)
with_3 = [] ∷ [] ∷ (holds 3 ∷ []) ∷ []

abbrev with_2 : List (List Cell)
with_2 = [] ∷ [] ∷ (holds 3 ∷ []) ∷ (holds 2 ∷ []) ∷ []

abbrev with_1 : List (List Cell)
with_1 = [] ∷ [] ∷ (holds 3 ∷ []) ∷ (holds 2 ∷ []) ∷ (holds 1 ∷ []) ∷ []

abbrev with_0 : List (List Cell)
with_0 = [] ∷ [] ∷ (holds 3 ∷ []) ∷ (holds 2 ∷ []) ∷ (holds 1 ∷ []) ∷ (holds 0 ∷ []) ∷ []

abbrev in_frame_at : ℕ → Reference
in_frame_at frame = record { root = root.Slot frame 0; path = [] }

abbrev last_state : State
last_state = state_with 95 46 (store_with with_0)

pub recursing-stops :
    (calls_at recursing 9999).routine here (codes "M") (codes "f") (holds 3 ∷ []) (state_with 99 5 (store_with outside))
    ≡ Stops (phrase.Trapped (trap 6 q)) last_state
unfolding ◌>>=◌ spend gives variable_at looks stores.refers value_at stores.reads opens_frame stores.opens
recursing-stops =
    routine-traps 9998 3 98 5 outside with_3 last_state refl
    (body-stops 9998 3 with_3 (in_frame_at 2) (λ left work. refl) (λ left work. refl) 98 6 2 _ _ refl refl refl
    (routine-traps 9997 2 97 17 with_3 with_2 last_state refl
    (body-stops 9997 2 with_2 (in_frame_at 3) (λ left work. refl) (λ left work. refl) 97 18 1 _ _ refl refl refl
    (routine-traps 9996 1 96 29 with_2 with_1 last_state refl
    (body-stops 9996 1 with_1 (in_frame_at 4) (λ left work. refl) (λ left work. refl) 96 30 0 _ _ refl refl refl
    (routine-ends 9995 0 95 41 with_1 with_0 last_state refl
    (body-ends 9995 0 with_0 (in_frame_at 5) (λ left work. refl) (λ left work. refl) 95 42 refl)))))))

c-led : (state : State) → led_to recursing (of recursing (calls_at recursing 9999)) c_named state ≡ Done (global_reference 0) (after 1 state)
unfolding ◌>>=◌ spend gives
c-led state = refl

pub recursing-comes : meaning recursing [] [] 100 ≡ record { events = []; stands = Trapped (trap 6 q); input = []; work = 46 }
unfolding stores.opens
recursing-comes =
    let calls : Calls = calls_at recursing 9999 in
    of-body _ _ _ _ _ ∙
    trap-comes recursing _ [] 99 _ last_state
    (stopped (does recursing calls (roll-CoreStmtOf CoreExpr c_set)) (λ _. nothing) _ _ _
    (row-runs recursing calls c_set _ _
    (then _ _ _ _ _ _ (c-led _)
    (stopped _ _ _ _ _
    (fitted-stops calls (roll-CoreExpr (called_with (literal 3))) _ _ _
    (call-stops calls (literal 3) 3 _ _ _ _ refl (number_text-runs recursing calls here (pos 3) _) recursing-stops))))))
