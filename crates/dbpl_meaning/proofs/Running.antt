-- How phrases run from a state, one behind the other: what an example is computed by.
use Rattle.std.proofs.Common.{◌≡◌, ◌+◌, ℕ, suc, ℤ, pos, Bool, false, true, Option, Some, ap, refl, ◌∙◌}
use Rattle.std.specs.Ordering.{int_cmp}
use Rattle.dbpl_base.specs.declared.place.Place.{Place}
use Rattle.dbpl_core.specs.declared.comparison.Comparison.TheVariants as comparisons
use Rattle.dbpl_core.specs.declared.relation.Relation.{Relation}
use Rattle.dbpl_core.specs.declared.expr.CoreExpr.{CoreExpr, CoreExpr-F, roll-CoreExpr}
use Rattle.dbpl_core.specs.declared.expr.CoreExpr.TheOpen as exprs
use Rattle.dbpl_core.specs.declared.program.Program.{Program}
use Rattle.dbpl_core.specs.declared.stmt.CoreStmtOf.{CoreStmtOf, CoreStmtOf-F, roll-CoreStmtOf}
use Rattle.dbpl_meaning.proofs.Levels.{does-roll, value_of-roll}
use Rattle.dbpl_meaning.proofs.Steady.{turn-none, turn-one}
use Rattle.dbpl_meaning.specs.Expressions.{Calls, meaning_of, value_level, value_of}
use Rattle.dbpl_meaning.specs.Numbers.{compared, exact, fitted, is_related, number_of_bool, wide}
use Rattle.dbpl_meaning.specs.State.{Doing, Done, Going, Ran, State, Stop, Stops}
use Rattle.dbpl_meaning.specs.Statements.{does, row}
use Rattle.dbpl_meaning.specs.Words.{◌>>=◌, gives, loops, number, number_of_type, of_type, spend, there, truth, turn, turns}
use Rattle.dbpl_value.proofs.ValuesLemmas.{is_of-out}
use Rattle.dbpl_value.specs.Types.{is_in, range_of}
use Rattle.dbpl_value.specs.Values.{is_of}
use Rattle.dbpl_value.specs.declared.db_type.DbType.{DbType}
use Rattle.dbpl_value.specs.declared.db_type.DbType.TheVariants as kinds
use Rattle.dbpl_value.specs.declared.range.Range.{Range}
use Rattle.dbpl_value.specs.declared.value.Value.{Value}
use Rattle.dbpl_value.specs.declared.value.Value.TheVariants as value

-- the state with so much more work
abbrev pub after : ℕ → State → State
after n state = record state { work = state.work + n }

pub then :
    {A B : Type 0} (phrase : Doing A) (next : A → Doing B) (state between : State) (a : A) (ran : Ran B) →
    phrase state ≡ Done a between → next a between ≡ ran → (phrase >>= next) state ≡ ran
unfolding ◌>>=◌
then phrase next state between a ran one other = rw one other

-- a phrase that stops
pub stopped :
    {A B : Type 0} (phrase : Doing A) (next : A → Doing B) (state between : State) (stop : Stop) →
    phrase state ≡ Stops stop between → (phrase >>= next) state ≡ Stops stop between
unfolding ◌>>=◌
stopped phrase next state between stop one = rw one refl

pub gives-runs : {A : Type 0} (a : A) (state : State) → gives a state ≡ Done a state
unfolding gives
gives-runs a state = refl

pub spend-runs : (n : ℕ) (state : State) → spend n state ≡ Done (tt {0}) (after n state)
unfolding spend
spend-runs n state = refl

-- what is there
pub there-runs : {A : Type 0} (found : Option A) (a : A) (state : State) → found ≡ Some a → there found state ≡ Done a state
unfolding gives
there-runs found a state is = rw is refl

pub number-runs : (n : ℤ) (state : State) → number (value.Num n) state ≡ Done n state
unfolding gives
number-runs n state = rw (value.outs-Num n) refl

-- ---- numbers and truth values

pub exact-runs : (n : ℤ) (state : State) → is_in wide n ≡ true → exact n state ≡ Done n state
unfolding gives
exact-runs n state lies = rw lies refl

pub compared-runs :
    (relation : Relation) (n m : ℤ) (state : State) →
    compared comparisons.Numbers relation (value.Num n) (value.Num m) state ≡ Done (is_related relation (int_cmp n m)) state
compared-runs relation n m state =
    then _ _ _ _ _ _ (number-runs n state) (then _ _ _ _ _ _ (number-runs m state) (gives-runs _ state))

pub truth-runs : (test : Bool) (state : State) → truth (number_of_bool test) state ≡ Done test state
truth-runs true state = then _ _ _ _ _ _ (number-runs (pos 1) state) (gives-runs true state)
truth-runs false state = then _ _ _ _ _ _ (number-runs (pos 0) state) (gives-runs false state)

-- ---- types of numbers

pub card-of : (n : ℤ) → is_of kinds.Card (value.Num n) ≡ is_in (record { least = pos 0; greatest = pos 4294967295 }) n
card-of n = is_of-out kinds.Card (value.Num n) ∙ rw (kinds.outs-Card, value.outs-Num n) refl

pub of_card-runs :
    (n : ℤ) (state : State) → is_in (record { least = pos 0; greatest = pos 4294967295 }) n ≡ true →
    of_type kinds.Card (value.Num n) state ≡ Done (value.Num n) state
unfolding gives
of_card-runs n state lies = rw (card-of n, lies) refl

pub number_of_card-runs :
    (n : ℤ) (state : State) → is_in (record { least = pos 0; greatest = pos 4294967295 }) n ≡ true →
    number_of_type kinds.Card (value.Num n) state ≡ Done n state
number_of_card-runs n state lies =
    then (of_type kinds.Card (value.Num n)) number state state (value.Num n) _ (of_card-runs n state lies) (number-runs n state)

-- a number that lies in its type
pub fitted-runs :
    (kind : DbType) (range : Range) (place : Place) (n : ℤ) (state : State) → range_of kind ≡ Some range → is_in range n ≡ true →
    fitted kind place n state ≡ Done n state
unfolding ◌>>=◌ gives
fitted-runs kind range place n state has lies = rw (has, lies) refl

-- ---- expressions and statements, by their rows

module _ (program : Program) (calls : Calls) where
  pub value-runs :
      (x : CoreExpr-F CoreExpr) (state : State) (ran : Ran Value) →
      value_level program (meaning_of program calls) calls x state ≡ ran → value_of program calls (roll-CoreExpr x) state ≡ ran
  value-runs x state ran row = ap (λ (doing : Doing Value). doing state) (value_of-roll program calls x) ∙ row

  pub number_text-runs :
      (place : Place) (n : ℤ) (state : State) →
      value_of program calls (roll-CoreExpr (exprs.Number place n)) state ≡ Done (value.Num n) (after 1 state)
  unfolding ◌>>=◌ spend gives
  number_text-runs place n state = value-runs (exprs.Number place n) state _ refl

  -- an expression that gives a number, where it fits
  pub fits-runs :
      (place : Place) (kind : DbType) (range : Range) (e : CoreExpr) (n : ℤ) (state between : State) →
      range_of kind ≡ Some range → is_in range n ≡ true → value_of program calls e state ≡ Done (value.Num n) between →
      value_of program calls (roll-CoreExpr (exprs.Fitted place kind e)) state ≡ Done (value.Num n) between
  fits-runs place kind range e n state between has lies value =
      value-runs (exprs.Fitted place kind e) state _
      (then _ _ _ _ _ _ value
      (then _ _ _ _ _ _ (number-runs n between)
      (then _ _ _ _ _ _ (fitted-runs kind range place n between has lies) (gives-runs _ between))))

  pub row-runs :
      (x : CoreStmtOf-F CoreExpr (CoreStmtOf CoreExpr)) (state : State) (ran : Ran (Unit {0})) →
      row program calls (does program calls) x (after 1 state) ≡ ran → does program calls (roll-CoreStmtOf CoreExpr x) state ≡ ran
  unfolding ◌>>=◌ spend
  row-runs x state ran is = ap (λ (doing : Doing (Unit {0})). doing state) (does-roll program calls x) ∙ is

-- ---- loops

pub turn-runs :
    {A : Type 0} (doing : Doing A) (state : State) (left : ℕ) (ran : Ran A) → state.left ≡ suc left →
    doing (record state { left = left; work = state.work + 1 }) ≡ ran → turn doing state ≡ ran
turn-runs doing state left ran some is = turn-one doing state left some ∙ is

-- a turn, and what follows
pub turn-again :
    {A : Type 0} (most : ℕ) (goes : A → Doing Bool) (round : A → Doing A) (a b : A) (state between later : State)
    (ran : Ran (Unit {0})) → goes a state ≡ Done true between → turn (round a) between ≡ Done b later →
    turns most goes round b later ≡ ran → turns (suc most) goes round a state ≡ ran
unfolding ◌>>=◌ turns
turn-again most goes round a b state between later ran test body rest = rw (test, body) rest

-- no turn more
pub turn-ends :
    {A : Type 0} (most : ℕ) (goes : A → Doing Bool) (round : A → Doing A) (a : A) (state between : State) →
    goes a state ≡ Done false between → turns (suc most) goes round a state ≡ Done (tt {0}) between
unfolding ◌>>=◌ gives turns
turn-ends most goes round a state between test = rw test refl

-- no turn is left
pub turn-cut :
    {A : Type 0} (most : ℕ) (goes : A → Doing Bool) (round : A → Doing A) (a : A) (state between : State) →
    goes a state ≡ Done true between → between.left ≡ 0 → turns (suc most) goes round a state ≡ Stops Going between
unfolding ◌>>=◌ turns
turn-cut most goes round a state between test none = rw (test, turn-none (round a) between none) refl

-- a turn that stops
pub turn-stops :
    {A : Type 0} (most : ℕ) (goes : A → Doing Bool) (round : A → Doing A) (a : A) (state between later : State) (stop : Stop) →
    goes a state ≡ Done true between → turn (round a) between ≡ Stops stop later → turns (suc most) goes round a state ≡ Stops stop later
unfolding ◌>>=◌ turns
turn-stops most goes round a state between later stop test body = rw (test, body) refl

pub loops-runs :
    {A : Type 0} (goes : A → Doing Bool) (round : A → Doing A) (a : A) (state : State) (ran : Ran (Unit {0})) →
    turns (suc state.left) goes round a state ≡ ran → loops goes round a state ≡ ran
unfolding loops
loops-runs goes round a state ran is = is
