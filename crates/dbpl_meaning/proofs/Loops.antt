-- A loop is its test, and where that says so a turn and the loop again: that turns are counted is seen in nothing else. It
-- needs that test and turn have no more turns left afterwards, as all phrases of a program do.
use Rattle.std.proofs.Common.{◌≡◌, ◌<◌, ◌≤◌, ℕ, zero, suc, ℤ, Bool, true, false, List, Option, ap, arith, if◌then◌else◌, refl, sym, ◌∙◌}
use Rattle.dbpl_base.specs.declared.place.Place.{Place}
use Rattle.dbpl_core.specs.declared.control_of.CoreControlOf.{CoreControlOf}
use Rattle.dbpl_core.specs.declared.expr.CoreExpr.{CoreExpr}
use Rattle.dbpl_core.specs.declared.program.Program.{Program}
use Rattle.dbpl_core.specs.declared.stmt.CoreStmtOf.{CoreStmtOf}
use Rattle.dbpl_core.specs.declared.stmt.CoreStmtOf.TheOpen as stmts
use Rattle.dbpl_meaning.proofs.Goes.{Keeps}
use Rattle.dbpl_meaning.proofs.Levels.{does-roll}
use Rattle.dbpl_meaning.proofs.Rows.{AreSteady, steady_condition, steady_round, steady_round_until, steady_round_with}
use Rattle.dbpl_meaning.proofs.Steady.{IsSteady, steady_gives, turn-less}
use Rattle.dbpl_meaning.proofs.Trees.{steady_calls, steady_does_of, steady_value_of}
use Rattle.dbpl_meaning.specs.Expressions.{Calls, value_of}
use Rattle.dbpl_meaning.specs.Loops.{IsFor, IsLoop, IsRepeat, IsWhile, repeated}
use Rattle.dbpl_meaning.specs.Meaning.{calls_at}
use Rattle.dbpl_meaning.specs.State.{Doing, Done, Ran, State, Stops, state_in}
use Rattle.dbpl_meaning.specs.Statements.{condition, does, goes_on_to, one_without, round, round_until, round_with}
use Rattle.dbpl_meaning.specs.Words.{◌>>=◌, Unrolls, gives, go_on, loops, nothing, turn, turn_with, turns}

-- what comes next is asked only of states in which the phrase is done
next-same :
    {A B : Type 0} (ran : Ran A) (next other : A → Doing B) → ((a : A) (state : State) → ran ≡ Done a state → next a state ≡ other a state) →
    go_on ran next ≡ go_on ran other
next-same (Done a state) next other same = same a state refl
next-same (Stops stop state) next other same = refl

module _ {A : Type 0} (goes_on : A → Doing Bool) (round : A → Doing A)
    (test : (a : A) → Keeps (goes_on a)) (body : (a : A) → Keeps (round a)) where
  -- what comes behind the test
  again-same :
      (next other : A → Doing (Unit {0})) (a : A) (again : Bool) (state : State) →
      ((b : A) (last : State) → last.left < state.left → next b last ≡ other b last) →
      (if again then turn (round a) >>= next else nothing) state ≡ (if again then turn (round a) >>= other else nothing) state
  unfolding ◌>>=◌ turn
  again-same next other a true state same =
      next-same (turn_with state.left (round a) state) next other (λ b last is.
      same b last (turn-less (round a) (body a) state.left state b last is))
  again-same next other a false state same = refl

  -- the test has no more turns left afterwards
  test-fewer : (a : A) (again : Bool) (state later : State) → goes_on a state ≡ Done again later → later.left ≤ state.left
  test-fewer a again state later is = rw (sym (ap (λ ran. (state_in ran).left) is)) ((test a).fewer state)

  -- where fewer turns are left than both, the two are the same
  turns-same :
      (most other : ℕ) (a : A) (state : State) → state.left < most → state.left < other →
      turns most goes_on round a state ≡ turns other goes_on round a state
  unfolding ◌>>=◌ turns
  turns-same zero other a state less more = absurd (omega (arith, less))
  turns-same (suc most) zero a state less more = absurd (omega (arith, more))
  turns-same (suc most) (suc other) a state less more =
      next-same (goes_on a state) _ _ (λ again later is.
      let fewer = test-fewer a again state later is in
      again-same (turns most goes_on round) (turns other goes_on round) a again later (λ b last one_less.
      turns-same most other b last (omega (arith, one_less, fewer, less)) (omega (arith, one_less, fewer, more))))

  pub loops-unrolled :
      (a : A) → Unrolls goes_on round a
  unfolding ◌>>=◌ turns loops
  loops-unrolled a =
      λ i state. next-same (goes_on a state) _ _ (λ again later is.
      let fewer = test-fewer a again state later is in
      again-same (turns state.left goes_on round) (loops goes_on round) a again later (λ b last one_less.
      turns-same state.left (suc last.left) b last (omega (arith, one_less, fewer)) (omega arith))) i

-- ---- the loops of a program

module _ (program : Program) (room : ℕ) where
  abbrev calls : Calls
  calls = calls_at program room

  abbrev Stmt : Type 0
  Stmt = CoreStmtOf CoreExpr

  abbrev statement : Stmt → Doing (Unit {0})
  statement = does program calls

  ready : AreSteady calls
  ready = steady_calls program room

  expr : (e : CoreExpr) → IsSteady (value_of program calls e)
  expr = steady_value_of program calls ready

  stmt : (s : Stmt) → IsSteady (statement s)
  stmt = steady_does_of program calls ready

  pub while-unrolls : (e : CoreExpr) (body : List Stmt) → Unrolls (λ before. condition program calls e) (round statement body) (tt {0})
  while-unrolls e body =
      loops-unrolled _ _ (λ before. (steady_condition program calls ready expr e).keeps) (λ before. (steady_round program calls ready expr statement stmt body before).keeps)
      (tt {0})

  pub repeat-unrolls : (body : List Stmt) (e : CoreExpr) (again : Bool) → Unrolls gives (round_until program calls statement body e) again
  repeat-unrolls body e again =
      loops-unrolled _ _ (λ before. (steady_gives before).keeps)
      (λ before. (steady_round_until program calls ready expr statement stmt body e before).keeps) again

  pub loop-unrolls : (body : List Stmt) → Unrolls (λ before. gives true) (round statement body) (tt {0})
  loop-unrolls body =
      loops-unrolled _ _ (λ before. (steady_gives true).keeps) (λ before. (steady_round program calls ready expr statement stmt body before).keeps) (tt {0})

  pub for-unrolls :
      (control : CoreControlOf CoreExpr) (last by : ℤ) (body : List Stmt) (n : ℤ) →
      Unrolls (λ n. gives (goes_on_to last by n)) (round_with program calls statement control by body) n
  for-unrolls control last by body n =
      loops-unrolled _ _ (λ n. (steady_gives _).keeps)
      (λ n. (steady_round_with program calls ready expr statement stmt control by body n).keeps) n

  -- ---- the statements themselves

  -- what the test says without looking is done at once
  gives-then : {A B : Type 0} (a : A) (next : A → Doing B) → (gives a >>= next) ≡ next a
  unfolding ◌>>=◌ gives
  gives-then a next = refl

  pub is-while : (place : Place) (e : CoreExpr) (body : List Stmt) → IsWhile program calls place e body
  is-while place e body = record {
    loop = loops (λ before. condition program calls e) (round statement body) (tt {0});
    begins = does-roll program calls (stmts.While place e body);
    unrolls = while-unrolls e body;
  }

  abbrev repeating : List Stmt → CoreExpr → Bool → Doing (Unit {0})
  repeating body e again = loops gives (round_until program calls statement body e) again

  again-repeating :
      (body : List Stmt) (e : CoreExpr) (again : Bool) → repeating body e again ≡ (if again then repeating body e true else nothing)
  again-repeating body e true = refl
  again-repeating body e false = repeat-unrolls body e false ∙ gives-then false _

  pub is-repeat : (place : Place) (body : List Stmt) (e : CoreExpr) → IsRepeat program calls place body e
  is-repeat place body e = record {
    loop = repeating body e true;
    begins = does-roll program calls (stmts.Repeat place body e);
    unrolls =
        repeat-unrolls body e true ∙ gives-then true _ ∙
        (λ i. turn (repeated program calls body e) >>= (λ again. again-repeating body e again i));
  }

  pub is-loop : (place : Place) (body : List Stmt) → IsLoop program calls place body
  is-loop place body = record {
    loop = loops (λ before. gives true) (round statement body) (tt {0});
    begins = does-roll program calls (stmts.Loop place body);
    unrolls = loop-unrolls body ∙ gives-then true _;
  }

  pub is-for :
      (place : Place) (control : CoreControlOf CoreExpr) (from to : CoreExpr) (by : Option ℤ) (body : List Stmt) →
      IsFor program calls place control from to by body
  is-for place control from to by body = record {
    loop = λ last n. loops (λ n. gives (goes_on_to last (one_without by) n)) (round_with program calls statement control (one_without by) body) n;
    begins = does-roll program calls (stmts.For place control from to by body);
    unrolls = λ last n. for-unrolls control last (one_without by) body n ∙ gives-then (goes_on_to last (one_without by) n) _;
  }
