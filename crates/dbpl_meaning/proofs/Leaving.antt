-- Neither EXIT nor RETURN leads out of a routine or a module's body.
use Rattle.std.proofs.Common.{◌≡◌, ◌+◌, ℕ, zero, suc, Bool, true, false, List, [], ◌∷◌, Option, Some, None, if◌then◌else◌, refl}
use Rattle.dbpl_base.specs.declared.place.Place.{Place}
use Rattle.dbpl_core.specs.declared.cell.Cell.{Cell}
use Rattle.dbpl_core.specs.declared.program.Program.{Program}
use Rattle.dbpl_core.specs.declared.unit.CoreUnit.{CoreUnit}
use Rattle.dbpl_meaning.specs.Expressions.{Calls}
use Rattle.dbpl_meaning.specs.Meaning.{bodies, body_does, calls_at, leaves, named_does, result_of, runs, without_value}
use Rattle.dbpl_meaning.specs.State.{Doing, Done, Ended, Exiting, Going, Ran, Returning, State, Stop, Stops, Trapped, Wrong}
use Rattle.dbpl_meaning.specs.Words.{◌>>=◌, AtEnd, ByReturn, Leaving, after_return, closes_frame, gives, go_on, in_frame, opens_frame, stops, there, turn, turn_with, up_to_return}
use Rattle.dbpl_value.specs.Values.{is_of}
use Rattle.dbpl_value.specs.declared.bound.Bound.{Bound}
use Rattle.dbpl_value.specs.declared.db_type.DbType.{DbType}

-- it stops by neither
pub record Stays {A : Type 0} (phrase : Doing A) : Type 0 where
  pub by : (state : State) → leaves (phrase state) ≡ false

bind-stays :
    {A B : Type 0} (ran : Ran A) (next : A → Doing B) → ((a : A) → Stays (next a)) → leaves ran ≡ false → leaves (go_on ran next) ≡ false
bind-stays (Done a state) next each stays = (each a).by state
bind-stays {A = A} {B = B} (Stops stop state) next each stays = stop-stays stop stays
  where
    stop-stays : (stop : Stop) → leaves {A = A} (Stops stop state) ≡ false → leaves {A = B} (Stops stop state) ≡ false
    stop-stays Exiting is = is
    stop-stays (Returning value) is = is
    stop-stays stop is = refl

stays_bind :
    {A B : Type 0} (phrase : Doing A) (next : A → Doing B) → Stays phrase → ((a : A) → Stays (next a)) → Stays (phrase >>= next)
unfolding ◌>>=◌
stays_bind phrase next one each = record { by = λ state. bind-stays (phrase state) next each (one.by state) }

stays_gives : {A : Type 0} (a : A) → Stays (gives a)
unfolding gives
stays_gives a = record { by = λ state. refl }

stays_wrong : {A : Type 0} → Stays (stops {A = A} Wrong)
unfolding stops
stays_wrong = record { by = λ state. refl }

stays_trap : {A : Type 0} (kind : ℕ) (place : Place) → Stays (stops {A = A} (Trapped (record { kind = kind; place = place })))
unfolding stops
stays_trap kind place = record { by = λ state. refl }

stays_if : {A : Type 0} (test : Bool) (one other : Doing A) → Stays one → Stays other → Stays (if test then one else other)
stays_if true one other first second = first
stays_if false one other first second = second

stays_there : {A : Type 0} (found : Option A) → Stays (there found)
stays_there None = stays_wrong
stays_there (Some a) = stays_gives a

turn-stays : {A : Type 0} (doing : Doing A) → Stays doing → (left : ℕ) (state : State) → leaves (turn_with left doing state) ≡ false
turn-stays doing stays zero state = refl
turn-stays doing stays (suc left) state = stays.by (record state { left = left; work = state.work + 1 })

pub stays_turn : {A : Type 0} (doing : Doing A) → Stays doing → Stays (turn doing)
unfolding turn
stays_turn doing stays = record { by = λ state. turn-stays doing stays state.left state }

-- THE reason: what a RETURN or an EXIT comes to at the end of a routine
return-stays : (ran : Ran (Unit {0})) → leaves (after_return ran) ≡ false
return-stays (Done done state) = refl
return-stays (Stops Going state) = refl
return-stays (Stops Ended state) = refl
return-stays (Stops (Trapped trap) state) = refl
return-stays (Stops Exiting state) = refl
return-stays (Stops (Returning value) state) = refl
return-stays (Stops Wrong state) = refl

stays_up_to_return : (doing : Doing (Unit {0})) → Stays (up_to_return doing)
unfolding up_to_return
stays_up_to_return doing = record { by = λ state. return-stays (doing state) }

stays_opens : (cells : List Cell) → Stays (opens_frame cells)
unfolding opens_frame
stays_opens cells = record { by = λ state. refl }

stays_closes : Stays closes_frame
unfolding closes_frame
stays_closes = record { by = λ state. refl }

stays_in_frame : {A : Type 0} (cells : List Cell) (doing : Doing A) → Stays doing → Stays (in_frame cells doing)
stays_in_frame cells doing stays =
    stays_bind _ _ (stays_opens cells) (λ _. stays_bind _ _ stays (λ a. stays_bind _ _ stays_closes (λ _. stays_gives a)))

stays_result : (kind : Option DbType) (finish : Place) (leaving : Leaving) → Stays (result_of kind finish leaving)
stays_result None finish AtEnd = stays_gives _
stays_result None finish (ByReturn None) = stays_gives _
stays_result None finish (ByReturn (Some v)) = stays_wrong
stays_result (Some kind) finish AtEnd = stays_trap 6 finish
stays_result (Some kind) finish (ByReturn None) = stays_wrong
stays_result (Some kind) finish (ByReturn (Some v)) =
    stays_bind _ _ (stays_if (is_of kind v) _ _ (stays_gives v) stays_wrong) (λ checked. stays_gives _)

stays_without_value : (leaving : Leaving) → Stays (without_value leaving)
stays_without_value AtEnd = stays_gives _
stays_without_value (ByReturn None) = stays_gives _
stays_without_value (ByReturn (Some v)) = stays_wrong

pub stays_named : (program : Program) (calls : Calls) (owner name : List ℕ) (cells : List Cell) → Stays (named_does program calls owner name cells)
stays_named program calls owner name cells =
    stays_bind _ _ (stays_there _) (λ routine.
    stays_in_frame _ _ (stays_bind _ _ (stays_up_to_return _) (λ leaving. stays_result routine.head.result routine.finish leaving)))

pub stays_call : (program : Program) (room : ℕ) (place : Place) (owner name : List ℕ) (cells : List Cell) → Stays ((calls_at program room).routine place owner name cells)
unfolding calls_at
stays_call program zero place owner name cells = stays_trap 7 place
stays_call program (suc room) place owner name cells = stays_turn _ (stays_named program (calls_at program room) owner name cells)

stays_body : (program : Program) (calls : Calls) (unit : CoreUnit) → Stays (body_does program calls unit)
stays_body program calls unit =
    stays_in_frame _ _ (stays_bind _ _ (stays_up_to_return _) (λ leaving. stays_without_value leaving))

stays_bodies : (program : Program) (numbers : List ℕ) → Stays (bodies program numbers)
stays_bodies program [] = stays_gives _
stays_bodies program (number ∷ numbers) =
    stays_bind _ _ (stays_there _) (λ unit.
    stays_bind _ _ (stays_turn _ (stays_body program _ unit)) (λ _. stays_bodies program numbers))

pub runs-stays : (program : Program) (database : List Bound) (input : List ℕ) (turns : ℕ) → leaves (runs program database input turns) ≡ false
unfolding runs
runs-stays program database input turns = (stays_bodies program program.order).by _
