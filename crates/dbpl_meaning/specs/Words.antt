-- The words of which the meaning of each phrase is made. Those that look at the state or change it are shut: what is proved of
-- the meaning is proved of them, and then of what is made of them. An effect on the store is one word, over the effect that
-- `dbpl_core` defines, which the machine has too. With range variables and elements by their keys a store has more, and the
-- effects behind `value_at` and `assigns` do more; the words stay.
use Rattle.std.specs.Prelude.{◌≡◌, ℕ, zero, suc, ◌+◌, ◌*◌, ℤ, pos, Bool, true, false, not, if◌then◌else◌, List, [], ◌∷◌, length, Option, Some, None, option_map, Result, Ok, Err}
use Rattle.dbpl_base.specs.declared.place.Place.{Place}
use Rattle.dbpl_core.specs.Stores as stores
use Rattle.dbpl_core.specs.Stores.{Store, held_at}
use Rattle.dbpl_core.specs.declared.cell.Cell.{Cell}
use Rattle.dbpl_core.specs.declared.reference.Reference.{Reference}
use Rattle.dbpl_core.specs.declared.trap.Trap.{Trap}
use Rattle.dbpl_meaning.specs.State.{Doing, Done, Exiting, Going, Ran, Returning, State, Stop, Stops, Trapped, Wrong}
use Rattle.dbpl_value.specs.Paths.{type_at_path}
use Rattle.dbpl_value.specs.Values.{is_of}
use Rattle.dbpl_value.specs.declared.db_type.DbType.{DbType}
use Rattle.dbpl_value.specs.declared.path_err.PathErr.{PathErr}
use Rattle.dbpl_value.specs.declared.value.Value.{Value, Value-F, out-Value}
use Rattle.dbpl_value.specs.declared.value.Value.TheOpen as values

-- ---- one phrase and the next

abbrev pub go_on : {A B : Type 0} → Ran A → (A → Doing B) → Ran B
go_on (Done a state) next = next a state
go_on (Stops stop state) next = Stops stop state

infixl 20 ◌>>=◌
-- one phrase, and then the next with its value
unfoldable pub ◌>>=◌ : {A B : Type 0} → Doing A → (A → Doing B) → Doing B
phrase >>= next = λ state. go_on (phrase state) next

infixl 20 ◌>>◌
abbrev pub ◌>>◌ : {A B : Type 0} → Doing A → Doing B → Doing B
phrase >> next = phrase >>= λ _. next

unfoldable pub gives : {A : Type 0} → A → Doing A
gives a = λ state. Done a state

unfoldable pub stops : {A : Type 0} → Stop → Doing A
stops stop = λ state. Stops stop state

abbrev pub nothing : Doing (Unit {0})
nothing = gives (tt {0})

abbrev pub trap : ℕ → Place → Trap
trap kind place = record { kind = kind; place = place }

-- a trap of this kind at this place
abbrev pub traps : {A : Type 0} → ℕ → Place → Doing A
traps kind place = stops (Trapped (trap kind place))

-- ---- work and turns

-- so much work
unfoldable pub spend : ℕ → Doing (Unit {0})
spend n = λ state. Done (tt {0}) (record state { work = state.work + n })

abbrev pub turn_with : {A : Type 0} → ℕ → Doing A → State → Ran A
turn_with zero doing state = Stops Going state
turn_with (suc left) doing state = doing (record state { left = left; work = state.work + 1 })

-- begins a turn, which is one work, and does this, where a turn is left
unfoldable pub turn : {A : Type 0} → Doing A → Doing A
turn doing = λ state. turn_with state.left doing state

-- Turn after turn while the test says so, and fewer than `most` of them; what one turn gives is handed on to the next.
unfoldable pub turns : {A : Type 0} → ℕ → (A → Doing Bool) → (A → Doing A) → A → Doing (Unit {0})
turns zero goes_on round a = stops Going
turns (suc most) goes_on round a = do
  again ← goes_on a
  if again then turn (round a) >>= turns most goes_on round else nothing

-- the turns of a loop, which are no more than those that are left
unfoldable pub loops : {A : Type 0} → (A → Doing Bool) → (A → Doing A) → A → Doing (Unit {0})
loops goes_on round a = λ state. turns (suc state.left) goes_on round a state

-- A loop is its test, and where that says so a turn and the loop again.
abbrev pub Unrolls : {A : Type 0} → (A → Doing Bool) → (A → Doing A) → A → Type 0
Unrolls goes_on round a =
    loops goes_on round a ≡ (goes_on a >>= (λ again. if again then turn (round a) >>= loops goes_on round else nothing))

-- ---- where EXIT and RETURN lead

abbrev pub after_exit : Ran (Unit {0}) → Ran (Unit {0})
after_exit (Stops Exiting state) = Done (tt {0}) state
after_exit ran = ran

-- does this, and an EXIT in it leads behind it
unfoldable pub up_to_exit : Doing (Unit {0}) → Doing (Unit {0})
up_to_exit doing = λ state. after_exit (doing state)

-- How the statements of a routine or of a module's body come to their end.
pub data Leaving : Type 0 where
  AtEnd : Leaving
  ByReturn : Option Value → Leaving

-- An EXIT has no LOOP around it there.
abbrev pub after_return : Ran (Unit {0}) → Ran Leaving
after_return (Done done state) = Done AtEnd state
after_return (Stops (Returning value) state) = Done (ByReturn value) state
after_return (Stops Exiting state) = Stops Wrong state
after_return (Stops stop state) = Stops stop state

-- does this, and a RETURN in it leads behind it
unfoldable pub up_to_return : Doing (Unit {0}) → Doing Leaving
up_to_return doing = λ state. after_return (doing state)

-- ---- lists of phrases

-- these, one after another
abbrev pub block : {S : Type 0} → (S → Doing (Unit {0})) → List S → Doing (Unit {0})
block does [] = nothing
block does (statement ∷ statements) = does statement >> block does statements

-- the values of these, from left to right
abbrev pub each : {A B : Type 0} → (A → Doing B) → List A → Doing (List B)
each phrase [] = gives []
each phrase (a ∷ rest) = do
  b ← phrase a
  others ← each phrase rest
  gives (b ∷ others)

-- the same where each has its own of the second list, and both are as long
abbrev pub each_with : {A B C : Type 0} → (A → B → Doing C) → List A → List B → Doing (List C)
each_with phrase [] [] = gives []
each_with phrase (a ∷ rest) (b ∷ others) = do
  c ← phrase a b
  further ← each_with phrase rest others
  gives (c ∷ further)
each_with phrase _ _ = stops Wrong

-- ---- what is asked of a value

-- the thing, where it is there
abbrev pub there : {A : Type 0} → Option A → Doing A
there None = stops Wrong
there (Some a) = gives a

-- the value, which is of this type
abbrev pub of_type : DbType → Value → Doing Value
of_type kind value = if is_of kind value then gives value else stops Wrong

abbrev pub only_number : Value-F Value → Doing ℤ
only_number (values.Num n) = gives n
only_number _ = stops Wrong

-- the number that a value is
abbrev pub number : Value → Doing ℤ
number value = only_number (out-Value value)

-- the number, which is of this type
abbrev pub number_of_type : DbType → Value → Doing ℤ
number_of_type kind value = do
  checked ← of_type kind value
  number checked

abbrev pub is_zero : ℤ → Bool
is_zero (pos zero) = true
is_zero _ = false

-- whether it is TRUE
abbrev pub truth : Value → Doing Bool
truth value = do
  n ← number value
  gives (not (is_zero n))

-- ---- the store

abbrev pub looked : {A : Type 0} → Option A → State → Ran A
looked None state = Stops Wrong state
looked (Some a) state = Done a state

-- what is seen in the store, where it is there
unfoldable pub looks : {A : Type 0} → (Store → Option A) → Doing A
looks at = λ state. looked (at state.store) state

-- the answer that isn't a refusal
abbrev pub answered : {A : Type 0} → Option (Result A PathErr) → Option A
answered None = None
answered (Some (Ok a)) = Some a
answered (Some (Err refusal)) = None

-- the value to which a reference leads
unfoldable pub value_at : Reference → Doing Value
value_at reference = looks (λ store. answered (stores.reads reference store))

-- the type of the place to which a reference leads
abbrev pub kind_at : Reference → Store → Option DbType
kind_at reference store = option_map (λ held. type_at_path held.kind reference.path) (held_at reference.root store)

abbrev pub stored : Option Store → State → Ran (Unit {0})
stored None state = Stops Wrong state
stored (Some store) state = Done (tt {0}) (record state { store = store })

-- this value, where it is put
unfoldable pub replaces : Reference → Value → Doing (Unit {0})
replaces reference value = λ state. stored (answered (stores.puts reference value state.store)) state

-- the value comes to stand where a reference leads, whose type it has
unfoldable pub assigns : Reference → Value → Doing (Unit {0})
assigns reference value = do
  kind ← looks (kind_at reference)
  checked ← of_type kind value
  replaces reference checked

-- the variable for which a slot of the last frame stands
unfoldable pub variable_at : ℕ → Doing Reference
variable_at slot = looks (stores.refers slot)

-- prints these bytes, each eight work
unfoldable pub writes : List ℕ → Doing (Unit {0})
writes bytes = λ state. Done (tt {0}) (record state { work = state.work + 8 * length bytes; store = stores.says bytes state.store })

-- the input that is left
unfoldable pub input_left : Doing (List ℕ)
input_left = λ state. Done state.store.input state

abbrev pub took : Option ℕ → Store → State → Ran (Option ℕ)
took None store state = Done None state
took (Some byte) store state = Done (Some byte) (record state { work = state.work + 8; store = store })

-- takes the next byte of the input, which is eight work; at its end there is none
unfoldable pub takes_byte : Doing (Option ℕ)
takes_byte = λ state. took (stores.takes state.store).byte (stores.takes state.store).store state

-- takes so many bytes
abbrev pub takes_bytes : ℕ → Doing (Unit {0})
takes_bytes zero = nothing
takes_bytes (suc n) = takes_byte >> takes_bytes n

unfoldable pub opens_frame : List Cell → Doing (Unit {0})
opens_frame cells = λ state. Done (tt {0}) (record state { store = stores.opens cells state.store })

unfoldable pub closes_frame : Doing (Unit {0})
closes_frame = λ state. Done (tt {0}) (record state { store = stores.closes state.store })

-- does this in a frame of its own with these cells
abbrev pub in_frame : {A : Type 0} → List Cell → Doing A → Doing A
in_frame cells doing = do
  opens_frame cells
  a ← doing
  closes_frame
  gives a
