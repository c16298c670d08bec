-- What a phrase does: it goes from a state to a value and another state, or it stops. Forms that come with transactions add a
-- stop for ABORT here, and the database from before a transaction to the store; nothing else of this file changes.
use Rattle.std.specs.Prelude.{ℕ, Option}
use Rattle.dbpl_core.specs.Stores.{Store}
use Rattle.dbpl_core.specs.declared.trap.Trap.{Trap}
use Rattle.dbpl_value.specs.declared.value.Value.{Value}

-- Why a phrase stops.
pub data Stop : Type 0 where
  -- the turns are used up
  Going : Stop
  -- the run has come to its end, by HALT
  Ended : Stop
  Trapped : Trap → Stop
  -- EXIT, up to the LOOP around it
  Exiting : Stop
  -- RETURN, with its value where it has one, up to the end of its routine
  Returning : Option Value → Stop
  -- what no accepted program does: a name, a part or a value isn't there, or a value isn't of the type that is asked for
  Wrong : Stop

-- The turns that may still begin, the work that is done so far, and all else that a run has. The input in the store is a list
-- of bytes, numbers below 256.
pub record State : Type 0 where
  pub left : ℕ
  pub work : ℕ
  pub store : Store

pub data Ran (A : Type 0) : Type 0 where
  Done : A → State → Ran A
  Stops : Stop → State → Ran A

abbrev pub Doing : Type 0 → Type 0
Doing A = State → Ran A

-- the state in which a phrase is done, or stops
abbrev pub state_in : {A : Type 0} → Ran A → State
state_in (Done a state) = state
state_in (Stops stop state) = state
