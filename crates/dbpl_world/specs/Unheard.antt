-- The history of a world that tells nothing.
use Rattle.std.specs.Prelude.{[], None, IsTrue, false, MatchBool}
use Rattle.std.proofs.Common.{subst}
use Rattle.dbpl_world.specs.History.{settled_store, History}

abbrev pub silence : History
silence = record { start = record { input = []; said = []; noted = []; mounted = None; disk = settled_store [] []; others = λ name. settled_store [] [] }; events = [] }

-- It owes nothing to a premise that it tells.
pub unheard : {A : Type 0} → IsTrue false → A
unheard told = absurd (subst (λ b. MatchBool b ⊥ (Unit {0})) told tt)
