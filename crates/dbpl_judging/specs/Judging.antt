-- The contract of every function that judges.
use Rattle.std.specs.Prelude.{◌≡◌, Option, Result, IfOk}
use Rattle.dbpl_base.specs.declared.memory.Memory.{Memory}
use Rattle.dbpl_judging.specs.Checking.{Checking, noting}
use Rattle.dbpl_judging.specs.Judgements.{Judged}

-- THE contract: unless memory is wanted, the answer is the core of the judgement, and its breaches were noted. All else of the
-- checker is as before, its setting too.
abbrev pub Judges : {A : Type 0} → Judged A → Result (Option A) Memory → Checking → Checking → Type 0
Judges judged result old new = IfOk result (λ core. (core ≡ judged.core) × (new ≡ noting judged.breaches old))
