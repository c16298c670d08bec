-- That what is resolved breaks no rule.
use Rattle.std.specs.Prelude.{◌≡◌, List, [], Option, Some}
use Rattle.dbpl_base.specs.declared.refusal.Refusal.{Refusal}
use Rattle.dbpl_judging.specs.Judgements.{Judged}
use Rattle.dbpl_judging.specs.Stages.{Staged}

-- what has a core has no breach
abbrev pub IsSilent : {A : Type 0} → List Refusal → Option A → Type 0
IsSilent {A = A} breaches core = (resolved : A) → core ≡ Some resolved → breaches ≡ []

-- THE law that each judgement keeps but one by `>>?`: where a rule is broken, there is no core
abbrev pub Silences : {A : Type 0} → Judged A → Type 0
Silences judged = IsSilent judged.breaches judged.core

-- THE same of what declares
abbrev pub SilencesStaged : {A : Type 0} → Staged A → Type 0
SilencesStaged staged = IsSilent staged.breaches staged.core
