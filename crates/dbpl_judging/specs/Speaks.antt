-- That nothing is refused without a breach.
use Rattle.std.specs.Prelude.{◌≡◌, [], None}
use Rattle.dbpl_judging.specs.Judgements.{Judged}
use Rattle.dbpl_judging.specs.Stages.{Staged}
use Rattle.dbpl_symbols.specs.Known.{IsKnown}

-- THE law that each judgement keeps in a scope that is known: where there is no core, a rule is broken
abbrev pub Speaks : {A : Type 0} → Judged A → Type 0
Speaks judged = judged.core ≡ None → judged.breaches ≡ [] → ⊥

-- THE same of what declares, and that nothing is unknown behind it where it breaks no rule
pub record SpeaksStaged {A : Type 0} (staged : Staged A) : Type 0 where
  pub core : staged.core ≡ None → staged.breaches ≡ [] → ⊥
  pub known : staged.breaches ≡ [] → IsKnown staged.scope
