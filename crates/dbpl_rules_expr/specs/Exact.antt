-- When a judgement is exact: it resolves to something exactly where no rule is broken.
use Rattle.dbpl_judging.specs.Judgements.{Judged}
use Rattle.dbpl_judging.specs.Silences.{Silences}
use Rattle.dbpl_judging.specs.Speaks.{Speaks}

-- THE two laws of a judgement: what has no core has a breach, and what has a core has none
pub record IsExact {A : Type 0} (judged : Judged A) : Type 0 where
  pub speaks : Speaks judged
  pub silences : Silences judged
