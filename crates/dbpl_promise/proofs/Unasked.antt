-- No command that was asked for answers bad words, and one that answers an end has passed all its stages.
use Rattle.std.proofs.Common.{ap, inl, inr}
use Rattle.dbpl_base.specs.declared.status.Status.{Status}
use Rattle.dbpl_base.specs.declared.status.Status.TheVariants as status
use Rattle.dbpl_core.specs.Outcomes.{TellsOfEnd}
use Rattle.dbpl_promise.proofs.AnswerKinds.{Concludes, HasKinds, end_kind, kind_of}
use Rattle.dbpl_promise.specs.Stages.{MayAnswer, Stage}
use Rattle.dbpl_promise.specs.Work.{Work}

module _ (stage : Stage Status) (kinds : HasKinds stage) (work : Work) where
  pub never_bad_words : Concludes stage → MayAnswer stage work status.BadWords → ⊥
  never_bad_words concludes (inl (inl refuses)) = cc (kinds.refuses work status.BadWords refuses)
  never_bad_words concludes (inl (inr passes)) = cc (concludes work status.BadWords passes)
  never_bad_words concludes (inr (inl fault)) = cc (kinds.fails work status.BadWords fault)
  never_bad_words concludes (inr (inr memory)) = cc (memory)

  pub passed_all : (answer : Status) → TellsOfEnd answer → MayAnswer stage work answer → stage.passes work answer
  passed_all answer ends (inl (inl refuses)) = absurd (cc (kinds.refuses work answer refuses, end_kind answer ends))
  passed_all answer ends (inl (inr passes)) = passes
  passed_all answer ends (inr (inl fault)) = absurd (cc (kinds.fails work answer fault, end_kind answer ends))
  passed_all answer ends (inr (inr memory)) = absurd (cc (ap kind_of memory, end_kind answer ends))
