-- An answer tells of an end, or it refuses, or it tells of a fault or want of memory. No command answers bad words.
use Rattle.std.proofs.Common.{◌≡◌, ap, inl, inr, refl, true}
use Rattle.dbpl_base.specs.declared.status.Status.{Status}
use Rattle.dbpl_base.specs.declared.status.Status.TheVariants as status
use Rattle.dbpl_core.specs.Outcomes.{TellsOfEnd}
use Rattle.dbpl_promise.specs.Refusals.{is_refusal}
use Rattle.dbpl_promise.specs.Stages.{Stage, gives, ◌>>=◌}
use Rattle.dbpl_promise.specs.Work.{Work}

pub data Kind : Type 0 where
  End : Kind
  Refusal : Kind
  Fault : Kind
  -- no answer of a command that was asked for
  Unasked : Kind

abbrev pub kind_of : Status → Kind
kind_of status.Done = End
kind_of (status.Trapped kind place) = End
kind_of (status.Stopped count) = Fault
kind_of status.BadWords = Unasked
kind_of status.SourceFault = Fault
kind_of status.DiskFault = Fault
kind_of status.InFault = Fault
kind_of status.OutFault = Fault
kind_of status.StoreFull = Fault
kind_of status.Memory = Fault
kind_of _ = Refusal

pub end_kind : (answer : Status) → TellsOfEnd answer → kind_of answer ≡ End
end_kind status.Done ends = refl
end_kind (status.Trapped kind place) ends = refl
end_kind _ ends = absurd ends

-- The refusals of a stage refuse, and its faults are faults.
pub record HasKinds {A : Type 0} (stage : Stage A) : Type 0 where
  pub refuses : (work : Work) (answer : Status) → stage.refuses work answer → kind_of answer ≡ Refusal
  pub fails : (work : Work) (answer : Status) → stage.fails work answer → kind_of answer ≡ Fault

pub kinds_given : {A : Type 0} (a : A) → HasKinds (gives a)
kinds_given a = record { refuses = λ work answer never. absurd never; fails = λ work answer never. absurd never }

module _ {A B : Type 0} (stage : Stage A) (next : A → Stage B) (first : HasKinds stage) (then : (a : A) → HasKinds (next a)) where
  refuses : (work : Work) (answer : Status) → (stage >>= next).refuses work answer → kind_of answer ≡ Refusal
  refuses work answer (inl here) = first.refuses work answer here
  refuses work answer (inr behind) = (then behind.0).refuses work answer behind.2

  fails : (work : Work) (answer : Status) → (stage >>= next).fails work answer → kind_of answer ≡ Fault
  fails work answer (inl here) = first.fails work answer here
  fails work answer (inr behind) = (then behind.0).fails work answer behind.2

  pub kinds_joined : HasKinds (stage >>= next)
  kinds_joined = record { refuses = refuses; fails = fails }

-- What a stage passes with is an answer that tells of an end.
abbrev pub Concludes : Stage Status → Type 0
Concludes stage = (work : Work) (answer : Status) → stage.passes work answer → kind_of answer ≡ End

pub concludes_done : Concludes (gives status.Done)
concludes_done work answer is = ap kind_of is

pub concludes_joined : {A : Type 0} (stage : Stage A) (next : A → Stage Status) → ((a : A) → Concludes (next a)) →
    Concludes (stage >>= next)
concludes_joined stage next then work answer passes = then passes.0 work answer passes.2

-- what refuses is a refusal
pub refusal_kind : (answer : Status) → kind_of answer ≡ Refusal → is_refusal answer ≡ true
refusal_kind status.Done is = absurd (cc)
refusal_kind (status.Trapped kind place) is = absurd (cc)
refusal_kind (status.Stopped count) is = absurd (cc)
refusal_kind status.DiskFault is = absurd (cc)
refusal_kind status.InFault is = absurd (cc)
refusal_kind status.OutFault is = absurd (cc)
refusal_kind status.StoreFull is = absurd (cc)
refusal_kind status.Memory is = absurd (cc)
refusal_kind _ is = refl
