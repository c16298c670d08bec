-- Where all is told, a stage does one thing: it passes with one value, or it is refused by one answer.
use Rattle.std.proofs.Common.{◌≡◌, ◌∙◌, inl, inr, subst, sym}
use Rattle.dbpl_base.specs.declared.status.Status.{Status}
use Rattle.dbpl_promise.specs.Stages.{IsDetermined, IsDue, PassesTo, Stage, gives, ◌>>=◌}
use Rattle.dbpl_promise.specs.Work.{Work}

-- a stage and the next
module _ {A B : Type 0} (stage : Stage A) (next : A → Stage B) (work : Work) (first : IsDetermined stage work)
    (then : (a : A) → stage.passes work a → IsDetermined (next a) work) where
  -- what is so behind the one value is so behind the other
  moved : (P : A → Type 0) (a : A) → stage.passes work a → PassesTo stage work P → P a
  moved P a passes other = subst P (first.one other.0 a other.1 passes) other.2

  one : (b c : B) → (stage >>= next).passes work b → (stage >>= next).passes work c → b ≡ c
  one b c left right = (then left.0 left.1).one b c left.2 (moved (λ a. (next a).passes work c) left.0 left.1 right)

  refusal : (answer other : Status) → (stage >>= next).refuses work answer → (stage >>= next).refuses work other → answer ≡ other
  refusal answer other (inl left) (inl right) = first.refusal answer other left right
  refusal answer other (inl left) (inr right) = absurd (first.apart right.0 answer right.1 left)
  refusal answer other (inr left) (inl right) = absurd (first.apart left.0 other left.1 right)
  refusal answer other (inr left) (inr right) =
      (then left.0 left.1).refusal answer other left.2 (moved (λ a. (next a).refuses work other) left.0 left.1 right)

  apart : (b : B) (answer : Status) → (stage >>= next).passes work b → (stage >>= next).refuses work answer → ⊥
  apart b answer left (inl right) = first.apart left.0 answer left.1 right
  apart b answer left (inr right) =
      (then left.0 left.1).apart b answer left.2 (moved (λ a. (next a).refuses work answer) left.0 left.1 right)

  pub joined : IsDetermined (stage >>= next) work
  joined = record { one = one; refusal = refusal; apart = apart }

pub given : {A : Type 0} (work : Work) (a : A) → IsDetermined (gives a) work
given work a = record { one = λ b c left right. left ∙ sym right; refusal = λ answer other left. absurd left; apart = λ b answer left right. right }

-- so one answer is due at most
pub one_due : (stage : Stage Status) (work : Work) (answer other : Status) → IsDetermined stage work → IsDue stage work answer →
    IsDue stage work other → answer ≡ other
one_due stage work answer other is (inl left) (inl right) = is.refusal answer other left right
one_due stage work answer other is (inl left) (inr right) = absurd (is.apart other answer right left)
one_due stage work answer other is (inr left) (inl right) = absurd (is.apart answer other left right)
one_due stage work answer other is (inr left) (inr right) = is.one answer other left right
