-- What a command answers, stage by stage. The stages stand in the order in which refusals come: a stage counts only where
-- those before it pass.
use Rattle.std.specs.Prelude.{◌≡◌, ◌⊎◌, ℕ, List}
use Rattle.dbpl_base.specs.declared.status.Status.{Status}
use Rattle.dbpl_base.specs.declared.status.Status.TheVariants as status
use Rattle.dbpl_promise.specs.Work.{Work}

-- A stage of a command. Where what was met is untold it may both pass and refuse; where it is told, it does one of them.
pub record Stage (A : Type 0) : Type 1 where
  -- it passes with this
  pub passes : Work → A → Type 0
  -- THE refusal that is due in it
  pub refuses : Work → Status → Type 0
  -- a fault of the outside that may come in it, of which the count has risen
  pub fails : Work → Status → Type 0
  -- a store that may be mounted in it
  pub mounts : Work → List ℕ → Type 0

abbrev pub Never : {A : Type 0} → Work → A → Type 0
Never work a = ⊥

-- the stage passes with something of which this holds
abbrev pub PassesTo : {A : Type 0} → Stage A → Work → (A → Type 0) → Type 0
PassesTo {A = A} stage work P = (a : A) × stage.passes work a × P a

infixl 20 ◌>>=◌
-- a stage, and behind it the next one, which may depend on what it passes with
abbrev pub ◌>>=◌ : {A B : Type 0} → Stage A → (A → Stage B) → Stage B
stage >>= next = record {
  passes = λ work b. PassesTo stage work (λ a. (next a).passes work b);
  refuses = λ work answer. stage.refuses work answer ⊎ PassesTo stage work (λ a. (next a).refuses work answer);
  fails = λ work answer. stage.fails work answer ⊎ PassesTo stage work (λ a. (next a).fails work answer);
  mounts = λ work name. stage.mounts work name ⊎ PassesTo stage work (λ a. (next a).mounts work name);
}

-- passes with this, whatever was met
abbrev pub gives : {A : Type 0} → A → Stage A
gives a = record { passes = λ work b. b ≡ a; refuses = Never; fails = Never; mounts = Never }

-- why a command stops in this stage: a refusal, a fault, or want of memory
abbrev pub Stops : {A : Type 0} → Stage A → Work → Status → Type 0
Stops stage work answer = stage.refuses work answer ⊎ (stage.fails work answer ⊎ (answer ≡ status.Memory))

-- THE law of stages, where all is told: a stage passes with one thing, or is refused by one answer, and never both.
pub record IsDetermined {A : Type 0} (stage : Stage A) (work : Work) : Type 0 where
  pub one : (a b : A) → stage.passes work a → stage.passes work b → a ≡ b
  pub refusal : (answer other : Status) → stage.refuses work answer → stage.refuses work other → answer ≡ other
  pub apart : (a : A) (answer : Status) → stage.passes work a → stage.refuses work answer → ⊥

-- THE other law of stages, where all is told: a stage passes with something, or some answer refuses.
abbrev pub IsDecided : {A : Type 0} → Stage A → Work → Type 0
IsDecided {A = A} stage work = ((a : A) × stage.passes work a) ⊎ ((answer : Status) × stage.refuses work answer)

-- THE answer that is due: the refusal of the first stage that doesn't pass, or that with which all pass
abbrev pub IsDue : Stage Status → Work → Status → Type 0
IsDue stage work answer = stage.refuses work answer ⊎ stage.passes work answer

-- the answer that is due, or a fault or want of memory that came before it
abbrev pub MayAnswer : Stage Status → Work → Status → Type 0
MayAnswer stage work answer = IsDue stage work answer ⊎ (stage.fails work answer ⊎ (answer ≡ status.Memory))
