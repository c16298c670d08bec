-- What the stages of opening, of binding and of a run's end do: each passes with one thing, or is refused by one answer.
use Rattle.std.proofs.Common.{◌≡◌, ◌≢◌, ◌∙◌, ℕ, ◌+◌, List, [], ◌∷◌, None, Option, Some, IsTrue, ap, arith, inl, inr, refl, subst, sym}
use Rattle.dbpl_base.specs.declared.status.Status.{Status}
use Rattle.dbpl_base.specs.declared.status.Status.TheVariants as status
use Rattle.dbpl_core.specs.Outcomes.{Ended, Going, IsSteady, IsToldBy, Outcome, Standing, Trapped}
use Rattle.dbpl_log.proofs.RecordLaws.{records_head}
use Rattle.dbpl_log.specs.Records.{HasHead, records_of}
use Rattle.dbpl_promise.proofs.Determined.{given, joined}
use Rattle.dbpl_promise.proofs.AnswerKinds.{Concludes, End, Fault, HasKinds, Refusal, concludes_joined, kind_of, kinds_given, kinds_joined}
use Rattle.dbpl_promise.specs.Faults.{disk_faults, out_faults}
use Rattle.dbpl_promise.specs.Opening.{IsUnbound, IsUnnamed, IsUnopened, StandsAs, all_bound, bound, named, opened, store_before}
use Rattle.dbpl_promise.specs.Running.{Ends, ended, run_faults}
use Rattle.dbpl_promise.specs.Runs.{Run}
use Rattle.dbpl_promise.specs.Stages.{IsDetermined, Stage, ◌>>=◌}
use Rattle.dbpl_promise.specs.Work.{Work}
use Rattle.dbpl_store.specs.Stands.{newest, stands}
use Rattle.dbpl_value.proofs.BoundTo.{binds-one, differs-not_binds}
use Rattle.dbpl_value.specs.declared.bound.Bound.{Bound}
use Rattle.dbpl_value.specs.declared.field.Field.{Field}
use Rattle.dbpl_world.specs.History.{now}
use Rattle.std.specs.Option.{option_and_then}

-- ---- a name

unnamed_kind : (name : List ℕ) (work : Work) (answer : Status) → IsUnnamed name work answer → kind_of answer ≡ Refusal
unnamed_kind name work status.NotStore is = refl
unnamed_kind name work _ is = absurd is

unnamed_one : (name : List ℕ) (work : Work) (answer : Status) → IsUnnamed name work answer → answer ≡ status.NotStore
unnamed_one name work status.NotStore is = refl
unnamed_one name work _ is = absurd is

unnamed_not : (name : List ℕ) (work : Work) (answer : Status) → (named name).passes work tt → IsUnnamed name work answer → ⊥
unnamed_not name work status.NotStore passes is = passes is
unnamed_not name work _ passes is = absurd is

pub named_kinds : (name : List ℕ) → HasKinds (named name)
named_kinds name = record { refuses = unnamed_kind name; fails = λ work answer never. absurd never }

pub named_determined : (name : List ℕ) (work : Work) → IsDetermined (named name) work
named_determined name work = record {
  one = λ a b left right. refl;
  refusal = λ answer other left right. unnamed_one name work answer left ∙ sym (unnamed_one name work other right);
  apart = λ a answer passes refuses. unnamed_not name work answer passes refuses;
}

-- ---- opening

unopened_kind : (name : List ℕ) (work : Work) (answer : Status) → IsUnopened name work answer → kind_of answer ≡ Refusal
unopened_kind name work status.NotStore is = refl
unopened_kind name work (status.Damaged page) is = refl
unopened_kind name work _ is = absurd is

pub disk_kind : (work : Work) (answer : Status) → disk_faults work answer → kind_of answer ≡ Fault
disk_kind work status.DiskFault rose = refl
disk_kind work _ rose = absurd rose

pub opened_kinds : (name : List ℕ) → HasKinds (opened name)
opened_kinds name = record { refuses = unopened_kind name; fails = disk_kind }

-- what stands for a database begins with a head
headed : (log : List ℕ) (database : List Bound) (found : Option (List (List ℕ))) → records_of log ≡ found →
    option_and_then (newest []) found ≡ Some database → HasHead log
headed log database (Some records) is stood = (records_head log records is).0
headed log database None is stood = absurd cc

pub stands_head : (log pages : List ℕ) (database : List Bound) → stands log pages ≡ Some database → HasHead log
unfolding stands
stands_head log pages database stood = headed log database (records_of log) refl stood

module _ (name : List ℕ) (work : Work) (tells : IsTrue work.tells) where
  refusal : (answer other : Status) → IsUnopened name work answer → IsUnopened name work other → answer ≡ other
  refusal status.NotStore status.NotStore left right = refl
  refusal status.NotStore (status.Damaged page) left right = absurd (left tells (right tells).head)
  refusal (status.Damaged page) status.NotStore left right = absurd (right tells (left tells).head)
  refusal (status.Damaged page) (status.Damaged other) left right =
      ap status.Damaged ((left tells).first ∙ sym (right tells).first)
  refusal status.NotStore _ left right = absurd right
  refusal (status.Damaged page) _ left right = absurd right
  refusal _ other left right = absurd left

  apart : (database : List Bound) (answer : Status) → (IsTrue work.tells → StandsAs database (store_before name work)) →
      IsUnopened name work answer → ⊥
  apart database status.NotStore reads is = is tells (stands_head _ _ database (reads tells))
  apart database (status.Damaged page) reads is = cc (reads tells, (is tells).none)
  apart database _ reads is = absurd is

  some_one : (a b : List Bound) (found : Option (List Bound)) → found ≡ Some a → found ≡ Some b → a ≡ b
  some_one a b found left right = cc (left, right)

  pub opened_determined : IsDetermined (opened name) work
  opened_determined = record {
    one = λ a b left right. some_one a b _ (left tells) (right tells);
    refusal = refusal;
    apart = apart;
  }

-- ---- binding

unbound_kind : (field : Field) (database : List Bound) (work : Work) (answer : Status) → IsUnbound field database work answer →
    kind_of answer ≡ Refusal
unbound_kind field database work (status.SchemaDiffers name) is = refl
unbound_kind field database work _ is = absurd is

unbound_one : (field : Field) (database : List Bound) (work : Work) (answer : Status) → IsUnbound field database work answer →
    answer ≡ status.SchemaDiffers field.name
unbound_one field database work (status.SchemaDiffers name) is = ap status.SchemaDiffers is.0
unbound_one field database work _ is = absurd is

unbound_not : (field : Field) (database after : List Bound) (work : Work) (answer : Status) →
    (bound field database).passes work after → IsUnbound field database work answer → ⊥
unbound_not field database after work (status.SchemaDiffers name) passes is = differs-not_binds field database after is.1 passes
unbound_not field database after work _ passes is = absurd is

pub bound_kinds : (field : Field) (database : List Bound) → HasKinds (bound field database)
bound_kinds field database = record { refuses = unbound_kind field database; fails = λ work answer never. absurd never }

pub bound_determined : (field : Field) (database : List Bound) (work : Work) → IsDetermined (bound field database) work
bound_determined field database work = record {
  one = λ a b left right. binds-one field database a b left right;
  refusal = λ answer other left right.
      unbound_one field database work answer left ∙ sym (unbound_one field database work other right);
  apart = λ after answer passes refuses. unbound_not field database after work answer passes refuses;
}

pub all_bound_kinds : (fields : List Field) (database : List Bound) → HasKinds (all_bound fields database)
all_bound_kinds [] database = kinds_given database
all_bound_kinds (field ∷ fields) database =
    kinds_joined (bound field database) (all_bound fields) (bound_kinds field database) (all_bound_kinds fields)

pub all_bound_determined : (fields : List Field) (database : List Bound) (work : Work) → IsDetermined (all_bound fields database) work
all_bound_determined [] database work = given work database
all_bound_determined (field ∷ fields) database work =
    joined (bound field database) (all_bound fields) work (bound_determined field database work)
    (λ after passes. all_bound_determined fields after work)

-- binding mounts no store
pub all_bound_mounts : (fields : List Field) (database : List Bound) (work : Work) (name : List ℕ) →
    (all_bound fields database).mounts work name → ⊥
all_bound_mounts [] database work name mounts = mounts
all_bound_mounts (field ∷ fields) database work name (inl here) = here
all_bound_mounts (field ∷ fields) database work name (inr behind) = all_bound_mounts fields behind.0 work name behind.2

-- ---- the end of a run

not_going : (standing : Standing) (answer : Status) → IsToldBy standing answer → standing ≢ Going
not_going Going answer told is = told
not_going Ended answer told is = cc is
not_going (Trapped trap) answer told is = cc is

told_one : (standing : Standing) (answer other : Status) → IsToldBy standing answer → IsToldBy standing other → answer ≡ other
told_one Ended answer other left right = left ∙ sym right
told_one (Trapped trap) answer other left right = left ∙ sym right
told_one Going answer other left right = absurd left

-- a meaning comes to one end
pub one_end : (means : ℕ → Outcome) (turns others : ℕ) (answer other : Status) → IsSteady means →
    IsToldBy (means turns).stands answer → IsToldBy (means others).stands other → means turns ≡ means others
one_end means turns others answer other steady left right =
    let order : turns + others ≡ others + turns = omega arith in
    sym (steady.stays turns others (not_going (means turns).stands answer left))
    ∙ (ap means order ∙ steady.stays others turns (not_going (means others).stands other right))

module _ (run : Run) (work : Work) (steady : (input : List ℕ) → IsSteady (run.means input)) (tells : IsTrue work.tells) where
  -- the end over the input that was there
  over_input : (answer : Status) → Ends run work answer →
      (turns : ℕ) × IsToldBy (run.means (now work.before).input turns).stands answer
  over_input answer e =
      (e.turns, subst (λ (input : List ℕ). IsToldBy (run.means input e.turns).stands answer) (e.told tells) e.ends)

  one_answer : (answer other : Status) → Ends run work answer → Ends run work other → answer ≡ other
  one_answer answer other left right =
      let first = over_input answer left in
      let second = over_input other right in
      let same = one_end (run.means (now work.before).input) first.0 second.0 answer other (steady (now work.before).input) first.1 second.1 in
      told_one (run.means (now work.before).input first.0).stands answer other first.1
      (subst (λ (outcome : Outcome). IsToldBy outcome.stands other) (sym same) second.1)

  pub ended_determined : IsDetermined (ended run) work
  ended_determined = record {
    one = one_answer;
    refusal = λ answer other left. absurd left;
    apart = λ a answer passes refuses. refuses;
  }

told_kind : (standing : Standing) (answer : Status) → IsToldBy standing answer → kind_of answer ≡ End
told_kind Ended answer told = ap kind_of told
told_kind (Trapped trap) answer told = ap kind_of told
told_kind Going answer told = absurd told

out_kind : (work : Work) (answer : Status) → out_faults work answer → kind_of answer ≡ Fault
out_kind work status.OutFault rose = refl
out_kind work _ rose = absurd rose

run_kind : (store : Option (List ℕ)) (work : Work) (answer : Status) → run_faults store work answer →
    kind_of answer ≡ Fault
run_kind None work answer rose = out_kind work answer rose
run_kind (Some name) work answer (inl rose) = out_kind work answer rose
run_kind (Some name) work answer (inr rose) = disk_kind work answer rose

ended_kinds : (run : Run) → HasKinds (ended run)
ended_kinds run = record { refuses = λ work answer never. absurd never; fails = run_kind run.store }

pub running_kinds : (stage : Stage Run) → HasKinds stage → HasKinds (stage >>= ended)
running_kinds stage kinds = kinds_joined stage ended kinds ended_kinds

pub running_concludes : (stage : Stage Run) → Concludes (stage >>= ended)
running_concludes stage =
    concludes_joined stage ended
    (λ run work answer ends. told_kind (run.means ends.input ends.turns).stands answer ends.ends)

pub running_determined : (stage : Stage Run) (work : Work) → IsDetermined stage work →
    ((run : Run) → stage.passes work run → (input : List ℕ) → IsSteady (run.means input)) → IsTrue work.tells →
    IsDetermined (stage >>= ended) work
running_determined stage work first steady tells =
    joined stage ended work first (λ run passes. ended_determined run work (steady run passes) tells)
