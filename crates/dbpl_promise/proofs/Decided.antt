-- Some answer is due in each stage: it passes with something, or some answer refuses.
use Rattle.std.proofs.Common.{◌≡◌, ◌⊎◌, ℕ, List, [], ◌∷◌, Bool, None, Option, Some, bytes_eq, false, inl, inr, refl, sym, take, true}
use Rattle.std.proofs.lemmas.Bool.{true≢false}
use Rattle.std.proofs.lemmas.Slice.Eq.{bytes_eq-Decides}
use Rattle.std.specs.Bool.{Decides}
use Rattle.dbpl_base.specs.declared.status.Status.{Status}
use Rattle.dbpl_base.specs.declared.status.Status.TheVariants as status
use Rattle.dbpl_log.specs.Records.{HasHead, open_head}
use Rattle.dbpl_promise.specs.Opening.{all_bound, bound, named, no_store, opened, store_before}
use Rattle.dbpl_promise.specs.Running.{ComesToEnd, ended}
use Rattle.dbpl_promise.specs.Runs.{Run}
use Rattle.dbpl_promise.specs.Stages.{IsDecided, IsDue, Stage, gives, ◌>>=◌}
use Rattle.dbpl_promise.specs.Work.{Work}
use Rattle.dbpl_store.specs.Stands.{stands}
use Rattle.dbpl_value.specs.Binding.{bound_to}
use Rattle.dbpl_value.specs.declared.bound.Bound.{Bound}
use Rattle.dbpl_value.specs.declared.field.Field.{Field}
use Rattle.dbpl_world.specs.History.{now}

-- a stage and the next
module _ {A B : Type 0} (stage : Stage A) (next : A → Stage B) (work : Work)
    (then : (a : A) → stage.passes work a → IsDecided (next a) work) where
  behind : (a : A) → stage.passes work a → IsDecided (next a) work → IsDecided (stage >>= next) work
  behind a passes (inl last) = inl (last.0, (a, passes, last.1))
  behind a passes (inr refused) = inr (refused.0, inr (a, passes, refused.1))

  pub decided_joined : IsDecided stage work → IsDecided (stage >>= next) work
  decided_joined (inl here) = behind here.0 here.1 (then here.0 here.1)
  decided_joined (inr refused) = inr (refused.0, inl refused.1)

pub decided_given : {A : Type 0} (work : Work) (a : A) → IsDecided (gives a) work
decided_given work a = inl (a, refl)

-- so some answer is due
pub some_due : (stage : Stage Status) (work : Work) → IsDecided stage work → (answer : Status) × IsDue stage work answer
some_due stage work (inl passes) = (passes.0, inr passes.1)
some_due stage work (inr refused) = (refused.0, inl refused.1)

-- what is decided by a test holds or not
pub holds_or_not : (P : Type 0) (test : Bool) → Decides test P → P ⊎ (P → ⊥)
holds_or_not P true decides = inl (decides.0 refl)
holds_or_not P false decides = inr (λ holds. true≢false (sym (decides.1 holds)))

pub head_or_not : (log : List ℕ) → HasHead log ⊎ (HasHead log → ⊥)
head_or_not log = holds_or_not (HasHead log) (bytes_eq (take 16 log) open_head) (bytes_eq-Decides (take 16 log) open_head)

-- ---- a name, and opening

pub named_decided : (name : List ℕ) (work : Work) → IsDecided (named name) work
named_decided name work = by_name (holds_or_not (name ≡ no_store) (bytes_eq name no_store) (bytes_eq-Decides name no_store))
  where
    by_name : (name ≡ no_store) ⊎ (name ≡ no_store → ⊥) → IsDecided (named name) work
    by_name (inl is) = inr (status.NotStore, is)
    by_name (inr not) = inl (tt {0}, not)

pub opened_decided : (name : List ℕ) (work : Work) → IsDecided (opened name) work
opened_decided name work = by_found (stands log pages) refl
  where
    log : List ℕ
    log = (store_before name work).log.now

    pages : List ℕ
    pages = (store_before name work).pages.now

    by_head : stands log pages ≡ None → HasHead log ⊎ (HasHead log → ⊥) → IsDecided (opened name) work
    by_head none (inl head) = inr (status.Damaged 0, λ tells. record { head = head; none = none; first = refl })
    by_head none (inr not) = inr (status.NotStore, λ tells head. not head)

    by_found : (found : Option (List Bound)) → stands log pages ≡ found → IsDecided (opened name) work
    by_found (Some database) is = inl (database, λ tells. is)
    by_found None is = by_head is (head_or_not log)

-- ---- binding

bound_decided : (field : Field) (database : List Bound) (work : Work) → IsDecided (bound field database) work
bound_decided field database work = by_found (bound_to field database) refl
  where
    by_found : (found : Option (List Bound)) → bound_to field database ≡ found → IsDecided (bound field database) work
    by_found (Some after) is = inl (after, is)
    by_found None is = inr (status.SchemaDiffers field.name, (refl, is))

pub all_bound_decided : (fields : List Field) (database : List Bound) (work : Work) → IsDecided (all_bound fields database) work
all_bound_decided [] database work = decided_given work database
all_bound_decided (field ∷ fields) database work =
    decided_joined (bound field database) (all_bound fields) work (λ after passes. all_bound_decided fields after work)
    (bound_decided field database work)

-- ---- the end of a run

pub ended_decided : (run : Run) (work : Work) → ComesToEnd run → IsDecided (ended run) work
ended_decided run work comes =
    let input : List ℕ = (now work.before).input in
    let end = comes input in
    inl (end.1, record { input = input; told = λ tells. refl; turns = end.0; ends = end.2 })
