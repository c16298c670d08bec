-- What was printed is written out: nothing else happens then, and where it fails that is the answer.
use Rattle.std.proofs.Common.{◌≡◌, ◌∙◌, ◌≤◌, ◌⊎◌, ℕ, inl, inr, List, Result, Ok, Err, ap, arith, refl, subst, sym}
use Rattle.std.specs.Prelude.{IfErr, OnOk}
use Rattle.dbpl_log.specs.Changes.{ChangesLog}
use Rattle.dbpl_store.specs.Stands.{IsEither, LeavesDatabase}
use Rattle.dbpl_store.specs.Stores.{IsOpen}
use Rattle.dbpl_store.specs.declared.store.Store.{Store}
use Rattle.dbpl_store.specs.declared.store_err.StoreErr.{StoreErr}
use Rattle.dbpl_store.specs.declared.store_err.StoreErr.TheVariants as store_errors
use Rattle.dbpl_stored_run.proofs.Answering.{err-inside}
use Rattle.dbpl_stored_run.specs.Errors.{IsWrittenOut, of_body, of_store}
use Rattle.dbpl_stored_run.specs.Headline.{StandsFor}
use Rattle.dbpl_stored_run.specs.declared.body_err.BodyErr.{BodyErr}
use Rattle.dbpl_stored_run.specs.declared.body_err.BodyErr.TheVariants as body_errors
use Rattle.dbpl_stored_run.specs.declared.stop_err.StopErr.{StopErr}
use Rattle.dbpl_stored_run.specs.declared.stop_err.StopErr.TheVariants as errors
use Rattle.dbpl_value.specs.declared.bound.Bound.{Bound}
use Rattle.dbpl_world.proofs.CountLaws.{rose_since}
use Rattle.dbpl_world.proofs.Moments.{moments_start}
use Rattle.dbpl_world.specs.Counts.{OnlyDiskFaults, OnlySayFaults, Rose}
use Rattle.dbpl_world.specs.History.{History, now}
use Rattle.dbpl_world.specs.Moments.{EachMoment}
use Rattle.dbpl_world.specs.declared.counts.Counts.{Counts}

-- ---- before a commit

module _ (database other : List Bound) (h0 h1 : History) (same : h1 ≡ h0) where
  -- nothing is committed
  pub unwritten-moments : StandsFor database (now h0) → EachMoment (LeavesDatabase (IsEither database other) (now h0)) h0 h1
  unwritten-moments stood =
      subst (λ (h : History). EachMoment (LeavesDatabase (IsEither database other) (now h0)) h0 h) (sym same)
      (moments_start (LeavesDatabase (IsEither database other) (now h0)) h0
      (record { left = λ log pages image torn. inl (stood log pages image torn); others = refl }))

  pub unwritten-log : EachMoment (ChangesLog (now h0)) h0 h1
  unwritten-log =
      subst (λ (h : History). EachMoment (ChangesLog (now h0)) h0 h) (sym same) (moments_start (ChangesLog (now h0)) h0 refl)

  -- the commit that comes then
  pub open-still : (store : Store) → IsOpen (now h0) store → IsOpen (now h1) store
  open-still store opened = subst (λ (h : History). IsOpen (now h) store) (sym same) opened

  pub written-moments :
      (h2 : History) → EachMoment (LeavesDatabase (IsEither database other) (now h1)) h1 h2 →
      EachMoment (LeavesDatabase (IsEither database other) (now h0)) h0 h2
  written-moments h2 run = subst (λ (h : History). EachMoment (LeavesDatabase (IsEither database other) (now h)) h h2) same run

  pub written-log : (h2 : History) → EachMoment (ChangesLog (now h1)) h1 h2 → EachMoment (ChangesLog (now h0)) h0 h2
  written-log h2 run = subst (λ (h : History). EachMoment (ChangesLog (now h)) h h2) same run

-- ---- at the end

module _ (went answer : Result (Unit {0}) BodyErr) (old new : ℕ) (written : IsWrittenOut went answer old new) where
  -- what holds of a body that came to its end
  pub end-ok : (A : Type 0) → OnOk went A → OnOk answer A
  end-ok A holds = by_cases written
    where
      by_cases : IsWrittenOut went answer old new → OnOk answer A
      by_cases (inl same) = subst (λ (a : Result (Unit {0}) BodyErr). OnOk a A) (sym same.0) holds
      by_cases (inr failed) = subst (λ (a : Result (Unit {0}) BodyErr). OnOk a A) (sym failed.0) tt

  -- where the answer is another than that a print failed, the body went so
  pub end-other : (why : BodyErr) → (why ≡ body_errors.OutFault → ⊥) → answer ≡ Err why → went ≡ Err why
  end-other why not is = by_cases written
    where
      by_cases : IsWrittenOut went answer old new → went ≡ Err why
      by_cases (inl same) = sym same.0 ∙ is
      by_cases (inr failed) = absurd (not (err-inside answer why body_errors.OutFault is failed.0))

  module _ (first : ℕ) where
    pub end-fault :
        first ≤ old → (went ≡ Err body_errors.OutFault → Rose first old) → answer ≡ Err body_errors.OutFault → Rose first new
    end-fault later cause is = by_cases written
      where
        by_cases : IsWrittenOut went answer old new → Rose first new
        by_cases (inl same) = let risen = cause (sym same.0 ∙ is) in let stayed = same.1 in omega (arith, risen, stayed)
        by_cases (inr failed) = rose_since first old new later failed.1

    pub end-where :
        (went ≡ Err body_errors.OutFault) ⊎ (old ≡ first) → (answer ≡ Err body_errors.OutFault) ⊎ (new ≡ first)
    end-where before = by_cases written before
      where
        by_cases :
            IsWrittenOut went answer old new → (went ≡ Err body_errors.OutFault) ⊎ (old ≡ first) →
            (answer ≡ Err body_errors.OutFault) ⊎ (new ≡ first)
        by_cases (inl same) (inl failed) = inl (same.0 ∙ failed)
        by_cases (inl same) (inr fine) = inr (same.1 ∙ fine)
        by_cases (inr failed) before = inl failed.0

-- ---- where a print failed

-- it failed, or the count stayed
pub print-where :
    {T A : Type 0} (answer : Result T BodyErr) → IfErr answer (λ why. why ≡ body_errors.OutFault) → OnOk answer A →
    (answer ≡ Err body_errors.OutFault) ⊎ A
print-where (Ok value) why fine = inr fine
print-where {T = T} (Err error) why fine = inl (ap {B = Result T BodyErr} (λ (e : BodyErr). Err e) why)

-- no such fault came where the end was reached
pub fine-where :
    {T E A : Type 0} {fault : E} (answer : Result T E) (value : T) → answer ≡ Ok value → (answer ≡ Err fault) ⊎ A → A
fine-where answer value is (inl failed) = absurd (let both = sym is ∙ failed in cc)
fine-where answer value is (inr fine) = fine

-- since an earlier moment
pub fine-since :
    {T E : Type 0} {fault : E} (answer : Result T E) (old mid new : ℕ) → mid ≡ old →
    (answer ≡ Err fault) ⊎ (new ≡ mid) → (answer ≡ Err fault) ⊎ (new ≡ old)
fine-since answer old mid new before (inl failed) = inl failed
fine-since answer old mid new before (inr fine) = inr (fine ∙ before)

-- the same of the run, by its body
pub run-where :
    {T X A : Type 0} (answer : Result T StopErr) (ran : Result X BodyErr) (why fault : BodyErr) → answer ≡ Err (of_body why) →
    ran ≡ Err why → (ran ≡ Err fault) ⊎ A → (answer ≡ Err (of_body fault)) ⊎ A
run-where {T = T} answer ran why fault is was (inl failed) =
    inl (is ∙ ap {B = Result T StopErr} (λ (w : BodyErr). Err (of_body w)) (err-inside ran why fault was failed))
run-where answer ran why fault is was (inr fine) = inr fine

-- the same of a run that didn't begin, by the opening of its store
pub open-where :
    {T X A : Type 0} (answer : Result T StopErr) (opened : Result X StoreErr) (why : StoreErr) → answer ≡ Err (of_store why) →
    opened ≡ Err why → (opened ≡ Err store_errors.Disk) ⊎ A → (answer ≡ Err errors.DiskFault) ⊎ A
open-where {T = T} answer opened why is was (inl failed) =
    inl (is ∙ ap {B = Result T StopErr} (λ (w : StoreErr). Err (of_store w)) (err-inside opened why store_errors.Disk was failed))
open-where answer opened why is was (inr fine) = inr fine

pub disk-fine : (old new : Counts) → OnlyDiskFaults old new → new.say_faults ≡ old.say_faults
disk-fine old new only = ap (λ (counts : Counts). counts.say_faults) only.others

pub say-held : (old new : Counts) → OnlySayFaults old new → new.disk_faults ≡ old.disk_faults
say-held old new only = ap (λ (counts : Counts). counts.disk_faults) only.others

-- a fault of the disk stays the answer of a body, and it is written out without one
pub end-held :
    (went answer : Result (Unit {0}) BodyErr) (first old new : ℕ) →
    (went ≡ Err body_errors.DiskFault → answer ≡ Err body_errors.DiskFault) → new ≡ old →
    (went ≡ Err body_errors.DiskFault) ⊎ (old ≡ first) → (answer ≡ Err body_errors.DiskFault) ⊎ (new ≡ first)
end-held went answer first old new stays held (inl failed) = inl (stays failed)
end-held went answer first old new stays held (inr before) = inr (held ∙ before)
