-- Which answers a run has, from the errors of its parts.
use Rattle.std.proofs.Common.{◌≡◌, ◌∙◌, ◌⊎◌, ℕ, inl, inr, List, Result, Ok, Err, ap, arith, refl, subst, sym}
use Rattle.std.specs.Prelude.{IfErr, IsErrAnd, OnErr, OnOk}
use Rattle.std.proofs.lemmas.Result.{err_from_is_err_and}
use Rattle.dbpl_stored_program.proofs.Turns.{comes_to_end}
use Rattle.dbpl_stored_program.specs.Meaning.{Ended, Going, Standing, Trapped}
use Rattle.dbpl_stored_program.specs.Whole.{whole_run}
use Rattle.dbpl_stored_program.specs.declared.stored_program.StoredProgram.{StoredProgram}
use Rattle.dbpl_core.specs.declared.trap.Trap.{Trap}
use Rattle.dbpl_store.specs.declared.store_err.StoreErr.{StoreErr}
use Rattle.dbpl_store.specs.declared.store_err.StoreErr.TheVariants as store_errors
use Rattle.dbpl_stored_run.specs.Answers.{IsDue, IsRefusal}
use Rattle.dbpl_stored_run.specs.Errors.{of_body, of_store}
use Rattle.dbpl_stored_run.specs.declared.body_err.BodyErr.{BodyErr}
use Rattle.dbpl_stored_run.specs.declared.body_err.BodyErr.TheVariants as body_errors
use Rattle.dbpl_stored_run.specs.declared.stop_err.StopErr.{StopErr}
use Rattle.dbpl_stored_run.specs.declared.stop_err.StopErr.TheVariants as errors
use Rattle.dbpl_stored_run.specs.Leaving.{OnlyRunFaults}
use Rattle.dbpl_value.specs.declared.bound.Bound.{Bound}
use Rattle.dbpl_world.specs.Counts.{OnlyDiskFaults, OnlySayFaults}
use Rattle.dbpl_world.specs.declared.counts.Counts.{Counts}

-- the error that a `?` hands on
pub handed : {T E : Type 0} (answer : Result T E) (why : E) → IsErrAnd answer (λ error. error ≡ why) → answer ≡ Err why
handed {E = E} answer why given = let p = err_from_is_err_and answer given in p.1 ∙ ap (λ (e : E). Err e) p.2

-- an answer has one error
pub err-inside : {T E : Type 0} (answer : Result T E) (why other : E) → answer ≡ Err why → answer ≡ Err other → why ≡ other
err-inside answer why other first second = let both = sym first ∙ second in cc

-- ---- an opening that failed

-- the answers that an opening has
abbrev OfStore : StopErr → Type 0
OfStore (errors.Trapped trap) = ⊥
OfStore errors.OutFault = ⊥
OfStore errors.SchemaDiffers = ⊥
OfStore _ = Unit {0}

of-store : (why : StoreErr) → OfStore (of_store why)
of-store store_errors.NotStore = tt
of-store store_errors.Disk = tt
of-store (store_errors.Damaged page) = tt
of-store store_errors.Memory = tt

module _ {T : Type 0} (answer : Result T StopErr) (why : StoreErr) (is : answer ≡ Err (of_store why)) where
  pub no-trap : {A : Type 0} (trap : Trap) → answer ≡ Err (errors.Trapped trap) → A
  no-trap trap other = absurd (subst OfStore (err-inside answer (of_store why) (errors.Trapped trap) is other) (of-store why))

  pub no-out_fault : {A : Type 0} → answer ≡ Err errors.OutFault → A
  no-out_fault other = absurd (subst OfStore (err-inside answer (of_store why) errors.OutFault is other) (of-store why))

  pub no-other_type : {A : Type 0} → answer ≡ Err errors.SchemaDiffers → A
  no-other_type other = absurd (subst OfStore (err-inside answer (of_store why) errors.SchemaDiffers is other) (of-store why))

  pub was-no_store : answer ≡ Err errors.NotStore → why ≡ store_errors.NotStore
  was-no_store other = by_why why (err-inside answer (of_store why) errors.NotStore is other)
    where
      by_why : (why : StoreErr) → of_store why ≡ errors.NotStore → why ≡ store_errors.NotStore
      by_why store_errors.NotStore e = refl
      by_why store_errors.Disk e = absurd cc
      by_why (store_errors.Damaged page) e = absurd cc
      by_why store_errors.Memory e = absurd cc

  pub was-fault : answer ≡ Err errors.DiskFault → why ≡ store_errors.Disk
  was-fault other = by_why why (err-inside answer (of_store why) errors.DiskFault is other)
    where
      by_why : (why : StoreErr) → of_store why ≡ errors.DiskFault → why ≡ store_errors.Disk
      by_why store_errors.NotStore e = absurd cc
      by_why store_errors.Disk e = refl
      by_why (store_errors.Damaged page) e = absurd cc
      by_why store_errors.Memory e = absurd cc

  pub was-damaged : (page : ℕ) → answer ≡ Err (errors.Damaged page) → why ≡ store_errors.Damaged page
  was-damaged page other = by_why why (err-inside answer (of_store why) (errors.Damaged page) is other)
    where
      by_why : (why : StoreErr) → of_store why ≡ errors.Damaged page → why ≡ store_errors.Damaged page
      by_why store_errors.NotStore e = absurd cc
      by_why store_errors.Disk e = absurd cc
      by_why (store_errors.Damaged other) e = cc
      by_why store_errors.Memory e = absurd cc

-- ---- a body that stopped

of-body : (why : BodyErr) → IsRefusal (of_body why) → ⊥
of-body (body_errors.Trapped trap) refusal = refusal
of-body body_errors.DiskFault refusal = refusal
of-body body_errors.OutFault refusal = refusal
of-body body_errors.Memory refusal = refusal

module _ {T : Type 0} (answer : Result T StopErr) (why : BodyErr) (is : answer ≡ Err (of_body why)) where
  pub no-refusal : {A : Type 0} (other : StopErr) → IsRefusal other → answer ≡ Err other → A
  no-refusal other refusal same =
      absurd (of-body why (subst IsRefusal (sym (err-inside answer (of_body why) other is same)) refusal))

  pub was-trapped : (trap : Trap) → answer ≡ Err (errors.Trapped trap) → why ≡ body_errors.Trapped trap
  was-trapped trap other = by_why why (err-inside answer (of_body why) (errors.Trapped trap) is other)
    where
      by_why : (why : BodyErr) → of_body why ≡ errors.Trapped trap → why ≡ body_errors.Trapped trap
      by_why (body_errors.Trapped other) e = cc
      by_why body_errors.DiskFault e = absurd cc
      by_why body_errors.OutFault e = absurd cc
      by_why body_errors.Memory e = absurd cc

  pub was-disk_fault : answer ≡ Err errors.DiskFault → why ≡ body_errors.DiskFault
  was-disk_fault other = by_why why (err-inside answer (of_body why) errors.DiskFault is other)
    where
      by_why : (why : BodyErr) → of_body why ≡ errors.DiskFault → why ≡ body_errors.DiskFault
      by_why (body_errors.Trapped trap) e = absurd cc
      by_why body_errors.DiskFault e = refl
      by_why body_errors.OutFault e = absurd cc
      by_why body_errors.Memory e = absurd cc

  pub stopped-fault :
      {X : Type 0} (ran : Result X BodyErr) → ran ≡ Err why → ran ≡ Err body_errors.DiskFault → answer ≡ Err errors.DiskFault
  stopped-fault ran was fault =
      is ∙ ap {B = Result T StopErr} (λ (w : BodyErr). Err (of_body w)) (err-inside ran why body_errors.DiskFault was fault)

  pub was-out_fault : answer ≡ Err errors.OutFault → why ≡ body_errors.OutFault
  was-out_fault other = by_why why (err-inside answer (of_body why) errors.OutFault is other)
    where
      by_why : (why : BodyErr) → of_body why ≡ errors.OutFault → why ≡ body_errors.OutFault
      by_why (body_errors.Trapped trap) e = absurd cc
      by_why body_errors.DiskFault e = absurd cc
      by_why body_errors.OutFault e = refl
      by_why body_errors.Memory e = absurd cc

-- ---- the answer that is due

module _ (program : StoredProgram) (bound : List Bound) (input : List ℕ) where
  pub due-memory : IsDue (whole_run program bound input).stands (Err errors.Memory)
  due-memory = by_standing (whole_run program bound input).stands refl
    where
      by_standing : (standing : Standing) → (whole_run program bound input).stands ≡ standing → IsDue standing (Err errors.Memory)
      by_standing Going e = absurd (comes_to_end program bound input e)
      by_standing Ended e = inr refl
      by_standing (Trapped trap) e = inr refl

  pub due-ended : (value : Unit {0}) → (whole_run program bound input).stands ≡ Ended → IsDue (whole_run program bound input).stands (Ok value)
  due-ended value ended = subst (λ (standing : Standing). IsDue standing (Ok value)) (sym ended) (inl refl)

  -- want of memory
  pub due-wanting : (answer : Result (Unit {0}) StopErr) → answer ≡ Err errors.Memory → IsDue (whole_run program bound input).stands answer
  due-wanting answer is = subst (λ (a : Result (Unit {0}) StopErr). IsDue (whole_run program bound input).stands a) (sym is) due-memory

  due-trapped : (trap : Trap) → (whole_run program bound input).stands ≡ Trapped trap → IsDue (whole_run program bound input).stands (Err (errors.Trapped trap))
  due-trapped trap trapped = subst (λ (standing : Standing). IsDue standing (Err (errors.Trapped trap))) (sym trapped) (inl refl)

  pub due-unopened :
      (answer : Result (Unit {0}) StopErr) (why : StoreErr) → answer ≡ Err (of_store why) → (why ≡ store_errors.NotStore → ⊥) →
      ((page : ℕ) → why ≡ store_errors.Damaged page → ⊥) → (why ≡ store_errors.Disk → ⊥) →
      IsDue (whole_run program bound input).stands answer
  due-unopened answer why is store sound disk =
      subst (λ (a : Result (Unit {0}) StopErr). IsDue (whole_run program bound input).stands a) (sym is) (by_why why store sound disk)
    where
      by_why :
          (why : StoreErr) → (why ≡ store_errors.NotStore → ⊥) → ((page : ℕ) → why ≡ store_errors.Damaged page → ⊥) →
          (why ≡ store_errors.Disk → ⊥) → IsDue (whole_run program bound input).stands (Err (of_store why))
      by_why store_errors.NotStore store sound disk = absurd (store refl)
      by_why store_errors.Disk store sound disk = absurd (disk refl)
      by_why (store_errors.Damaged page) store sound disk = absurd (sound page refl)
      by_why store_errors.Memory store sound disk = due-memory

  pub due-stopped :
      (answer : Result (Unit {0}) StopErr) (why : BodyErr) → answer ≡ Err (of_body why) →
      ((trap : Trap) → why ≡ body_errors.Trapped trap → (whole_run program bound input).stands ≡ Trapped trap) →
      (why ≡ body_errors.DiskFault → ⊥) → (why ≡ body_errors.OutFault → ⊥) → IsDue (whole_run program bound input).stands answer
  due-stopped answer why is trapped disk out =
      subst (λ (a : Result (Unit {0}) StopErr). IsDue (whole_run program bound input).stands a) (sym is) (by_why why trapped disk out)
    where
      by_why :
          (why : BodyErr) → ((trap : Trap) → why ≡ body_errors.Trapped trap → (whole_run program bound input).stands ≡ Trapped trap) →
          (why ≡ body_errors.DiskFault → ⊥) → (why ≡ body_errors.OutFault → ⊥) →
          IsDue (whole_run program bound input).stands (Err (of_body why))
      by_why (body_errors.Trapped trap) trapped disk out = due-trapped trap (trapped trap refl)
      by_why body_errors.DiskFault trapped disk out = absurd (disk refl)
      by_why body_errors.OutFault trapped disk out = absurd (out refl)
      by_why body_errors.Memory trapped disk out = due-memory

-- no Ok
pub no-ok : {T E : Type 0} (A : Type 0) (answer : Result T E) (why : E) → answer ≡ Err why → OnOk answer A
no-ok {T = T} {E = E} A answer why is = subst (λ (a : Result T E). OnOk a A) (sym is) tt

-- so of every error
pub every-err : {T E : Type 0} {P : E → Type 0} (answer : Result T E) → ((why : E) → P why) → IfErr answer P
every-err (Ok value) all = tt
every-err (Err why) all = all why

-- want of memory alone
abbrev pub NotMemory : StopErr → Type 0
NotMemory errors.Memory = ⊥
NotMemory _ = Unit {0}

pub memory-only : {T A : Type 0} (answer : Result T StopErr) (other : StopErr) → answer ≡ Err errors.Memory → NotMemory other → answer ≡ Err other → A
memory-only answer other is not same = absurd (subst NotMemory (sym (err-inside answer errors.Memory other is same)) not)

-- ---- an opening that failed, by its own answer

module _ {T X : Type 0} (answer : Result T StopErr) (opened : Result X StoreErr) (why : StoreErr) (is : answer ≡ Err (of_store why))
    (was : opened ≡ Err why) where
  pub opening-answers : (other : StoreErr) → opened ≡ Err other → answer ≡ Err (of_store other)
  opening-answers other same =
      let one : why ≡ other = (let both = sym was ∙ same in cc) in
      is ∙ ap (λ (w : StoreErr). Err (of_store w)) one

  pub opening-two :
      (first second : StoreErr) → (opened ≡ Err first) ⊎ (opened ≡ Err second) →
      (answer ≡ Err (of_store first)) ⊎ (answer ≡ Err (of_store second))
  opening-two first second (inl same) = inl (opening-answers first same)
  opening-two first second (inr same) = inr (opening-answers second same)

  pub opening-three :
      (first second third : StoreErr) → (opened ≡ Err first) ⊎ ((opened ≡ Err second) ⊎ (opened ≡ Err third)) →
      (answer ≡ Err (of_store first)) ⊎ ((answer ≡ Err (of_store second)) ⊎ (answer ≡ Err (of_store third)))
  opening-three first second third (inl same) = inl (opening-answers first same)
  opening-three first second third (inr (inl same)) = inr (inl (opening-answers second same))
  opening-three first second third (inr (inr same)) = inr (inr (opening-answers third same))

  -- a fault or want of memory, where it is a store and sound
  pub opening-failed :
      (opened ≡ Err store_errors.NotStore → ⊥) → ((page : ℕ) → opened ≡ Err (store_errors.Damaged page) → ⊥) →
      (answer ≡ Err errors.DiskFault) ⊎ (answer ≡ Err errors.Memory)
  opening-failed store sound = by_why why is was
    where
      by_why : (w : StoreErr) → answer ≡ Err (of_store w) → opened ≡ Err w → (answer ≡ Err errors.DiskFault) ⊎ (answer ≡ Err errors.Memory)
      by_why store_errors.NotStore i o = absurd (store o)
      by_why store_errors.Disk i o = inl i
      by_why (store_errors.Damaged page) i o = absurd (sound page o)
      by_why store_errors.Memory i o = inr i

  -- what holds where it refused
  pub opening-refused :
      (A : Type 0) →
      ((opened ≡ Err store_errors.NotStore) ⊎ ((page : ℕ) × (opened ≡ Err (store_errors.Damaged page))) → A) →
      IfErr answer (λ w. IsRefusal w → A)
  opening-refused A refused =
      subst (λ (a : Result T StopErr). IfErr a (λ w. IsRefusal w → A)) (sym is) (by_why why was)
    where
      by_why : (w : StoreErr) → opened ≡ Err w → IsRefusal (of_store w) → A
      by_why store_errors.NotStore o refusal = refused (inl o)
      by_why store_errors.Disk o refusal = absurd refusal
      by_why (store_errors.Damaged page) o refusal = refused (inr (page, o))
      by_why store_errors.Memory o refusal = absurd refusal

-- want of memory refuses nothing
pub wanting-refuses :
    {T : Type 0} (A : Type 0) (answer : Result T StopErr) → answer ≡ Err errors.Memory → IfErr answer (λ w. IsRefusal w → A)
wanting-refuses {T = T} A answer is =
    subst (λ (a : Result T StopErr). IfErr a (λ w. IsRefusal w → A)) (sym is) (λ refusal. absurd refusal)

-- ---- a body that stopped refuses nothing

pub unrefused : {T : Type 0} (A : Type 0) (answer : Result T StopErr) (why : BodyErr) → answer ≡ Err (of_body why) → IfErr answer (λ w. IsRefusal w → A)
unrefused {T = T} A answer why is =
    subst (λ (a : Result T StopErr). IfErr a (λ w. IsRefusal w → A)) (sym is) (λ refusal. absurd (of-body why refusal))

-- ---- a print that failed

module _ {T : Type 0} (answer : Result T BodyErr) (failed : IfErr answer (λ why. why ≡ body_errors.OutFault)) where
  pub printed-why : (why : BodyErr) → answer ≡ Err why → why ≡ body_errors.OutFault
  printed-why why is = subst (λ (a : Result T BodyErr). IfErr a (λ w. w ≡ body_errors.OutFault)) is failed

  pub printed-no_trap : {A : Type 0} (trap : Trap) → answer ≡ Err (body_errors.Trapped trap) → A
  printed-no_trap trap is = let why = printed-why (body_errors.Trapped trap) is in absurd cc

  pub printed-no_disk_fault : {A : Type 0} → answer ≡ Err body_errors.DiskFault → A
  printed-no_disk_fault is = let why = printed-why body_errors.DiskFault is in absurd cc

-- what holds holds after Ok, and what an error shows that error shows
pub after-ok : {T E A : Type 0} (answer : Result T E) → A → OnOk answer A
after-ok (Ok value) holds = holds
after-ok (Err why) holds = tt

pub both-ok : {T E A B C : Type 0} (answer : Result T E) → OnOk answer A → OnOk answer B → (A → B → C) → OnOk answer C
both-ok (Ok value) first second join = join first second
both-ok (Err why) first second join = tt

pub on-this : {T E A : Type 0} (answer : Result T E) (why : E) → OnErr answer A → answer ≡ Err why → A
on-this {T = T} {E = E} {A = A} answer why holds is = subst (λ (a : Result T E). OnErr a A) is holds

-- ---- counts

pub say-counts : (old new : Counts) → OnlySayFaults old new → OnlyRunFaults old new
say-counts old new only = record {
  others = only.others ∙ ap (λ (counts : Counts). record old { say_faults = new.say_faults; disk_faults = counts.disk_faults }) (sym only.others);
  say_later = only.later;
  disk_later = omega (arith, ap (λ (counts : Counts). counts.disk_faults) only.others);
}

pub disk-counts : (old new : Counts) → OnlyDiskFaults old new → OnlyRunFaults old new
disk-counts old new only = record {
  others = only.others ∙ ap (λ (counts : Counts). record old { say_faults = counts.say_faults; disk_faults = new.disk_faults }) (sym only.others);
  say_later = omega (arith, ap (λ (counts : Counts). counts.say_faults) only.others);
  disk_later = only.later;
}

pub counts-then : (old mid new : Counts) → OnlyRunFaults old mid → OnlyRunFaults mid new → OnlyRunFaults old new
counts-then old mid new first second = record {
  others = second.others ∙ ap (λ (counts : Counts). record counts { say_faults = new.say_faults; disk_faults = new.disk_faults }) first.others;
  say_later = omega (arith, first.say_later, second.say_later);
  disk_later = omega (arith, first.disk_later, second.disk_later);
}

pub counts-same : (counts : Counts) → OnlyRunFaults counts counts
counts-same counts = record { others = refl; say_later = omega arith; disk_later = omega arith }
