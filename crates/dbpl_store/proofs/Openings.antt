-- What an opening gives.
use Rattle.std.proofs.Common.{◌≡◌, ◌⊎◌, inl, inr, ℕ, List, [], Option, Some, None, Result, Ok, Err, IfOk, IfErr, OnOk, refl, sym, ap, ◌∙◌}
use Rattle.std.specs.Option.{option_and_then}
use Rattle.dbpl_log.specs.Changes.{LeavesLog}
use Rattle.dbpl_log.specs.Records.{HasHead, records_of}
use Rattle.dbpl_log.specs.declared.open_err.OpenErr.{OpenErr}
use Rattle.dbpl_log.specs.declared.open_err.OpenErr.TheVariants as log_errors
use Rattle.dbpl_log.specs.declared.opened.Opened.{Opened}
use Rattle.dbpl_codec.proofs.ByteLaws.{some_is}
use Rattle.dbpl_store.proofs.Standing.{stands-for}
use Rattle.dbpl_store.specs.Errors.{of_log}
use Rattle.dbpl_store.specs.Stands.{LeavesOld, newest, stands}
use Rattle.dbpl_store.specs.Stores.{committed_of}
use Rattle.dbpl_store.specs.declared.store.Store.{Store}
use Rattle.dbpl_store.specs.declared.store_err.StoreErr.{StoreErr}
use Rattle.dbpl_store.specs.declared.store_err.StoreErr.TheVariants as errors
use Rattle.dbpl_value.specs.declared.bound.Bound.{Bound}
use Rattle.dbpl_world.proofs.Moments.{moments_weaken}
use Rattle.dbpl_world.specs.History.{History, State, now}
use Rattle.dbpl_world.specs.Images.{IsImage}
use Rattle.dbpl_world.specs.Moments.{EachMoment}

as_old : (old s : State) → LeavesLog (IsImage old.disk.log) old s → LeavesOld old s
as_old old s left = record { log = left.log; pages = left.pages; others = left.others }

pub opening-moments :
    (h1 h2 : History) → EachMoment (LeavesLog (IsImage (now h1).disk.log) (now h1)) h1 h2 →
    EachMoment (LeavesOld (now h1)) h1 h2
opening-moments h1 h2 moments =
    moments_weaken (LeavesLog (IsImage (now h1).disk.log) (now h1)) (LeavesOld (now h1)) h1 h2 (as_old (now h1)) moments

pub stands-none :
    (log pages : List ℕ) (found : Option (List (List ℕ))) → records_of log ≡ found →
    option_and_then (newest []) found ≡ None → stands log pages ≡ None
unfolding stands
stands-none log pages found has none =
    ap (λ (r : Option (List (List ℕ))). option_and_then (newest []) r) has ∙ none

pub none-stands :
    (log pages : List ℕ) (found : Option (List (List ℕ))) → records_of log ≡ found →
    stands log pages ≡ None → option_and_then (newest []) found ≡ None
unfolding stands
none-stands log pages found has none =
    sym (ap (λ (r : Option (List (List ℕ))). option_and_then (newest []) r) has) ∙ none

-- the database that stood is the one that is opened
pub opened-stood :
    (log pages : List ℕ) (records : List (List ℕ)) (database : List Bound) (result : Result Store StoreErr) →
    records_of log ≡ Some records → stands log pages ≡ Some database →
    IfOk result (λ store. newest [] records ≡ Some (committed_of store)) → IfOk result (λ store. committed_of store ≡ database)
opened-stood log pages records database (Ok store) has stood newer =
    some_is (committed_of store) database (sym (stands-for log pages records (committed_of store) has newer) ∙ stood)
opened-stood log pages records database (Err e) has stood newer = tt

-- the log as it was read stands for it
pub opened-read :
    (log pages : List ℕ) (records : List (List ℕ)) (result : Result Store StoreErr) → records_of log ≡ Some records →
    IfOk result (λ store. newest [] records ≡ Some (committed_of store)) →
    IfOk result (λ store. stands log pages ≡ Some (committed_of store))
opened-read log pages records (Ok store) has newer = stands-for log pages records (committed_of store) has newer
opened-read log pages records (Err e) has newer = tt

-- what holds of the disk, whatever the records spell
pub opened-anyway : {P : Type 0} (result : Result Store StoreErr) → P → OnOk result P
opened-anyway (Ok store) holds = holds
opened-anyway (Err e) holds = tt

abbrev failed : StoreErr → Result Store StoreErr
failed e = Err e

-- why the records spell no database
abbrev pub IsUnspelt : List (List ℕ) → StoreErr → Type 0
IsUnspelt records e = (e ≡ errors.Memory) ⊎ ((e ≡ errors.Damaged 0) × (newest [] records ≡ None))

pub opened-damaged :
    (log pages : List ℕ) (records : List (List ℕ)) (result : Result Store StoreErr) (page : ℕ) →
    records_of log ≡ Some records → HasHead log → IfErr result (IsUnspelt records) →
    result ≡ Err (errors.Damaged page) → (page ≡ 0) × HasHead log × (stands log pages ≡ None)
opened-damaged log pages records (Ok store) page has head unspelt e = absurd cc
opened-damaged log pages records (Err f) page has head unspelt e = by_cause f unspelt e
  where
    memory-damaged : (f : StoreErr) → f ≡ errors.Memory → failed f ≡ failed (errors.Damaged page) → ⊥
    memory-damaged f g same = cc

    one : (f : StoreErr) → f ≡ errors.Damaged 0 → failed f ≡ failed (errors.Damaged page) → page ≡ 0
    one f g same = cc

    by_cause :
        (f : StoreErr) → IsUnspelt records f → failed f ≡ failed (errors.Damaged page) →
        (page ≡ 0) × HasHead log × (stands log pages ≡ None)
    by_cause f (inl memory) same = absurd (memory-damaged f memory same)
    by_cause f (inr damaged) same =
        (one f damaged.0 same, head, stands-none log pages (Some records) has damaged.1)

pub opened-damaged_where :
    (log pages : List ℕ) (records : List (List ℕ)) (result : Result Store StoreErr) → records_of log ≡ Some records →
    IfOk result (λ store. newest [] records ≡ Some (committed_of store)) → IfErr result (IsUnspelt records) →
    stands log pages ≡ None →
    (result ≡ Err (errors.Damaged 0)) ⊎ ((result ≡ Err errors.Disk) ⊎ (result ≡ Err errors.Memory))
opened-damaged_where log pages records (Ok store) has newer unspelt none =
    let same = none-stands log pages (Some records) has none in
    absurd cc
opened-damaged_where log pages records (Err f) has newer (inl memory) none = inr (inr (ap (λ (e : StoreErr). Err e) memory))
opened-damaged_where log pages records (Err f) has newer (inr damaged) none = inl (ap (λ (e : StoreErr). Err e) damaged.0)

-- ---- an error of the log

pub err_is : (e f : StoreErr) → failed e ≡ failed f → e ≡ f
err_is e f same = cc

pub log-damaged :
    (log pages : List ℕ) (e : OpenErr) (page : ℕ) → (e ≡ log_errors.Damaged → HasHead log × (records_of log ≡ None)) →
    of_log e ≡ errors.Damaged page → (page ≡ 0) × HasHead log × (stands log pages ≡ None)
log-damaged log pages log_errors.NotStore page law same = absurd cc
log-damaged log pages log_errors.Disk page law same = absurd cc
log-damaged log pages log_errors.Memory page law same = absurd cc
log-damaged log pages log_errors.Damaged page law same =
    let law2 = law refl in
    (cc, law2.0, stands-none log pages None law2.1 refl)

-- no refusal is told by these two
no-fault :
    (f : StoreErr) → f ≡ errors.Disk →
    (failed f ≡ failed errors.NotStore) ⊎ ((page : ℕ) × (failed f ≡ failed (errors.Damaged page))) → ⊥
no-fault f is (inl same) = cc
no-fault f is (inr (page, same)) = cc

no-want :
    (f : StoreErr) → f ≡ errors.Memory →
    (failed f ≡ failed errors.NotStore) ⊎ ((page : ℕ) × (failed f ≡ failed (errors.Damaged page))) → ⊥
no-want f is (inl same) = cc
no-want f is (inr (page, same)) = cc

-- a refusal of the store is one of its log
pub log-refused :
    (e : OpenErr) (f : StoreErr) (opened : Result Opened OpenErr) → opened ≡ Err e → f ≡ of_log e →
    (failed f ≡ failed errors.NotStore) ⊎ ((page : ℕ) × (failed f ≡ failed (errors.Damaged page))) →
    (opened ≡ Err log_errors.NotStore) ⊎ (opened ≡ Err log_errors.Damaged)
log-refused log_errors.NotStore f opened is from refused = inl is
log-refused log_errors.Damaged f opened is from refused = inr is
log-refused log_errors.Disk f opened is from refused = absurd (no-fault f from refused)
log-refused log_errors.Memory f opened is from refused = absurd (no-want f from refused)

-- ---- faults of the disk

-- none came where the log was opened
pub opened-fine : {A : Type 0} (opened : Result Opened OpenErr) (log : Opened) → opened ≡ Ok log →
    (opened ≡ Err log_errors.Disk) ⊎ A → A
opened-fine opened log is (inl fault) = absurd (let both = sym is ∙ fault in cc)
opened-fine opened log is (inr fine) = fine

-- one that came is the answer
pub log-fault : {A : Type 0} (e : OpenErr) (f : StoreErr) (opened : Result Opened OpenErr) → opened ≡ Err e → f ≡ of_log e →
    (opened ≡ Err log_errors.Disk) ⊎ A → (failed f ≡ failed errors.Disk) ⊎ A
log-fault e f opened is from (inl fault) =
    let same : e ≡ log_errors.Disk = (let both = sym is ∙ fault in cc) in inl (ap failed (from ∙ ap of_log same))
log-fault e f opened is from (inr fine) = inr fine
