-- Why the command that makes a store keeps its promise: from what making one of the mounted store says.
use Rattle.std.proofs.Common.{◌≡◌, ◌∙◌, ◌⊎◌, ◌<◌, ℕ, Bool, List, [], ◌∷◌, Some, Result, Ok, Err, OnOk, IsTrue, ap, arith, inl, inr, length, refl, subst, sym}
use Rattle.dbpl_base.specs.declared.status.Status.{Status}
use Rattle.dbpl_base.specs.declared.status.Status.TheVariants as status
use Rattle.dbpl_log.specs.Beginning.{IsForeign, IsFree, begun, longest_unknown}
use Rattle.dbpl_log.specs.Changes.{IsSynced, WritesLog}
use Rattle.dbpl_log.specs.Records.{HasHead}
use Rattle.dbpl_log.specs.declared.create_err.CreateErr.{CreateErr}
use Rattle.dbpl_log.specs.declared.create_err.CreateErr.TheVariants as errors
use Rattle.dbpl_promise.proofs.AnswerKinds.{HasKinds, Refusal, concludes_done, concludes_joined, kind_of, kinds_given, kinds_joined}
use Rattle.dbpl_promise.proofs.Determined.{given, joined}
use Rattle.dbpl_promise.proofs.Leaving.{alone_here, untouched_here}
use Rattle.dbpl_promise.proofs.Mounted.{SinceMounted, alone_there, moments_mounted, mounted_disk, mounted_input, mounted_said, mounted_state, only_disk, since_mounted, stands_there, untouched_there}
use Rattle.dbpl_promise.proofs.Rows.{IsRow, idle_row}
use Rattle.dbpl_promise.proofs.Stages.{disk_kind}
use Rattle.dbpl_promise.proofs.Still.{IsStill, kept_still}
use Rattle.dbpl_promise.proofs.Together.{moments_all, moments_both}
use Rattle.dbpl_promise.specs.Leaving.{IsUntouched}
use Rattle.dbpl_promise.specs.Opening.{store_before}
use Rattle.dbpl_promise.specs.Promises.{Answered, LeavesAlone}
use Rattle.dbpl_promise.specs.Stages.{IsDetermined, MayAnswer, gives}
use Rattle.dbpl_promise.specs.Work.{Work}
use Rattle.dbpl_store.specs.Beginning.{LeavesBegun, MayBecomeEmpty, StandsEmpty}
use Rattle.dbpl_store.specs.Stands.{LeavesOld, stands}
use Rattle.dbpl_stored_modes.specs.CreateCommand.{EndsCreate, IsTaken, MayCreate, creates, store_made}
use Rattle.dbpl_stored_modes.specs.Creating.{IsBeingMade, answer_of}
use Rattle.dbpl_stored_modes.specs.Images.{EachImage}
use Rattle.dbpl_world.proofs.Moments.{moments_last, moments_weaken}
use Rattle.dbpl_world.specs.Counts.{Rose}
use Rattle.dbpl_world.specs.History.{History, Mounted, State, Store, more, now, settled_store, store_of}
use Rattle.dbpl_world.specs.Images.{IsImage, settled}
use Rattle.dbpl_world.specs.Moments.{EachMoment, LeavesOnlyAt}
use Rattle.dbpl_world.specs.declared.counts.Counts.{Counts}

-- ---- one answer

-- no free name is a foreign one
free_foreign : (disk : Store) → IsFree disk → IsForeign disk → ⊥
free_foreign disk free foreign = by_length foreign.long
  where
    by_length : (longest_unknown < length disk.log.now) ⊎ (longest_unknown < length disk.pages.now) → ⊥
    by_length (inl long) = omega (arith, long, free.short_log)
    by_length (inr long) = omega (arith, long, free.short_pages)

module _ (name : List ℕ) (work : Work) (tells : IsTrue work.tells) where
  refusal : (answer other : Status) → IsTaken name work answer → IsTaken name work other → answer ≡ other
  refusal status.Exists status.Exists left right = refl
  refusal status.Exists status.Foreign left right = absurd ((right tells).no_store (left tells))
  refusal status.Foreign status.Exists left right = absurd ((left tells).no_store (right tells))
  refusal status.Foreign status.Foreign left right = refl
  refusal status.Exists _ left right = absurd right
  refusal status.Foreign _ left right = absurd right
  refusal _ other left right = absurd left

  apart : (answer : Status) → (IsTrue work.tells → IsFree (store_before name work)) → IsTaken name work answer → ⊥
  apart status.Exists free is = (free tells).no_store (is tells)
  apart status.Foreign free is = free_foreign (store_before name work) (free tells) (is tells)
  apart _ free is = absurd is

  made_determined : IsDetermined (store_made name) work
  made_determined = record {
    one = λ a b left right. refl;
    refusal = refusal;
    apart = λ a answer passes refuses. apart answer passes refuses;
  }

  pub create_determined : IsDetermined (creates name).due work
  create_determined = joined (store_made name) (λ _. gives status.Done) work made_determined (λ done passes. given work status.Done)

-- ---- the row

taken_kind : (name : List ℕ) (work : Work) (answer : Status) → IsTaken name work answer → kind_of answer ≡ Refusal
taken_kind name work status.Exists is = refl
taken_kind name work status.Foreign is = refl
taken_kind name work _ is = absurd is

made_kinds : (name : List ℕ) → HasKinds (store_made name)
made_kinds name = record { refuses = taken_kind name; fails = disk_kind }

pub create_row : (name : List ℕ) → IsRow (creates name)
create_row name =
    idle_row (creates name) (λ work run never. never)
    (kinds_joined (store_made name) (λ _. gives status.Done) (made_kinds name) (λ _. kinds_given status.Done))
    (concludes_joined (store_made name) (λ _. gives status.Done) (λ _. concludes_done))
    (λ work told. create_determined name work told.world)

-- ---- what making an empty store of the mounted one says

pub record Made (tells : Bool) (mid new : History) (counts_mid counts_new : Counts) (result : Result (Unit {0}) CreateErr) : Type 0 where
  pub moments : IsTrue tells → ((log pages : List ℕ) → IsImage (now mid).disk.log log → IsImage (now mid).disk.pages pages → MayBecomeEmpty log pages) → EachMoment (LeavesBegun (now mid)) mid new
  pub made : IsTrue tells → OnOk result (StandsEmpty (now new))
  pub bytes : IsTrue tells → OnOk result ((now new).disk.log.now ≡ begun (now mid).disk.log.now)
  pub pages : IsTrue tells → OnOk result ((now new).disk.pages ≡ settled (now mid).disk.pages.now)
  pub writes : IsTrue tells → EachMoment (WritesLog (now mid)) mid new
  pub free : IsTrue tells → OnOk result (IsFree (now mid).disk)
  pub exists : IsTrue tells → result ≡ Err errors.Exists → HasHead (now mid).disk.log.now
  pub foreign : IsTrue tells → result ≡ Err errors.Foreign → IsForeign (now mid).disk
  pub settled : IsTrue tells → (result ≡ Err errors.Exists) ⊎ (result ≡ Err errors.Foreign) →
      (now new).disk ≡ settled_store (now mid).disk.log.now (now mid).disk.pages.now
  pub kept : IsTrue tells → (IsFree (now mid).disk → ⊥) → EachMoment (LeavesOld (now mid)) mid new
  pub fine : (result ≡ Err errors.Disk) ⊎ (counts_new.disk_faults ≡ counts_mid.disk_faults)
  pub cause : result ≡ Err errors.Disk → Rose counts_mid.disk_faults counts_new.disk_faults

on_done : {A : Type 0} (result : Result (Unit {0}) CreateErr) → answer_of result ≡ status.Done → OnOk result A → A
on_done (Ok done) e holds = holds
on_done (Err errors.Exists) e holds = absurd (cc)
on_done (Err errors.Foreign) e holds = absurd (cc)
on_done (Err errors.Disk) e holds = absurd (cc)

is_exists : (result : Result (Unit {0}) CreateErr) → answer_of result ≡ status.Exists → result ≡ Err errors.Exists
is_exists (Ok done) e = absurd (cc)
is_exists (Err errors.Exists) e = refl
is_exists (Err errors.Foreign) e = absurd (cc)
is_exists (Err errors.Disk) e = absurd (cc)

is_foreign : (result : Result (Unit {0}) CreateErr) → answer_of result ≡ status.Foreign → result ≡ Err errors.Foreign
is_foreign (Ok done) e = absurd (cc)
is_foreign (Err errors.Exists) e = absurd (cc)
is_foreign (Err errors.Foreign) e = refl
is_foreign (Err errors.Disk) e = absurd (cc)

-- no result is want of memory
never_wanting : (r : Result (Unit {0}) CreateErr) → answer_of r ≡ status.Memory → ⊥
never_wanting (Ok done) e = cc
never_wanting (Err errors.Exists) e = cc
never_wanting (Err errors.Foreign) e = cc
never_wanting (Err errors.Disk) e = cc

module _ (name : List ℕ) (work : Work) (mid : History) (counts_mid : Counts) (result : Result (Unit {0}) CreateErr)
    (mount : IsTrue work.tells → mid ≡ more work.before (Mounted name ∷ [])) (disk_same : counts_mid.disk_faults ≡ work.counts_before.disk_faults)
    (prints : work.counts_after.say_faults ≡ work.counts_before.say_faults) (source : work.shelf_faults_after ≡ work.shelf_faults_before)
    (run : Made work.tells mid work.after counts_mid work.counts_after result) where
  disk : IsTrue work.tells → (now mid).disk ≡ store_before name work
  disk told = mounted_disk name work.before mid (mount told)

  since : IsTrue work.tells → (s : State) → s ≡ record (now mid) { disk = s.disk } → SinceMounted name (now work.before) s
  since told s others = since_mounted name work.before mid (mount told) s (only_disk (now mid) s others)

  said : IsTrue work.tells → (s : State) → s ≡ record (now mid) { disk = s.disk } → s.said ≡ (now work.before).said
  said told s others = ap (λ (t : State). t.said) others ∙ mounted_said name work.before mid (mount told)

  input : IsTrue work.tells → (s : State) → s ≡ record (now mid) { disk = s.disk } → s.input ≡ (now work.before).input
  input told s others = ap (λ (t : State). t.input) others ∙ mounted_input name work.before mid (mount told)

  -- what holds of each image of the mounted store holds of the one of that name
  images : IsTrue work.tells → (P : List ℕ → List ℕ → Type 0) (s : State) → s ≡ record (now mid) { disk = s.disk } →
      ((log pages : List ℕ) → IsImage s.disk.log log → IsImage s.disk.pages pages → P log pages) → EachImage name s P
  images told P s others holds = λ log pages log_left pages_left.
      let there = stands_there name (now work.before) s (since told s others) in
      holds log pages (subst (λ (d : Store). IsImage d.log log) there log_left) (subst (λ (d : Store). IsImage d.pages pages) there pages_left)

  -- ---- the answer

  due : (r : Result (Unit {0}) CreateErr) → result ≡ r → MayAnswer (creates name).due work (answer_of r)
  due (Ok done) e =
      inl (inr (tt {0}, (λ told. subst IsFree (disk told) (on_done result (ap answer_of e) (run.free told))), refl))
  due (Err errors.Exists) e = inl (inl (inl (λ told. subst (λ (d : Store). HasHead d.log.now) (disk told) (run.exists told e))))
  due (Err errors.Foreign) e = inl (inl (inl (λ told. subst IsForeign (disk told) (run.foreign told e))))
  due (Err errors.Disk) e = inr (inl (inl (subst (λ (n : ℕ). Rose n work.counts_after.disk_faults) disk_same (run.cause e))))

  -- a fault of the disk is answered
  disk_well : (answer_of result ≡ status.DiskFault) ⊎ (work.counts_after.disk_faults ≡ work.counts_before.disk_faults)
  disk_well = by_result run.fine
    where
      by_result : (result ≡ Err errors.Disk) ⊎ (work.counts_after.disk_faults ≡ counts_mid.disk_faults) →
          (answer_of result ≡ status.DiskFault) ⊎ (work.counts_after.disk_faults ≡ work.counts_before.disk_faults)
      by_result (inl e) = inl (ap answer_of e)
      by_result (inr fine) = inr (fine ∙ disk_same)

  -- ---- each moment

  begun_for : IsTrue work.tells → EachImage name (now work.before) MayBecomeEmpty →
      EachMoment (LeavesOnlyAt name (IsBeingMade (now work.before).said)) work.before work.after
  begun_for told may =
      moments_mounted name work.before mid (mount told) (LeavesOnlyAt name (IsBeingMade (now work.before).said)) work.after
      (λ log pages log_left pages_left. record { stage = inl (may log pages log_left pages_left); said_is = refl })
      (moments_weaken (LeavesBegun (now mid)) _ mid work.after
      (λ s here. images told (λ log pages. IsBeingMade (now work.before).said log pages s.said) s here.others
      (λ log pages log_left pages_left. record { stage = here.left log pages log_left pages_left; said_is = said told s here.others }))
      (run.moments told (λ log pages log_left pages_left.
      may log pages (subst (λ (d : Store). IsImage d.log log) (disk told) log_left)
      (subst (λ (d : Store). IsImage d.pages pages) (disk told) pages_left))))

  untouched : IsTrue work.tells → (s : State) → LeavesOld (now mid) s → IsUntouched (now work.before) s
  untouched told s left =
      untouched_there name (now work.before) s (since told s left.others) (said told s left.others)
      (λ bytes image. subst (λ (d : Store). IsImage d.log bytes) (disk told) (left.log bytes image))
      (λ bytes image. subst (λ (d : Store). IsImage d.pages bytes) (disk told) (left.pages bytes image))

  kept_for : IsTrue work.tells → (IsFree (store_before name work) → ⊥) ⊎ (answer_of result ≡ status.Memory) →
      EachMoment (IsUntouched (now work.before)) work.before work.after
  kept_for told (inl none) =
      moments_mounted name work.before mid (mount told) (IsUntouched (now work.before)) work.after (untouched_here (now work.before))
      (moments_weaken (LeavesOld (now mid)) (IsUntouched (now work.before)) mid work.after (untouched told)
      (run.kept told (λ free. none (subst IsFree (disk told) free))))
  kept_for told (inr memory) = absurd (never_wanting result memory)

  -- what holds of every state since then in which nothing but the disk has changed
  each_written : IsTrue work.tells → (Q : State → Type 0) → Q (now work.before) →
      ((s : State) → s ≡ record (now mid) { disk = s.disk } → IsSynced (now mid).disk.pages s.disk.pages → Q s) →
      EachMoment Q work.before work.after
  each_written told Q first holds =
      moments_mounted name work.before mid (mount told) Q work.after first
      (moments_weaken (WritesLog (now mid)) Q mid work.after (λ s writes. holds s writes.others writes.pages) (run.writes told))

  abbrev HasStage : State → Type 0
  HasStage s = EachImage name (now work.before) MayBecomeEmpty → LeavesOnlyAt name (IsBeingMade (now work.before).said) s

  abbrev IsKept : State → Type 0
  IsKept s = (IsFree (store_before name work) → ⊥) ⊎ (answer_of result ≡ status.Memory) → IsUntouched (now work.before) s

  abbrev HasSame : State → Type 0
  HasSame s = (s.said ≡ (now work.before).said) × (s.input ≡ (now work.before).input)

  may_create : (s : State) → HasStage s × (IsKept s × HasSame s) → MayCreate name work (answer_of result) s
  may_create s holds = record { stage = holds.0; kept = holds.1.0; said = holds.1.1.0; input = holds.1.1.1 }

  moments : IsTrue work.tells → EachMoment (MayCreate name work (answer_of result)) work.before work.after
  moments told =
      let same = each_written told HasSame (refl, refl) (λ s others pages. (said told s others, input told s others)) in
      let stage = moments_all (λ (may : EachImage name (now work.before) MayBecomeEmpty) (s : State). LeavesOnlyAt name (IsBeingMade (now work.before).said) s)
      HasSame work.before work.after same (begun_for told) in
      let kept = moments_all (λ (why : (IsFree (store_before name work) → ⊥) ⊎ (answer_of result ≡ status.Memory)) (s : State). IsUntouched (now work.before) s)
      HasSame work.before work.after same (kept_for told) in
      moments_weaken (λ s. HasStage s × (IsKept s × HasSame s)) (MayCreate name work (answer_of result)) work.before work.after may_create
      (moments_both HasStage (λ s. IsKept s × HasSame s) work.before work.after stage
      (moments_both IsKept HasSame work.before work.after kept same))

  only : IsTrue work.tells → EachMoment (LeavesAlone ((creates name).due.mounts work) (now work.before)) work.before work.after
  only told =
      each_written told (LeavesAlone ((creates name).due.mounts work) (now work.before)) (alone_here ((creates name).due.mounts work) (now work.before))
      (λ s others pages. alone_there name (now work.before) s (since told s others) ((creates name).due.mounts work) (inl refl)
      (subst (λ (d : Store). IsSynced d.pages s.disk.pages) (disk told) pages))

  -- ---- the end

  others : IsTrue work.tells → now work.after ≡ record (now mid) { disk = (now work.after).disk }
  others told = (moments_last (WritesLog (now mid)) mid work.after (run.writes told)).others

  there : IsTrue work.tells → store_of (now work.after) name ≡ (now work.after).disk
  there told = stands_there name (now work.before) (now work.after) (since told (now work.after) (others told))

  refused : (answer_of result ≡ status.Exists) ⊎ (answer_of result ≡ status.Foreign) →
      (result ≡ Err errors.Exists) ⊎ (result ≡ Err errors.Foreign)
  refused (inl e) = inl (is_exists result e)
  refused (inr e) = inr (is_foreign result e)

  ends : IsTrue work.tells → EndsCreate name work (answer_of result) (now work.after)
  ends told = record {
    made = λ e. images told (λ log pages. stands log pages ≡ Some []) (now work.after) (others told) (on_done result e (run.made told));
    bytes = λ e.
        ap (λ (d : Store). d.log.now) (there told)
        ∙ (on_done result e (run.bytes told) ∙ ap (λ (d : Store). begun d.log.now) (disk told));
    pages = λ e.
        ap (λ (d : Store). d.pages) (there told)
        ∙ (on_done result e (run.pages told) ∙ ap (λ (d : Store). settled d.pages.now) (disk told));
    settled = λ which.
        there told ∙ (run.settled told (refused which) ∙ ap (λ (d : Store). settled_store d.log.now d.pages.now) (disk told));
  }

  created : Answered (creates name) work (answer_of result)
  created = record { answers = due result refl; moments = moments; end = ends; only = only; prints = inr prints; disk = disk_well; source = inr source }

  pub created_as : (answer : Status) → answer ≡ answer_of result → Answered (creates name) work answer
  created_as answer is = subst (Answered (creates name) work) (sym is) created

-- nothing was noted since before the store was mounted
pub made_unnoted : (mid after : History) → EachMoment (WritesLog (now mid)) mid after → (name : List ℕ) (before : History) →
    mid ≡ more before (Mounted name ∷ []) → (now after).noted ≡ (now before).noted
made_unnoted mid after writes name before mount =
    ap (λ (t : State). t.noted) (moments_last (WritesLog (now mid)) mid after writes).others
    ∙ ap (λ (t : State). t.noted) (mounted_state name before mid mount)

-- ---- a store that wasn't mounted: the disk failed, or memory was wanting

abbrev pub IsUnmounted : Work → Status → Type 0
IsUnmounted work answer = ((answer ≡ status.DiskFault) × Rose work.counts_before.disk_faults work.counts_after.disk_faults) ⊎ (answer ≡ status.Memory)

module _ (name : List ℕ) (work : Work) (answer : Status) (still : IsStill work answer) where
  fault : IsUnmounted work answer → MayAnswer (creates name).due work answer
  fault (inl why) = subst (MayAnswer (creates name).due work) (sym why.0) (inr (inl (inl why.1)))
  fault (inr why) = inr (inr why)

  not_that : IsUnmounted work answer → (due : Status) → (status.DiskFault ≡ due → ⊥) → (status.Memory ≡ due → ⊥) → answer ≡ due → ⊥
  not_that (inl why) due first second e = first (sym why.0 ∙ e)
  not_that (inr why) due first second e = second (sym why ∙ e)

  neither : IsUnmounted work answer → (answer ≡ status.Exists) ⊎ (answer ≡ status.Foreign) → ⊥
  neither why (inl e) = not_that why status.Exists (λ d. cc) (λ d. cc) e
  neither why (inr e) = not_that why status.Foreign (λ d. cc) (λ d. cc) e

  pub uncreated : IsUnmounted work answer → Answered (creates name) work answer
  uncreated why =
      kept_still work answer still (creates name) (fault why)
      (record {
        stage = λ may log pages log_left pages_left.
            record { stage = inl (may log pages log_left pages_left); said_is = refl };
        kept = λ why. untouched_here (now work.before);
        said = refl;
        input = refl;
      })
      (record {
        made = λ e. absurd (not_that why status.Done (λ d. cc) (λ d. cc) e);
        bytes = λ e. absurd (not_that why status.Done (λ d. cc) (λ d. cc) e);
        pages = λ e. absurd (not_that why status.Done (λ d. cc) (λ d. cc) e);
        settled = λ which. absurd (neither why which);
      })
