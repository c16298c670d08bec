-- Why a run over the store of a name keeps its promise: from what a run over the mounted store says.
use Rattle.std.proofs.Common.{◌≡◌, ◌≢◌, ◌∙◌, ◌⊎◌, ◌++◌, ℕ, Bool, List, [], ◌∷◌, None, Option, Some, Result, Ok, Err, OnOk, IfErr, IsOk, IsTrue, ap, bytes_eq, false, inl, inr, refl, subst, sym, take, true}
use Rattle.std.proofs.lemmas.Slice.Eq.{bytes_eq-Decides}
use Rattle.dbpl_base.specs.declared.status.Status.{Status}
use Rattle.dbpl_base.specs.declared.status.Status.TheVariants as status
use Rattle.dbpl_core.specs.Events.{Event, last, prints}
use Rattle.dbpl_core.specs.Outcomes.{Ended, IsToldBy, Outcome, Standing, TellsOfEnd, Trapped}
use Rattle.dbpl_core.specs.declared.trap.Trap.{Trap}
use Rattle.dbpl_log.specs.Changes.{IsSynced}
use Rattle.dbpl_log.specs.Records.{HasHead, open_head}
use Rattle.dbpl_promise.proofs.AnswerKinds.{refusal_kind}
use Rattle.dbpl_promise.proofs.Leaving.{alone_here, tied_here, untouched_here}
use Rattle.dbpl_promise.proofs.Mounted.{SinceMounted, alone_there, moments_mounted, mounted_disk, mounted_input, mounted_said, mounted_state, only_disk, since_mounted, stands_there, untouched_there}
use Rattle.dbpl_promise.proofs.Together.{moments_all, moments_both}
use Rattle.dbpl_promise.specs.Leaving.{IsUntouched, made_sure}
use Rattle.dbpl_promise.specs.Opening.{no_store, store_before}
use Rattle.dbpl_promise.specs.Promises.{Answered, LeavesAlone}
use Rattle.dbpl_promise.specs.Refusals.{is_refusal}
use Rattle.dbpl_promise.specs.Running.{EndsRun, SomeWereMade, MayRun, RunsNothing, ended, running}
use Rattle.dbpl_promise.specs.Runs.{WereMade, IsTied, IsWhole, Leaves, Run, StoodFor}
use Rattle.dbpl_promise.specs.Stages.{MayAnswer, ◌>>=◌}
use Rattle.dbpl_promise.specs.Work.{IsTold, Work}
use Rattle.dbpl_store.specs.Stands.{LeavesOld, stands}
use Rattle.dbpl_stored_modes.proofs.Stages.{found_over, over_kinds, over_mounts, over_store, passes_over, run_of}
use Rattle.dbpl_stored_modes.specs.Telling.{TellsOfRun}
use Rattle.dbpl_stored_program.proofs.Databases.{bound-is_there}
use Rattle.dbpl_stored_program.proofs.Statements.{whole-comes_to}
use Rattle.dbpl_stored_program.specs.Whole.{events_of, turns_of, whole_run}
use Rattle.dbpl_stored_program.specs.declared.stored_program.StoredProgram.{StoredProgram}
use Rattle.dbpl_stored_run.specs.Answers as ran
use Rattle.dbpl_stored_run.specs.Answers.{IsRefusal}
use Rattle.dbpl_stored_run.specs.Headline as made
use Rattle.dbpl_stored_run.specs.Headline.{LeavesTied, StandsFor}
use Rattle.dbpl_stored_run.specs.Leaving.{ChangesStore}
use Rattle.dbpl_stored_run.specs.declared.stop_err.StopErr.{StopErr}
use Rattle.dbpl_stored_run.specs.declared.stop_err.StopErr.TheVariants as errors
use Rattle.dbpl_value.proofs.BoundTo.{binds-one}
use Rattle.dbpl_value.specs.Binding.{Binds, Differs, bound_to, empty_bound}
use Rattle.dbpl_value.specs.declared.bound.Bound.{Bound}
use Rattle.dbpl_world.proofs.Moments.{moments_last, moments_weaken}
use Rattle.dbpl_world.specs.Counts.{Rose}
use Rattle.dbpl_world.specs.History.{History, Mounted, State, Store, more, now, settled_store, store_of}
use Rattle.dbpl_world.specs.Images.{IsImage, settled}
use Rattle.dbpl_world.specs.Moments.{EachMoment}
use Rattle.dbpl_world.specs.declared.counts.Counts.{Counts}

-- a name that was compared with `-`
pub named_store : (name : List ℕ) → false ≡ bytes_eq name no_store → name ≢ no_store
named_store name differs e = let same : false ≡ true = subst (λ (other : List ℕ). false ≡ bytes_eq other no_store) e differs in absurd (cc)

-- ---- what a run over the mounted store says

pub record RanMounted (stored : StoredProgram) (tells : Bool) (mid new : History) (counts_mid counts_new : Counts) (result : Result (Unit {0}) StopErr) : Type 0 where
  pub headline : IsTrue tells → (database bound : List Bound) → StandsFor database (now mid) → Binds stored.relation database bound →
      EachMoment (LeavesTied (events_of stored bound (now mid).input) database (now mid)) mid new
  pub whole : IsTrue tells → (database bound : List Bound) → ran.ReadsAs database (now mid) → Binds stored.relation database bound →
      OnOk result (made.HasMade (events_of stored bound (now mid).input) database (now mid) (now new))
  pub whole_trapped : IsTrue tells → (database bound : List Bound) → ran.ReadsAs database (now mid) → Binds stored.relation database bound →
      (trap : Trap) → result ≡ Err (errors.Trapped trap) → made.HasMade (events_of stored bound (now mid).input) database (now mid) (now new)
  pub ended : OnOk result (ran.HasRun stored Ended tells mid new)
  pub trapped : (trap : Trap) → result ≡ Err (errors.Trapped trap) → ran.HasRun stored (Trapped trap) tells mid new
  pub not_store : IsTrue tells → result ≡ Err errors.NotStore → HasHead (now mid).disk.log.now → ⊥
  pub not_store_where : IsTrue tells → (HasHead (now mid).disk.log.now → ⊥) → (result ≡ Err errors.NotStore) ⊎ (result ≡ Err errors.DiskFault)
  pub damaged : IsTrue tells → (page : ℕ) → result ≡ Err (errors.Damaged page) → (page ≡ 0) × HasHead (now mid).disk.log.now
      × (stands (now mid).disk.log.now (now mid).disk.pages.now ≡ None)
  pub damaged_where : IsTrue tells → HasHead (now mid).disk.log.now → stands (now mid).disk.log.now (now mid).disk.pages.now ≡ None →
      (result ≡ Err (errors.Damaged 0)) ⊎ ((result ≡ Err errors.DiskFault) ⊎ (result ≡ Err errors.Memory))
  pub differs : result ≡ Err errors.SchemaDiffers → ran.HasOther stored.relation tells mid
  pub differs_where : IsTrue tells → (database : List Bound) → ran.ReadsAs database (now mid) → Differs stored.relation database →
      (result ≡ Err errors.SchemaDiffers) ⊎ ((result ≡ Err errors.DiskFault) ⊎ (result ≡ Err errors.Memory))
  pub disk_fault : result ≡ Err errors.DiskFault → Rose counts_mid.disk_faults counts_new.disk_faults
  pub disk_fault_where : (result ≡ Err errors.DiskFault) ⊎ (counts_new.disk_faults ≡ counts_mid.disk_faults)
  pub out_fault : result ≡ Err errors.OutFault → Rose counts_mid.say_faults counts_new.say_faults
  pub out_fault_where : (result ≡ Err errors.OutFault) ⊎ (counts_new.say_faults ≡ counts_mid.say_faults)
  pub at_rest : IsTrue tells → (database bound : List Bound) → StandsFor database (now mid) → Binds stored.relation database bound →
      result ≢ Err errors.DiskFault → made.HasMadeSome (events_of stored bound (now mid).input) database (now mid) (now new)
  pub pages : IsTrue tells → OnOk result ((now new).disk.pages ≡ settled (now mid).disk.pages.now)
  pub pages_trapped : IsTrue tells → (trap : Trap) → result ≡ Err (errors.Trapped trap) →
      (now new).disk.pages ≡ settled (now mid).disk.pages.now
  pub settled : IsTrue tells → IfErr result (λ why. IsRefusal why →
      (now new).disk ≡ settled_store (now mid).disk.log.now (now mid).disk.pages.now)
  pub refused : IsTrue tells → IfErr result (λ why. IsRefusal why → EachMoment (LeavesOld (now mid)) mid new)
  pub unbound : IsTrue tells → ((database bound : List Bound) → ran.ReadsAs database (now mid) → Binds stored.relation database bound → ⊥) →
      EachMoment (LeavesOld (now mid)) mid new
  pub only : IsTrue tells → EachMoment (ChangesStore (now mid)) mid new

-- ---- answers and results

-- a refusal comes from a refusal
on_refusal : {Y : Type 0} (stored : StoredProgram) (r : Result (Unit {0}) StopErr) (a : Status) → TellsOfRun stored r a → is_refusal a ≡ true →
    IfErr r (λ why. IsRefusal why → Y) → Y
on_refusal stored (Ok _) a is refuses left = absurd (cc (ap is_refusal is, refuses))
on_refusal stored (Err (errors.Trapped trap)) a is refuses left = absurd (cc (ap is_refusal is, refuses))
on_refusal stored (Err errors.NotStore) a is refuses left = left tt
on_refusal stored (Err (errors.Damaged page)) a is refuses left = left tt
on_refusal stored (Err errors.SchemaDiffers) a is refuses left = left tt
on_refusal stored (Err errors.DiskFault) a is refuses left = absurd (cc (ap is_refusal is, refuses))
on_refusal stored (Err errors.OutFault) a is refuses left = absurd (cc (ap is_refusal is, refuses))
on_refusal stored (Err errors.Memory) a is refuses left = absurd (cc (ap is_refusal is, refuses))

-- THE result behind an answer that tells of an end
abbrev EndsSo : Result (Unit {0}) StopErr → Status → Type 0
EndsSo result status.Done = IsOk result
EndsSo result (status.Trapped kind place) = result ≡ Err (errors.Trapped (record { kind = kind; place = place }))
EndsSo result _ = Unit {0}

ends_so : (stored : StoredProgram) (result : Result (Unit {0}) StopErr) (answer : Status) → TellsOfRun stored result answer → EndsSo result answer
ends_so stored (Ok done) answer is = subst (EndsSo (Ok done)) (sym is) refl
ends_so stored (Err (errors.Trapped trap)) answer is = subst (EndsSo (Err (errors.Trapped trap))) (sym is) refl
ends_so stored (Err errors.NotStore) answer is = subst (EndsSo (Err errors.NotStore)) (sym is) tt
ends_so stored (Err (errors.Damaged page)) answer is = subst (EndsSo (Err (errors.Damaged page))) (sym is) tt
ends_so stored (Err errors.SchemaDiffers) answer (inl is) = subst (EndsSo (Err errors.SchemaDiffers)) (sym is) tt
ends_so stored (Err errors.SchemaDiffers) answer (inr is) = subst (EndsSo (Err errors.SchemaDiffers)) (sym is) tt
ends_so stored (Err errors.DiskFault) answer is = subst (EndsSo (Err errors.DiskFault)) (sym is) tt
ends_so stored (Err errors.OutFault) answer is = subst (EndsSo (Err errors.OutFault)) (sym is) tt
ends_so stored (Err errors.Memory) answer is = subst (EndsSo (Err errors.Memory)) (sym is) tt

-- what holds where it is done
on_ok : {A : Type 0} (result : Result (Unit {0}) StopErr) → IsOk result → OnOk result A → A
on_ok (Ok _) ok holds = holds
on_ok (Err why) ok holds = absurd (cc)

-- a run over a bound database leaves the input
whole_left : (stored : StoredProgram) (database bound : List Bound) (input : List ℕ) → Binds stored.relation database bound →
    (whole_run stored bound input).left ≡ input
whole_left stored database bound input binds =
    let there = bound-is_there stored.relation database bound binds in
    ap (λ (outcome : Outcome). outcome.left) (whole-comes_to stored bound input there.0 there.1)

-- ---- the run over the store of a name

module _ (store : List ℕ) (stored : StoredProgram) (work : Work) (mid : History) (counts_mid : Counts) (result : Result (Unit {0}) StopErr) (answer : Status)
    (mount : IsTrue work.tells → mid ≡ more work.before (Mounted store ∷ []))
    (disk_same : counts_mid.disk_faults ≡ work.counts_before.disk_faults) (say_same : counts_mid.say_faults ≡ work.counts_before.say_faults)
    (source : work.shelf_faults_after ≡ work.shelf_faults_before)
    (run : RanMounted stored work.tells mid work.after counts_mid work.counts_after result) (is : TellsOfRun stored result answer) where
  -- the mounted store is the one of that name
  disk : IsTrue work.tells → (now mid).disk ≡ store_before store work
  disk told = mounted_disk store work.before mid (mount told)

  said : IsTrue work.tells → (now mid).said ≡ (now work.before).said
  said told = mounted_said store work.before mid (mount told)

  input : IsTrue work.tells → (now mid).input ≡ (now work.before).input
  input told = mounted_input store work.before mid (mount told)

  abbrev ReadsBefore : List Bound → Type 0
  ReadsBefore database = stands (store_before store work).log.now (store_before store work).pages.now ≡ Some database

  reads_here : IsTrue work.tells → (database : List Bound) → ReadsBefore database → ran.ReadsAs database (now mid)
  reads_here told database reads = subst (λ (d : Store). stands d.log.now d.pages.now ≡ Some database) (sym (disk told)) reads

  reads_there : IsTrue work.tells → (database : List Bound) → ran.ReadsAs database (now mid) → ReadsBefore database
  reads_there told database reads = subst (λ (d : Store). stands d.log.now d.pages.now ≡ Some database) (disk told) reads

  stands_here : IsTrue work.tells → (database bound : List Bound) → StoodFor (run_of store stored database bound) (now work.before) →
      StandsFor database (now mid)
  stands_here told database bound stood log pages log_left pages_left =
      stood log pages (subst (λ (d : Store). IsImage d.log log) (disk told) log_left) (subst (λ (d : Store). IsImage d.pages pages) (disk told) pages_left)

  -- a state since then
  since : IsTrue work.tells → (s : State) → s ≡ record (now mid) { disk = s.disk; said = s.said } → SinceMounted store (now work.before) s
  since told s others = since_mounted store work.before mid (mount told) s others

  -- what is claimed of the mounted store is claimed of the one of that name
  at_name : IsTrue work.tells → (P : Option (List Bound) → List ℕ → Type 0) (s : State) → s ≡ record (now mid) { disk = s.disk; said = s.said } →
      ((log pages : List ℕ) → IsImage s.disk.log log → IsImage s.disk.pages pages → P (stands log pages) s.said) → Leaves (Some store) P s
  at_name told P s others holds = λ log pages log_left pages_left.
      let there = stands_there store (now work.before) s (since told s others) in
      holds log pages (subst (λ (d : Store). IsImage d.log log) there log_left) (subst (λ (d : Store). IsImage d.pages pages) there pages_left)

  -- ---- the answer

  -- what is run was run over this
  module _ (database bound : List Bound) (reads : IsTrue work.tells → ran.ReadsAs database (now mid)) (binds : Binds stored.relation database bound) where
    pub passes : (over_store store stored).passes work (run_of store stored database bound)
    passes = passes_over store stored work database bound (λ told. reads_there told database (reads told)) binds

  ends_with : (standing : Standing) (a : Status) → IsToldBy standing a → ran.HasRun stored standing work.tells mid work.after →
      (over_store store stored >>= ended).passes work a
  ends_with standing a told_by has = (
    run_of store stored has.database has.bound,
    passes has.database has.bound has.stood has.binds,
    record {
      input = (now mid).input;
      told = input;
      turns = turns_of stored;
      ends = subst (λ (s : Standing). IsToldBy s a) (sym has.ends) told_by;
    },
  )

  -- a run whose output failed was over a database that is bound
  record IsOver : Type 0 where
    database : List Bound
    bound : List Bound
    reads : IsTrue work.tells → ran.ReadsAs database (now mid)
    binds : Binds stored.relation database bound

  over_bound : result ≡ Err errors.OutFault → IsOver
  over_bound e = by_telling work.tells refl
    where
      no_other : (result ≡ Err errors.SchemaDiffers) ⊎ ((result ≡ Err errors.DiskFault) ⊎ (result ≡ Err errors.Memory)) → ⊥
      no_other (inl is) = cc (e, is)
      no_other (inr (inl is)) = cc (e, is)
      no_other (inr (inr is)) = cc (e, is)

      no_damage : (result ≡ Err (errors.Damaged 0)) ⊎ ((result ≡ Err errors.DiskFault) ⊎ (result ≡ Err errors.Memory)) → ⊥
      no_damage (inl is) = cc (e, is)
      no_damage (inr (inl is)) = cc (e, is)
      no_damage (inr (inr is)) = cc (e, is)

      no_two : (result ≡ Err errors.NotStore) ⊎ (result ≡ Err errors.DiskFault) → ⊥
      no_two (inl is) = cc (e, is)
      no_two (inr is) = cc (e, is)

      by_bound : IsTrue work.tells → (database : List Bound) → ran.ReadsAs database (now mid) → (found : Option (List Bound)) →
          bound_to stored.relation database ≡ found → IsOver
      by_bound told database reads (Some bound) binds = record { database = database; bound = bound; reads = λ tells. reads; binds = binds }
      by_bound told database reads None differs =
          absurd (no_other (run.differs_where told database reads differs))

      by_head : IsTrue work.tells → stands (now mid).disk.log.now (now mid).disk.pages.now ≡ None → (test : Bool) →
          bytes_eq (take 16 (now mid).disk.log.now) open_head ≡ test → IsOver
      by_head told none true same =
          absurd (no_damage (run.damaged_where told ((bytes_eq-Decides (take 16 (now mid).disk.log.now) open_head).0 same) none))
      by_head told none false differs =
          absurd (no_two (run.not_store_where told (λ head. cc (differs, (bytes_eq-Decides (take 16 (now mid).disk.log.now) open_head).1 head))))

      by_stand : IsTrue work.tells → (found : Option (List Bound)) → stands (now mid).disk.log.now (now mid).disk.pages.now ≡ found → IsOver
      by_stand told (Some database) reads = by_bound told database reads (bound_to stored.relation database) refl
      by_stand told None none = by_head told none (bytes_eq (take 16 (now mid).disk.log.now) open_head) refl

      by_telling : (tells : Bool) → work.tells ≡ tells → IsOver
      by_telling true told = by_stand told (stands (now mid).disk.log.now (now mid).disk.pages.now) refl
      by_telling false untold = record {
        database = [];
        bound = empty_bound stored.relation ∷ [];
        reads = λ told. absurd (cc (untold, told));
        binds = refl;
      }

  abbrev IsAnswer : Status → Type 0
  IsAnswer answered = MayAnswer (over_store store stored >>= ended) work answered

  due : (r : Result (Unit {0}) StopErr) → result ≡ r → TellsOfRun stored r answer → IsAnswer answer
  due (Ok done) e told =
      subst IsAnswer (sym told) (inl (inr (ends_with Ended status.Done refl
      (on_ok (Ok done) refl (subst (λ (r : Result (Unit {0}) StopErr). OnOk r (ran.HasRun stored Ended work.tells mid work.after)) e run.ended)))))
  due (Err (errors.Trapped trap)) e told =
      subst IsAnswer (sym told) (inl (inr (ends_with (Trapped trap) (status.Trapped trap.kind trap.place) refl (run.trapped trap e))))
  due (Err errors.NotStore) e told =
      subst IsAnswer (sym told) (inl (inl (inl (inl (λ tells.
      subst (λ (d : Store). HasHead d.log.now → ⊥) (disk tells) (run.not_store tells e))))))
  due (Err (errors.Damaged page)) e told =
      subst IsAnswer (sym told) (inl (inl (inl (inl (λ tells. let found = run.damaged tells page e in record {
        head = subst (λ (d : Store). HasHead d.log.now) (disk tells) found.1;
        none = subst (λ (d : Store). stands d.log.now d.pages.now ≡ None) (disk tells) found.2;
        first = found.0;
      })))))
  due (Err errors.SchemaDiffers) e (inl told) =
      let other = run.differs e in
      subst IsAnswer (sym told) (inl (inl (inl (inr (
        other.database,
        (λ tells. reads_there tells other.database (other.stood tells)),
        inl (inl (refl, other.differs)),
      )))))
  due (Err errors.SchemaDiffers) e (inr told) = inr (inr told)
  due (Err errors.DiskFault) e told =
      subst IsAnswer (sym told) (inr (inl (inl (inl (subst (λ (n : ℕ). Rose n work.counts_after.disk_faults) disk_same (run.disk_fault e))))))
  due (Err errors.OutFault) e told =
      let over = over_bound e in
      subst IsAnswer (sym told) (inr (inl (inr (
        run_of store stored over.database over.bound,
        passes over.database over.bound over.reads over.binds,
        inl (subst (λ (n : ℕ). Rose n work.counts_after.say_faults) say_same (run.out_fault e)),
      ))))
  due (Err errors.Memory) e told = inr (inr told)

  printed_well : (answer ≡ status.OutFault) ⊎ (work.counts_after.say_faults ≡ work.counts_before.say_faults)
  printed_well = by_result run.out_fault_where
    where
      by_result : (result ≡ Err errors.OutFault) ⊎ (work.counts_after.say_faults ≡ counts_mid.say_faults) →
          (answer ≡ status.OutFault) ⊎ (work.counts_after.say_faults ≡ work.counts_before.say_faults)
      by_result (inl e) = inl (subst (λ r. TellsOfRun stored r answer) e is)
      by_result (inr fine) = inr (fine ∙ say_same)

  disk_well : (answer ≡ status.DiskFault) ⊎ (work.counts_after.disk_faults ≡ work.counts_before.disk_faults)
  disk_well = by_result run.disk_fault_where
    where
      by_result : (result ≡ Err errors.DiskFault) ⊎ (work.counts_after.disk_faults ≡ counts_mid.disk_faults) →
          (answer ≡ status.DiskFault) ⊎ (work.counts_after.disk_faults ≡ work.counts_before.disk_faults)
      by_result (inl e) = inl (subst (λ r. TellsOfRun stored r answer) e is)
      by_result (inr fine) = inr (fine ∙ disk_same)

  -- ---- each moment

  -- the events over the input before
  prefix : IsTrue work.tells → (bound : List Bound) (events rest : List Event) → events_of stored bound (now mid).input ≡ events ++ rest →
      events_of stored bound (now work.before).input ≡ events ++ rest
  prefix told bound events rest is = ap (λ (i : List ℕ). events_of stored bound i) (sym (input told)) ∙ is

  has_made : IsTrue work.tells → (database bound : List Bound) (events : List Event) (found : Option (List Bound)) (bytes : List ℕ) →
      bytes ≡ (now mid).said ++ prints events → found ≡ Some (last events database) →
      WereMade (run_of store stored database bound) (now work.before) events found bytes
  has_made told database bound events found bytes printed is = record {
    printed = printed ∙ ap (λ (before : List ℕ). before ++ prints events) (said told);
    stored = is;
  }

  tied_run_of : IsTrue work.tells → (database bound : List Bound) → Binds stored.relation database bound →
      StoodFor (run_of store stored database bound) (now work.before) →
      EachMoment (Leaves (Some store) (IsTied (run_of store stored database bound) (now work.before))) work.before work.after
  tied_run_of told database bound binds stood =
      moments_mounted store work.before mid (mount told) (Leaves (Some store) (IsTied (run_of store stored database bound) (now work.before))) work.after
      (tied_here (run_of store stored database bound) (now work.before) stood)
      (moments_weaken (LeavesTied (events_of stored bound (now mid).input) database (now mid)) _ mid work.after
      (λ s tied. at_name told (IsTied (run_of store stored database bound) (now work.before)) s tied.others (λ log pages log_left pages_left.
      let of = tied.left log pages log_left pages_left in
      record {
        made = of.made;
        may = (turns_of stored, (of.rest, prefix told bound of.made of.rest of.prefix));
        has = has_made told database bound of.made (stands log pages) s.said of.printed of.stored;
      }))
      (run.headline told database bound (stands_here told database bound stood) binds))

  -- what a moment is asked about
  record IsAsked : Type 0 where
    asked : Run
    told : IsTold work
    passes_with : (over_store store stored).passes work asked
    stood : StoodFor asked (now work.before)

  tied_for : (x : IsAsked) → EachMoment (Leaves x.asked.store (IsTied x.asked (now work.before))) work.before work.after
  tied_for x =
      let found = found_over store stored work x.asked x.passes_with in
      subst (λ (r : Run). EachMoment (Leaves r.store (IsTied r (now work.before))) work.before work.after) (sym found.is)
      (tied_run_of x.told.world found.database found.bound found.binds (subst (λ (r : Run). StoodFor r (now work.before)) found.is x.stood))

  untouched : IsTrue work.tells → (s : State) → LeavesOld (now mid) s → IsUntouched (now work.before) s
  untouched told s left =
      untouched_there store (now work.before) s (since told s (only_disk (now mid) s left.others))
      (ap (λ (t : State). t.said) left.others ∙ said told)
      (λ bytes image. subst (λ (d : Store). IsImage d.log bytes) (disk told) (left.log bytes image))
      (λ bytes image. subst (λ (d : Store). IsImage d.pages bytes) (disk told) (left.pages bytes image))

  idle_moments : IsTrue work.tells → EachMoment (LeavesOld (now mid)) mid work.after →
      EachMoment (IsUntouched (now work.before)) work.before work.after
  idle_moments told old =
      moments_mounted store work.before mid (mount told) (IsUntouched (now work.before)) work.after (untouched_here (now work.before))
      (moments_weaken (LeavesOld (now mid)) (IsUntouched (now work.before)) mid work.after (untouched told) old)

  idle_for : IsTrue work.tells → RunsNothing (over_store store stored) work ⊎ IsTrue (is_refusal answer) →
      EachMoment (IsUntouched (now work.before)) work.before work.after
  idle_for told (inl none) =
      idle_moments told (run.unbound told (λ database bound reads binds.
      none (run_of store stored database bound) (passes database bound (λ tells. reads) binds)))
  idle_for told (inr refuses) = idle_moments told (on_refusal stored result answer is refuses (run.refused told))

  same_input : IsTrue work.tells → (s : State) → ChangesStore (now mid) s → s.input ≡ (now work.before).input
  same_input told s changes = ap (λ (t : State). t.input) changes.others ∙ input told

  inputs : IsTrue work.tells → EachMoment (λ s. s.input ≡ (now work.before).input) work.before work.after
  inputs told =
      moments_mounted store work.before mid (mount told) (λ s. s.input ≡ (now work.before).input) work.after refl
      (moments_weaken (ChangesStore (now mid)) (λ s. s.input ≡ (now work.before).input) mid work.after (same_input told) (run.only told))

  abbrev IsTiedNow : State → Type 0
  IsTiedNow s = (x : IsAsked) → Leaves x.asked.store (IsTied x.asked (now work.before)) s

  abbrev IsIdle : State → Type 0
  IsIdle s = RunsNothing (over_store store stored) work ⊎ IsTrue (is_refusal answer) → IsUntouched (now work.before) s

  abbrev HasSameInput : State → Type 0
  HasSameInput s = s.input ≡ (now work.before).input

  may_run : (s : State) → IsTiedNow s × (IsIdle s × HasSameInput s) → MayRun (over_store store stored) work answer s
  may_run s holds = record {
    tied = λ also asked passes_with stood.
        holds.0 (record { asked = asked; told = also; passes_with = passes_with; stood = stood });
    idle = λ why. holds.1.0 why;
    input = holds.1.1;
  }

  moments : IsTrue work.tells → EachMoment (MayRun (over_store store stored) work answer) work.before work.after
  moments told =
      let tied = moments_all (λ (x : IsAsked) (s : State). Leaves x.asked.store (IsTied x.asked (now work.before)) s) HasSameInput
      work.before work.after (inputs told) tied_for in
      let idle = moments_all (λ (why : RunsNothing (over_store store stored) work ⊎ IsTrue (is_refusal answer)) (s : State). IsUntouched (now work.before) s)
      HasSameInput work.before work.after (inputs told) (idle_for told) in
      moments_weaken (λ s. IsTiedNow s × (IsIdle s × HasSameInput s)) (MayRun (over_store store stored) work answer) work.before work.after may_run
      (moments_both IsTiedNow (λ s. IsIdle s × HasSameInput s) work.before work.after tied
      (moments_both IsIdle HasSameInput work.before work.after idle (inputs told)))

  only : IsTrue work.tells → EachMoment (LeavesAlone ((over_store store stored >>= ended).mounts work) (now work.before)) work.before work.after
  only told =
      moments_mounted store work.before mid (mount told) (LeavesAlone ((over_store store stored >>= ended).mounts work) (now work.before))
      work.after (alone_here ((over_store store stored >>= ended).mounts work) (now work.before))
      (moments_weaken (ChangesStore (now mid)) _ mid work.after
      (λ s changes. alone_there store (now work.before) s (since told s changes.others) ((over_store store stored >>= ended).mounts work)
      (inl (inl refl)) (subst (λ (d : Store). IsSynced d.pages s.disk.pages) (disk told) changes.pages))
      (run.only told))

  -- ---- the end

  changes : IsTrue work.tells → ChangesStore (now mid) (now work.after)
  changes told = moments_last (ChangesStore (now mid)) mid work.after (run.only told)

  -- how the meaning over the store's database stands
  stands_so : IsTrue work.tells → (database bound : List Bound) → ran.ReadsAs database (now mid) → Binds stored.relation database bound →
      (standing : Standing) → ran.HasRun stored standing work.tells mid work.after → (whole_run stored bound (now work.before).input).stands ≡ standing
  stands_so told database bound reads binds standing has =
      let both : Some has.database ≡ Some database = sym (has.stood told) ∙ reads in
      let same : has.database ≡ database = cc (both) in
      let also = subst (λ (d : List Bound). Binds stored.relation d has.bound) same has.binds in
      ap (λ (b : List Bound). (whole_run stored b (now work.before).input).stands) (binds-one stored.relation database bound has.bound binds also)
      ∙ (ap (λ (i : List ℕ). (whole_run stored has.bound i).stands) (sym (input told)) ∙ has.ends)

  whole_of : IsTrue work.tells → (database bound : List Bound) → ran.ReadsAs database (now mid) → Binds stored.relation database bound →
      (standing : Standing) (a : Status) → IsToldBy standing a → ran.HasRun stored standing work.tells mid work.after →
      made.HasMade (events_of stored bound (now mid).input) database (now mid) (now work.after) →
      Leaves (Some store) (IsWhole (run_of store stored database bound) (now work.before) a (now work.after).input) (now work.after)
  whole_of told database bound reads binds standing a told_by has all =
      at_name told (IsWhole (run_of store stored database bound) (now work.before) a (now work.after).input) (now work.after) (changes told).others
      (λ log pages log_left pages_left. record {
        turns = turns_of stored;
        ends = subst (λ (s : Standing). IsToldBy s a) (sym (stands_so told database bound reads binds standing has)) told_by;
        has = subst (λ (i : List ℕ). WereMade (run_of store stored database bound) (now work.before) (events_of stored bound i) (stands log pages) (now work.after).said)
            (input told)
            (has_made told database bound (events_of stored bound (now mid).input) (stands log pages) (now work.after).said all.printed
            (all.stored log pages log_left pages_left));
        left_is = same_input told (now work.after) (changes told) ∙ sym (whole_left stored database bound (now work.before).input binds);
      })

  whole : IsTrue work.tells → (database bound : List Bound) → ran.ReadsAs database (now mid) → Binds stored.relation database bound →
      (a : Status) → answer ≡ a → TellsOfEnd a →
      Leaves (Some store) (IsWhole (run_of store stored database bound) (now work.before) a (now work.after).input) (now work.after)
  whole told database bound reads binds status.Done e ends =
      let ok : IsOk result = subst (EndsSo result) e (ends_so stored result answer is) in
      whole_of told database bound reads binds Ended status.Done refl (on_ok result ok run.ended)
      (on_ok result ok (run.whole told database bound reads binds))
  whole told database bound reads binds (status.Trapped kind place) e ends =
      let trap : Trap = record { kind = kind; place = place } in
      let err : result ≡ Err (errors.Trapped trap) = subst (EndsSo result) e (ends_so stored result answer is) in
      whole_of told database bound reads binds (Trapped trap) (status.Trapped kind place) refl (run.trapped trap err)
      (run.whole_trapped told database bound reads binds trap err)
  whole told database bound reads binds _ e ends = absurd ends

  some_made : IsTrue work.tells → (database bound : List Bound) → Binds stored.relation database bound →
      StoodFor (run_of store stored database bound) (now work.before) → answer ≢ status.DiskFault →
      SomeWereMade (run_of store stored database bound) (now work.before) (now work.after)
  some_made told database bound binds stood fine =
      let some = run.at_rest told database bound (stands_here told database bound stood) binds
      (λ e. fine (subst (λ (r : Result (Unit {0}) StopErr). TellsOfRun stored r answer) e is)) in
      record {
        made = some.made;
        may = (turns_of stored, (some.rest, prefix told bound some.made some.rest some.prefix));
        left = at_name told (WereMade (run_of store stored database bound) (now work.before) some.made) (now work.after) (changes told).others
            (λ log pages log_left pages_left.
            has_made told database bound some.made (stands log pages) (now work.after).said some.has.printed
            (some.has.stored log pages log_left pages_left));
      }

  synced_pages : IsTrue work.tells → (a : Status) → EndsSo result a → TellsOfEnd a →
      (now work.after).disk.pages ≡ settled (now mid).disk.pages.now
  synced_pages told status.Done ok ends = on_ok result ok (run.pages told)
  synced_pages told (status.Trapped kind place) e ends = run.pages_trapped told (record { kind = kind; place = place }) e
  synced_pages told _ so ends = absurd ends

  pages : IsTrue work.tells → TellsOfEnd answer → (store_of (now work.after) store).pages ≡ settled (store_before store work).pages.now
  pages told ends =
      ap (λ (d : Store). d.pages) (stands_there store (now work.before) (now work.after) (since told (now work.after) (changes told).others))
      ∙ (synced_pages told answer (ends_so stored result answer is) ends ∙ ap (λ (d : Store). settled d.pages.now) (disk told))

  refused_settled : IsTrue work.tells → (over_store store stored).refuses work answer → store_of (now work.after) store ≡ made_sure (store_before store work)
  refused_settled told refuses =
      stands_there store (now work.before) (now work.after) (since told (now work.after) (changes told).others)
      ∙ (on_refusal stored result answer is (refusal_kind answer ((over_kinds store stored).refuses work answer refuses)) (run.settled told)
      ∙ ap (λ (d : Store). settled_store d.log.now d.pages.now) (disk told))

  ends : IsTrue work.tells → EndsRun (over_store store stored) work answer (now work.after)
  ends tells = record {
    whole = λ told asked passes_with of_end.
        let found = found_over store stored work asked passes_with in
        subst (λ (r : Run). Leaves r.store (IsWhole r (now work.before) answer (now work.after).input) (now work.after)) (sym found.is)
        (whole told.world found.database found.bound (reads_here told.world found.database (found.reads told.world)) found.binds answer refl of_end);
    at_rest = λ told asked passes_with stood fine.
        let found = found_over store stored work asked passes_with in
        subst (λ (r : Run). SomeWereMade r (now work.before) (now work.after)) (sym found.is)
        (some_made told.world found.database found.bound found.binds (subst (λ (r : Run). StoodFor r (now work.before)) found.is stood) fine);
    pages = λ told of_end name mounts.
        subst (λ (n : List ℕ). (store_of (now work.after) n).pages ≡ settled (store_before n work).pages.now)
        (sym (over_mounts store stored work name mounts)) (pages told.world of_end);
    settled = λ told refuses name mounts.
        subst (λ (n : List ℕ). store_of (now work.after) n ≡ made_sure (store_before n work)) (sym (over_mounts store stored work name mounts))
        (refused_settled told.world refuses);
  }

  pub ran_over : Answered (running (over_store store stored)) work answer
  ran_over = record { answers = due result refl is; moments = moments; end = ends; only = only; prints = printed_well; disk = disk_well; source = inr source }

-- nothing was noted since before the store was mounted
pub ran_unnoted : (mid after : History) → EachMoment (ChangesStore (now mid)) mid after → (name : List ℕ) (before : History) →
    mid ≡ more before (Mounted name ∷ []) → (now after).noted ≡ (now before).noted
ran_unnoted mid after only name before mount =
    ap (λ (t : State). t.noted) (moments_last (ChangesStore (now mid)) mid after only).others
    ∙ ap (λ (t : State). t.noted) (mounted_state name before mid mount)
