-- Runs that change nothing but the log.
use Rattle.std.proofs.Common.{◌≡◌, ℕ, inl, inr, List, [], ◌∷◌, refl, sym, ap, subst, ◌∙◌}
use Rattle.dbpl_world.specs.declared.part.Part.TheVariants.{Log, Pages}
use Rattle.dbpl_world.specs.Images.{PartState, settled, after_write, after_failed_write}
use Rattle.dbpl_world.specs.History.{State, Event, Wrote, Smeared, Synced, step, History, more, now}
use Rattle.dbpl_world.specs.Moments.{EachMoment}
use Rattle.dbpl_world.specs.Writing.{IsWriting}
use Rattle.dbpl_world.proofs.Moments.{HasSmeared, moments_start, moments_then, moments_weaken, moments_last}
use Rattle.dbpl_world.proofs.Replays.{now-more}
use Rattle.dbpl_log.specs.Changes.{IsSynced, ChangesLog, WritesLog, OnlySyncs}

-- one event more
on : (Q : State → Type 0) (old mid new : History) (event : Event) → EachMoment Q old mid → new ≡ more mid (event ∷ []) → ((s : State) → Q s → Q (step s event)) → EachMoment Q old new
on Q old mid new event run is keeps =
    let here : Q (now mid) = moments_last Q old mid run in
    moments_then Q old mid new run (record { events = event ∷ []; is = is; each = (here, keeps (now mid) here) })

log_set : (old s : State) (log : PartState) → ChangesLog old s → ChangesLog old (record s { disk = record s.disk { log = log } })
log_set old s log same = ap (λ (t : State). record t { disk = record t.disk { log = log } }) same

changes_since : (old mid s : State) → ChangesLog old mid → ChangesLog mid s → ChangesLog old s
changes_since old mid s first second = second ∙ log_set old mid s.disk.log first

module _ (h0 : History) where
  abbrev Only : History → Type 0
  Only h = EachMoment (ChangesLog (now h0)) h0 h

  pub only_start : Only h0
  only_start = moments_start (ChangesLog (now h0)) h0 refl

  pub only_same : (h1 h2 : History) → Only h1 → h2 ≡ h1 → Only h2
  only_same h1 h2 run same = subst Only (sym same) run

  pub only_wrote : (h1 h2 : History) (at : ℕ) (bytes : List ℕ) → Only h1 → h2 ≡ more h1 (Wrote Log at bytes ∷ []) → Only h2
  only_wrote h1 h2 at bytes run is = on (ChangesLog (now h0)) h0 h1 h2 (Wrote Log at bytes) run is (λ s same. log_set (now h0) s (after_write at bytes s.disk.log) same)

  pub only_synced : (h1 h2 : History) → Only h1 → h2 ≡ more h1 (Synced Log ∷ []) → Only h2
  only_synced h1 h2 run is = on (ChangesLog (now h0)) h0 h1 h2 (Synced Log) run is (λ s same. log_set (now h0) s (settled s.disk.log.now) same)

  pub only_failed : (h1 h2 : History) (at n : ℕ) → Only h1 → HasSmeared Log at n h1 h2 → Only h2
  only_failed h1 h2 at n run (inl same) = only_same h1 h2 run same
  only_failed h1 h2 at n run (inr smeared) =
      on (ChangesLog (now h0)) h0 h1 h2 (Smeared Log at n smeared.0) run smeared.2 (λ s same. log_set (now h0) s (after_failed_write at n smeared.0 s.disk.log) same)

  pub only_writing : (h1 h2 : History) (at : ℕ) (bytes : List ℕ) → Only h1 → EachMoment (IsWriting Log at bytes (now h1)) h1 h2 → Only h2
  only_writing h1 h2 at bytes run writing =
      let there : ChangesLog (now h0) (now h1) = moments_last (ChangesLog (now h0)) h0 h1 run in
      moments_then (ChangesLog (now h0)) h0 h1 h2 run (moments_weaken (IsWriting Log at bytes (now h1)) (ChangesLog (now h0)) h1 h2 (λ s one. changes_since (now h0) (now h1) s there one.others) writing)

-- Both parts were synced first.

writes_since : (old mid s : State) → WritesLog old mid → ChangesLog mid s → WritesLog old s
writes_since old mid s first second =
    let same : s.disk.pages ≡ mid.disk.pages = ap (λ (t : State). t.disk.pages) second in
    record {
      pages = by_part same first.pages;
      others = second ∙ ap (λ (t : State). record t { disk = record mid.disk { log = s.disk.log } }) first.others ∙ ap (λ disk. record old { disk = disk }) (sym (ap (λ (t : State). t.disk) second));
    }
  where
    by_part : s.disk.pages ≡ mid.disk.pages → IsSynced old.disk.pages mid.disk.pages → IsSynced old.disk.pages s.disk.pages
    by_part same (inl kept) = inl (same ∙ kept)
    by_part same (inr synced) = inr (same ∙ synced)

as_writes : (old s : State) → OnlySyncs old s → WritesLog old s
as_writes old s only = record { pages = only.pages; others = only.others }

pub writes_synced : (h0 h1 : History) → EachMoment (OnlySyncs (now h0)) h0 h1 → EachMoment (WritesLog (now h0)) h0 h1
writes_synced h0 h1 run = moments_weaken (OnlySyncs (now h0)) (WritesLog (now h0)) h0 h1 (as_writes (now h0)) run

module _ (h0 h1 h2 : History) (run : EachMoment (OnlySyncs (now h0)) h0 h1) (same : h2 ≡ h1) where
  pub writes_same : EachMoment (WritesLog (now h0)) h0 h2
  writes_same = subst (λ h. EachMoment (WritesLog (now h0)) h0 h) (sym same) (writes_synced h0 h1 run)

  pub writes_then : (h3 : History) → EachMoment (ChangesLog (now h2)) h2 h3 → EachMoment (WritesLog (now h0)) h0 h3
  writes_then h3 only =
      let there : WritesLog (now h0) (now h2) = moments_last (WritesLog (now h0)) h0 h2 writes_same in
      moments_then (WritesLog (now h0)) h0 h2 h3 writes_same (moments_weaken (ChangesLog (now h2)) (WritesLog (now h0)) h2 h3 (λ s one. writes_since (now h0) (now h2) s there one) only)

pub pages_synced : (h0 h1 h2 h3 : History) → h1 ≡ more h0 (Synced Log ∷ Synced Pages ∷ []) → h2 ≡ h1 → EachMoment (ChangesLog (now h2)) h2 h3 → (now h3).disk.pages ≡ settled (now h0).disk.pages.now
pages_synced h0 h1 h2 h3 synced same only =
    ap (λ (s : State). s.disk.pages) (moments_last (ChangesLog (now h2)) h2 h3 only) ∙ ap (λ h. (now h).disk.pages) (same ∙ synced) ∙ ap (λ (s : State). s.disk.pages) (now-more h0 (Synced Log ∷ Synced Pages ∷ []))
