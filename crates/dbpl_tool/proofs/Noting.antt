-- The report behind the work.
use Rattle.std.proofs.Common.{◌≡◌, ◌∙◌, ◌≤◌, ℕ, List, [], ◌++◌, Bool, IsTrue, OnErr, OnOk, Ok, Err, Result, ap, false, inl, inr, map, refl, subst, sym, take, true}
use Rattle.dbpl_base.specs.Report.{report}
use Rattle.dbpl_base.specs.declared.status.Status.{Status}
use Rattle.dbpl_core.specs.Outcomes.{TellsOfEnd}
use Rattle.dbpl_promise.proofs.Headline.{headline, whole}
use Rattle.dbpl_promise.specs.Promises.{Answered}
use Rattle.dbpl_promise.specs.Runs.{IsTiedThroughout, IsWholeFromThen, Run, StoodFor}
use Rattle.dbpl_promise.specs.Work.{IsTold, Work}
use Rattle.dbpl_stored_run.specs.Leaving.{OnlyRunFaults}
use Rattle.dbpl_tool.proofs.Rows.{row_of}
use Rattle.dbpl_tool.specs.Commands.{IsReported, promise_of}
use Rattle.dbpl_tool.specs.Notes.{NotesReport, OnlyCommandFaults, Reports}
use Rattle.dbpl_words.specs.Asked.{Asked}
use Rattle.dbpl_world.proofs.Replays.{now-more, replay-noted}
use Rattle.dbpl_world.specs.Counts.{OnlyNoteFaults, Rose}
use Rattle.dbpl_world.specs.History.{History, Noted, State, more, now}
use Rattle.dbpl_world.specs.declared.counts.Counts.{Counts}
use Rattle.dbpl_world.specs.declared.failed.Failed.{Failed}

-- the work with its report noted behind it
abbrev pub reported : Work → History → Counts → Work
reported work after counts = record work { after = after; counts_after = counts }

-- what is known of the report that was noted
pub record Notes (work : Work) (after : History) (counts : Counts) (status : Status) : Type 0 where
  pub result : Result (Unit {0}) Failed
  pub did : OnlyRunFaults work.counts_before work.counts_after
  pub only : OnlyNoteFaults work.counts_after counts
  pub cause : OnErr result (Rose work.counts_after.note_faults counts.note_faults)
  pub ok : IsTrue work.tells → OnOk result (after ≡ more work.after (map Noted (report status)))
  pub err : IsTrue work.tells → OnErr result ((n : ℕ) × (after ≡ more work.after (map Noted (take n (report status)))))

-- the bytes that were noted
pub record IsNoted (work : Work) (after : History) (counts : Counts) (status : Status) : Type 0 where
  pub noted : List ℕ
  pub reports : Reports work.counts_after counts status noted
  pub behind : IsTrue work.tells → after ≡ more work.after (map Noted noted)

module _ (work : Work) (after : History) (counts : Counts) (status : Status) where
  noted_by : (tells : Bool) → work.tells ≡ tells → (result : Result (Unit {0}) Failed) →
      OnErr result (Rose work.counts_after.note_faults counts.note_faults) →
      (IsTrue work.tells → OnOk result (after ≡ more work.after (map Noted (report status)))) →
      (IsTrue work.tells → OnErr result ((n : ℕ) × (after ≡ more work.after (map Noted (take n (report status)))))) →
      IsNoted work after counts status
  noted_by tells telling (Ok done) cause all some = record { noted = report status; reports = inl refl; behind = all }
  noted_by true telling (Err why) cause all some =
      let front = some telling in
      record { noted = take front.0 (report status); reports = inr (front.0, refl, cause); behind = λ told. front.1 }
  noted_by false telling (Err why) cause all some =
      record { noted = []; reports = inr (0, refl, cause); behind = λ told. absurd (cc (telling, told)) }

  pub is_noted : Notes work after counts status → IsNoted work after counts status
  is_noted notes = noted_by work.tells refl notes.result notes.cause notes.ok notes.err

  -- no note failed while the work was done
  same_notes : OnlyRunFaults work.counts_before work.counts_after → work.counts_after.note_faults ≡ work.counts_before.note_faults
  same_notes did = ap (λ (c : Counts). c.note_faults) did.others

  reports_since : OnlyRunFaults work.counts_before work.counts_after → (noted : List ℕ) → Reports work.counts_after counts status noted →
      Reports work.counts_before counts status noted
  reports_since did noted (inl all) = inl all
  reports_since did noted (inr (count, is, rose)) = inr (count, is, subst (λ (n : ℕ). Rose n counts.note_faults) (same_notes did) rose)

  pub noted_since : Notes work after counts status → (IsTrue work.tells → (now work.after).noted ≡ (now work.before).noted) →
      NotesReport (reported work after counts) status
  noted_since notes same told =
      let is = is_noted notes in
      record {
        noted = is.noted;
        is = ap (λ (h : History). (now h).noted) (is.behind told)
            ∙ (ap (λ (s : State). s.noted) (now-more work.after (map Noted is.noted) ∙ replay-noted (now work.after) is.noted)
            ∙ ap (λ (noted : List ℕ). noted ++ is.noted) (same told));
        holds = reports_since notes.did is.noted is.reports;
      }

  -- where the work did nothing, only notes were made
  pub notes_alone : Notes work after counts status → work.after ≡ work.before → IsTrue work.tells →
      (bytes : List ℕ) × (after ≡ more work.before (map Noted bytes))
  notes_alone notes same told =
      let is = is_noted notes in (is.noted, is.behind told ∙ ap (λ (h : History). more h (map Noted is.noted)) same)

  pub all_counts : Notes work after counts status → OnlyCommandFaults work.counts_before counts
  all_counts notes = by_both work.counts_before work.counts_after counts notes.did notes.only
    where
      by_both : (old mid new : Counts) → OnlyRunFaults old mid → OnlyNoteFaults mid new → OnlyCommandFaults old new
      by_both old mid new did only =
          let say : mid.say_faults ≡ new.say_faults = sym (ap (λ (c : Counts). c.say_faults) only.others) in
          let disk : mid.disk_faults ≡ new.disk_faults = sym (ap (λ (c : Counts). c.disk_faults) only.others) in
          record {
            others = only.others ∙ ap (λ (c : Counts). record c { note_faults = new.note_faults }) did.others
                ∙ ap (λ (n : ℕ). record old { say_faults = n; note_faults = new.note_faults; disk_faults = mid.disk_faults }) say
                ∙ ap (λ (n : ℕ). record old { say_faults = new.say_faults; note_faults = new.note_faults; disk_faults = n }) disk;
            say_later = subst (λ (n : ℕ). old.say_faults ≤ n) say did.say_later;
            note_later = subst (λ (n : ℕ). n ≤ new.note_faults) (ap (λ (c : Counts). c.note_faults) did.others) only.later;
            disk_later = subst (λ (n : ℕ). old.disk_faults ≤ n) disk did.disk_later;
          }

  -- ---- what was promised, and the headline, with the report behind

  pub is_reported : (asked : Asked) → Answered (promise_of asked) work status → Notes work after counts status →
      IsReported (Answered (promise_of asked)) (reported work after counts) status
  is_reported asked did notes =
      let is = is_noted notes in
      record {
        between = work.after;
        counts_between = work.counts_after;
        noted = is.noted;
        did = did;
        reports = is.reports;
        counts = notes.only;
        behind = is.behind;
      }

  module _ (notes : Notes work after counts status) (told : IsTold work) (run : Run) (asked : Asked)
      (did : Answered (promise_of asked) work status)
      (runs : (promise_of asked).runs (reported work after counts) run) where
    -- what is run rests on nothing that came later
    this : (promise_of asked).runs work run
    this =
        (row_of asked).run_is.rests (reported work after counts) work run
        (record { files = refl; tells = refl; before = refl }) runs

    pub headline_of : StoodFor run (now work.before) → IsTiedThroughout run (reported work after counts)
    headline_of =
        let is = is_noted notes in
        headline (promise_of asked) (row_of asked) work status did told run this after counts is.noted
        (is.behind told.world)

    pub whole_of : TellsOfEnd status → IsWholeFromThen run (reported work after counts) status
    whole_of =
        let is = is_noted notes in
        whole (promise_of asked) (row_of asked) work status did told run this after counts is.noted
        (is.behind told.world)
