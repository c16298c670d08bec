-- What is possible while a store is made.
use Rattle.std.proofs.Common.{◌≡◌, ℕ, ◌<◌, ◌⊎◌, ◌↔◌, inl, inr, Bool, false, IsTrue, List, [], ◌∷◌, ◌++◌, length, drop, Some, Result, Err, refl, sym, ap, subst, ◌∙◌, arith, append_assoc, append-nil, length-append}
use Rattle.std.specs.Prelude.{slice_index}
use Rattle.std.proofs.lemmas.Bool.{cases_eq, true≢false}
use Rattle.std.proofs.lemmas.List.{length-take, length-drop, drop-drop}
use Rattle.dbpl_world.specs.declared.part.Part.TheVariants.{Log, Pages}
use Rattle.dbpl_world.specs.Images.{PartState, IsImage, written, settled, after_write}
use Rattle.dbpl_world.specs.History.{Store, settled_store, State, Wrote, Synced, History, more, now, AllReadAnImage}
use Rattle.dbpl_world.specs.Moments.{EachMoment}
use Rattle.dbpl_world.specs.Writing.{IsWriting}
use Rattle.dbpl_world.proofs.Torn.{settled_image, front_kept, one_torn, written-at_front}
use Rattle.dbpl_world.proofs.Moments.{moments_start}
use Rattle.dbpl_world.proofs.Replays.{now-more}
use Rattle.dbpl_log.specs.Records.{head_text, open_head, HasText, HasHead, records_of}
use Rattle.dbpl_log.specs.declared.create_err.CreateErr.{CreateErr}
use Rattle.dbpl_log.specs.declared.create_err.CreateErr.TheVariants as errors
use Rattle.dbpl_log.specs.Beginning.{HasSuch, MayBegin, IsBegun, IsForeign, IsFree, longest_unknown, begun}
use Rattle.dbpl_log.specs.Changes.{LeavesLog}
use Rattle.dbpl_log.specs.Rest.{HasOnly}
use Rattle.dbpl_log.proofs.RecordLaws.{length_text, holds_records}
use Rattle.dbpl_log.proofs.Leaving.{leaves_start, moments_leave_weaken, moments_leave_then, moments_writing}

-- Heads and texts.

gate_open : (byte : ℕ) (rest : List ℕ) → HasHead (byte ∷ rest) → byte ≡ 1
gate_open byte rest head = cc

text_there : (log : List ℕ) → HasHead log → HasText log
text_there [] head = absurd cc
text_there (byte ∷ rest) head = cc

no_short_text : (log : List ℕ) → length log < 16 → HasText log → ⊥
no_short_text log short text = omega (arith, short, ap length text, length-take 15 (drop 1 log), length-drop 1 log, length_text)

pub nothing_begins : (are_none : List (List ℕ) → Bool) → MayBegin are_none []
nothing_begins are_none = record { no_store = λ head. no_short_text [] (omega arith) (text_there [] head); harmless = inl (no_short_text [] (omega arith)) }

empty_opened : (rest : List ℕ) → records_of (1 ∷ (head_text ++ 0 ∷ rest)) ≡ Some []
empty_opened rest = holds_records (1 ∷ (head_text ++ 0 ∷ rest)) [] (record {
  front = open_head;
  gate = 0;
  rest = rest;
  is = refl;
  shut = λ same. omega (arith, same);
  whole = record { behind = []; is = sym (append-nil open_head); are_open = refl };
})

-- Whatever byte a torn write has left of the gate.
any_first : (are_none : List (List ℕ) → Bool) (byte : ℕ) (rest : List ℕ) → (HasText (byte ∷ rest) → ⊥) ⊎ HasSuch are_none (1 ∷ rest) → IsBegun are_none (byte ∷ rest)
any_first are_none byte rest harmless = by_gate harmless (cases_eq byte 1)
  where
    by_gate : (HasText (byte ∷ rest) → ⊥) ⊎ HasSuch are_none (1 ∷ rest) → (byte ≡ 1) ⊎ (byte ≡ 1 → ⊥) → IsBegun are_none (byte ∷ rest)
    by_gate (inl no_text) gate = inl (record { no_store = λ head. no_text (text_there (byte ∷ rest) head); harmless = inl no_text })
    by_gate (inr none) (inl one) = inr (subst (λ b. HasSuch are_none (b ∷ rest)) (sym one) none)
    by_gate (inr none) (inr shut) = inl (record { no_store = λ head. shut (gate_open byte rest head); harmless = inr (inr none) })

begun_zero : (are_none : List (List ℕ) → Bool) (left rest : List ℕ) → left ≡ 0 ∷ rest → IsBegun are_none left
begun_zero are_none left rest is = subst (IsBegun are_none) (sym is) (inl (record { no_store = λ head. omega (arith, gate_open 0 rest head); harmless = inr (inl refl) }))

-- The gate shut.

shut_torn : (are_none : List (List ℕ) → Bool) (log left : List ℕ) → MayBegin are_none log → (log ≡ 0 ∷ drop 1 log → ⊥) → IsImage (after_write 0 (0 ∷ []) (settled log)) left → IsBegun are_none left
shut_torn are_none [] left may unshut image =
    let no_text = no_short_text left (omega (arith, image.no_longer)) in
    inl (record { no_store = λ head. no_text (text_there left head); harmless = inl no_text })
shut_torn are_none (first ∷ rest) left may unshut image =
    let torn = one_torn (after_write 0 (0 ∷ []) (settled (first ∷ rest))) [] first rest left refl refl refl image in
    subst (IsBegun are_none) (sym torn.1) (any_first are_none torn.0 rest (by_cause may.harmless))
  where
    by_cause : (HasText (first ∷ rest) → ⊥) ⊎ ((slice_index (first ∷ rest) 0 ≡ 0) ⊎ HasSuch are_none (1 ∷ drop 1 (first ∷ rest))) → (HasText (first ∷ rest) → ⊥) ⊎ HasSuch are_none (1 ∷ rest)
    by_cause (inl no_text) = inl no_text
    by_cause (inr (inl shut)) = absurd (unshut (ap (λ b. b ∷ rest) shut))
    by_cause (inr (inr none)) = inr none

shut_bytes : (log : List ℕ) → written log 0 (0 ∷ []) ≡ 0 ∷ drop 1 log
shut_bytes log = refl

-- The text and the next gate, behind the shut gate.

text_torn : (are_none : List (List ℕ) → Bool) (rest left : List ℕ) (bytes : List ℕ) → IsImage (after_write 1 bytes (settled (0 ∷ rest))) left → IsBegun are_none left
text_torn are_none rest left bytes image = begun_zero are_none left (drop 1 left) (front_kept (after_write 1 bytes (settled (0 ∷ rest))) (0 ∷ []) rest left refl (omega arith, tt) image)

text_bytes : (log bytes : List ℕ) → bytes ≡ head_text ++ 0 ∷ [] → written (0 ∷ drop 1 log) 1 bytes ≡ 0 ∷ (head_text ++ 0 ∷ drop 17 log)
text_bytes log bytes bytes_are =
    let long : length bytes ≡ 16 = ap length bytes_are ∙ omega (arith, length-append head_text (0 ∷ []), length_text) in
    written-at_front (0 ∷ []) (drop 1 log) 1 bytes refl ∙ ap (λ n. 0 ∷ (bytes ++ drop n (drop 1 log))) long ∙ ap (λ b. 0 ∷ (b ++ drop 16 (drop 1 log))) bytes_are
    ∙ ap (λ b. 0 ∷ b) (append_assoc head_text (0 ∷ []) (drop 16 (drop 1 log))) ∙ ap (λ b. 0 ∷ (head_text ++ 0 ∷ b)) (drop-drop 16 1 log)

-- The gate opened.

open_torn : (are_none : List (List ℕ) → Bool) → IsTrue (are_none []) → (rest left : List ℕ) → IsImage (after_write 0 (1 ∷ []) (settled (0 ∷ (head_text ++ 0 ∷ rest)))) left → IsBegun are_none left
open_torn are_none none rest left image =
    let torn = one_torn (after_write 0 (1 ∷ []) (settled (0 ∷ (head_text ++ 0 ∷ rest)))) [] 0 (head_text ++ 0 ∷ rest) left refl refl refl image in
    subst (IsBegun are_none) (sym torn.1) (any_first are_none torn.0 (head_text ++ 0 ∷ rest) (inr ([], empty_opened rest, none)))

-- Moments.

pub still : (P : List ℕ → Type 0) (h0 h1 : History) → h1 ≡ h0 → ((left : List ℕ) → IsImage (now h0).disk.log left → P left) → EachMoment (LeavesLog P (now h0)) h0 h1
still P h0 h1 is holds = subst (λ h. EachMoment (LeavesLog P (now h0)) h0 h) (sym is) (moments_start (LeavesLog P (now h0)) h0 (leaves_start P (now h0) holds))

pub same_moments : (P : List ℕ → Type 0) (s : State) (h0 h1 h2 : History) → EachMoment (LeavesLog P s) h0 h1 → h2 ≡ h1 → EachMoment (LeavesLog P s) h0 h2
same_moments P s h0 h1 h2 run same = subst (λ h. EachMoment (LeavesLog P s) h0 h) (sym same) run

settled_begun : (are_none : List (List ℕ) → Bool) (log : List ℕ) (h : History) → (now h).disk.log ≡ settled log → MayBegin are_none log → (left : List ℕ) → IsImage (now h).disk.log left → IsBegun are_none left
settled_begun are_none log h part may left image = inl (subst (MayBegin are_none) (sym (settled_image log left (subst (λ p. IsImage p left) part image))) may)

pub not_shut : (are_none : List (List ℕ) → Bool) (log : List ℕ) (h0 h1 : History) → (now h0).disk.log ≡ settled log → MayBegin are_none log → h1 ≡ h0 → EachMoment (LeavesLog (IsBegun are_none) (now h0)) h0 h1
not_shut are_none log h0 h1 part may same = still (IsBegun are_none) h0 h1 same (settled_begun are_none log h0 part may)

pub unshut : (log read : List ℕ) (shut : Bool) → read ≡ log → IsTrue shut ↔ (read ≡ 0 ∷ drop 1 read) → shut ≡ false → log ≡ 0 ∷ drop 1 log → ⊥
unshut log read shut read_is tested shut_not is = true≢false (sym (tested.1 (subst (λ b. b ≡ 0 ∷ drop 1 b) (sym read_is) is)) ∙ shut_not)

pub shutting : (are_none : List (List ℕ) → Bool) (log : List ℕ) (h0 h1 h2 : History) → (now h0).disk.log ≡ settled log → MayBegin are_none log → h1 ≡ h0 → (log ≡ 0 ∷ drop 1 log → ⊥) → EachMoment (IsWriting Log 0 (0 ∷ []) (now h1)) h1 h2 → EachMoment (LeavesLog (IsBegun are_none) (now h0)) h0 h2
shutting are_none log h0 h1 h2 part may same unshut run =
    moments_writing (IsBegun are_none) 0 (0 ∷ []) h0 h2 (λ left image. shut_torn are_none log left may unshut (subst (λ p. IsImage (after_write 0 (0 ∷ []) p) left) part image)) (subst (λ h. EachMoment (IsWriting Log 0 (0 ∷ []) (now h)) h h2) same run)

written_part : (at : ℕ) (bytes old new : List ℕ) (h1 h2 : History) → (now h1).disk.log ≡ settled old → h2 ≡ more h1 (Wrote Log at bytes ∷ Synced Log ∷ []) → written old at bytes ≡ new → (now h2).disk.log ≡ settled new
written_part at bytes old new h1 h2 part synced becomes =
    ap (λ h. (now h).disk.log) synced ∙ ap (λ (s : State). s.disk.log) (now-more h1 (Wrote Log at bytes ∷ Synced Log ∷ [])) ∙ ap (λ (p : PartState). settled (written p.now at bytes)) part ∙ ap settled becomes

pub shut_part : (log : List ℕ) (h0 h1 h2 : History) → (now h0).disk.log ≡ settled log → h1 ≡ h0 → h2 ≡ more h1 (Wrote Log 0 (0 ∷ []) ∷ Synced Log ∷ []) → (now h2).disk.log ≡ settled (0 ∷ drop 1 log)
shut_part log h0 h1 h2 part same synced = written_part 0 (0 ∷ []) log (0 ∷ drop 1 log) h1 h2 (ap (λ h. (now h).disk.log) same ∙ part) synced (shut_bytes log)

-- Each refusal where it belongs.

pub exists_or_fault : (disk : Store) (e : CreateErr) → (e ≡ errors.Foreign → IsForeign disk) → HasHead disk.log.now → (e ≡ errors.Exists) ⊎ (e ≡ errors.Disk)
exists_or_fault disk errors.Exists foreign head = inl refl
exists_or_fault disk errors.Foreign foreign head = absurd ((foreign refl).no_store head)
exists_or_fault disk errors.Disk foreign head = inr refl

pub foreign_or_fault : (disk : Store) (e : CreateErr) → (e ≡ errors.Exists → HasHead disk.log.now) → IsForeign disk → (e ≡ errors.Foreign) ⊎ (e ≡ errors.Disk)
foreign_or_fault disk errors.Exists exists foreign = absurd (foreign.no_store (exists refl))
foreign_or_fault disk errors.Foreign exists foreign = inl refl
foreign_or_fault disk errors.Disk exists foreign = inr refl

pub not_both : (disk : Store) → IsFree disk → IsForeign disk → ⊥
not_both disk free foreign = by_part foreign.long
  where
    by_part : (longest_unknown < length disk.log.now) ⊎ (longest_unknown < length disk.pages.now) → ⊥
    by_part (inl long) = omega (arith, long, free.short_log)
    by_part (inr long) = omega (arith, long, free.short_pages)

-- the same of the answer
pub in_error : {T : Type 0} (e first second : CreateErr) → (e ≡ first) ⊎ (e ≡ second) → (◌≡◌ {A = Result T CreateErr} (Err e) (Err first)) ⊎ (◌≡◌ {A = Result T CreateErr} (Err e) (Err second))
in_error e first second (inl is) = inl (ap (λ (f : CreateErr). Err f) is)
in_error e first second (inr is) = inr (ap (λ (f : CreateErr). Err f) is)

pub begun1 : (are_none : List (List ℕ) → Bool) (h0 h1 : History) → ((left : List ℕ) → IsImage (now h0).disk.log left → MayBegin are_none left) → EachMoment (LeavesLog (IsImage (now h0).disk.log) (now h0)) h0 h1 → EachMoment (LeavesLog (IsBegun are_none) (now h0)) h0 h1
begun1 are_none h0 h1 premise kept = moments_leave_weaken (IsImage (now h0).disk.log) (IsBegun are_none) (now h0) h0 h1 (λ left image. inl (premise left image)) kept

-- All of a create. The log is synced, and refused or not: h2. Its gate is shut: h3. The text is there: h4. The gate is open: h5.
module _ (h0 h1 h2 : History) (reads : AllReadAnImage (now h0)) (synced : h1 ≡ more h0 (Synced Log ∷ Synced Pages ∷ [])) (same : h2 ≡ h1) where
  abbrev log : List ℕ
  log = (now h0).disk.log.now

  -- of which records count as none
  abbrev Premise : (List (List ℕ) → Bool) → Type 0
  Premise are_none = (left : List ℕ) → IsImage (now h0).disk.log left → MayBegin are_none left

  abbrev Kept : History → Type 0
  Kept h = EachMoment (LeavesLog (IsImage (now h0).disk.log) (now h0)) h0 h

  abbrev Begun : (List (List ℕ) → Bool) → History → Type 0
  Begun are_none h = EachMoment (LeavesLog (IsBegun are_none) (now h0)) h0 h

  disk1 : (now h1).disk ≡ settled_store (now h0).disk.log.now (now h0).disk.pages.now
  disk1 = ap (λ h. (now h).disk) synced ∙ ap (λ (s : State). s.disk) (now-more h0 (Synced Log ∷ Synced Pages ∷ []))

  pub part2 : (now h2).disk.log ≡ settled log
  part2 = ap (λ h. (now h).disk.log) (same ∙ synced) ∙ ap (λ (s : State). s.disk.log) (now-more h0 (Synced Log ∷ Synced Pages ∷ []))

  pub may_begin : (are_none : List (List ℕ) → Bool) → Premise are_none → MayBegin are_none log
  may_begin are_none premise = premise log reads.disk.log

  pub begun2 : (are_none : List (List ℕ) → Bool) → Premise are_none → Kept h1 → Begun are_none h2
  begun2 are_none premise kept = same_moments (IsBegun are_none) (now h0) h0 h1 h2 (begun1 are_none h0 h1 premise kept) same

  -- What was found after the sync stood there before it.

  pub head0 : HasHead (now h1).disk.log.now → HasHead log
  head0 head = subst (λ (d : Store). HasHead d.log.now) disk1 head

  pub foreign0 : IsForeign (now h1).disk → IsForeign (now h0).disk
  foreign0 foreign = let there = subst IsForeign disk1 foreign in record { no_store = there.no_store; long = there.long }

  pub free0 : IsFree (now h1).disk → IsFree (now h0).disk
  free0 free = let there = subst IsFree disk1 free in record { no_store = there.no_store; short_log = there.short_log; short_pages = there.short_pages }

  abbrev Shuts : (List (List ℕ) → Bool) → History → Type 0
  Shuts are_none h3 = (old : List ℕ) → (now h2).disk.log ≡ settled old → MayBegin are_none old → EachMoment (LeavesLog (IsBegun are_none) (now h2)) h2 h3

  pub begun3 : (are_none : List (List ℕ) → Bool) (h3 : History) → Premise are_none → Kept h1 → Shuts are_none h3 → Begun are_none h3
  begun3 are_none h3 premise kept shuts = moments_leave_then (IsBegun are_none) h0 h2 h3 (begun2 are_none premise kept) (shuts log part2 (may_begin are_none premise))

  module _ (h3 : History) (shut : (now h3).disk.log ≡ settled (0 ∷ drop 1 log)) (bytes : List ℕ) (bytes_are : bytes ≡ head_text ++ 0 ∷ []) where
    pub begun4 : (are_none : List (List ℕ) → Bool) (h4 : History) → Begun are_none h3 → EachMoment (IsWriting Log 1 bytes (now h3)) h3 h4 → Begun are_none h4
    begun4 are_none h4 before run = moments_leave_then (IsBegun are_none) h0 h3 h4 before
        (moments_writing (IsBegun are_none) 1 bytes h3 h4 (λ left image. text_torn are_none (drop 1 log) left bytes (subst (λ p. IsImage (after_write 1 bytes p) left) shut image)) run)

    pub part4 : (h4 : History) → h4 ≡ more h3 (Wrote Log 1 bytes ∷ Synced Log ∷ []) → (now h4).disk.log ≡ settled (0 ∷ (head_text ++ 0 ∷ drop 17 log))
    part4 h4 is = written_part 1 bytes (0 ∷ drop 1 log) (0 ∷ (head_text ++ 0 ∷ drop 17 log)) h3 h4 shut is (text_bytes log bytes bytes_are)

    pub begun5 : (are_none : List (List ℕ) → Bool) → IsTrue (are_none []) → (h4 h5 : History) → Begun are_none h4 → h4 ≡ more h3 (Wrote Log 1 bytes ∷ Synced Log ∷ []) → EachMoment (IsWriting Log 0 (1 ∷ []) (now h4)) h4 h5 → Begun are_none h5
    begun5 are_none none h4 h5 before is run = moments_leave_then (IsBegun are_none) h0 h4 h5 before
        (moments_writing (IsBegun are_none) 0 (1 ∷ []) h4 h5 (λ left image. open_torn are_none none (drop 17 log) left (subst (λ p. IsImage (after_write 0 (1 ∷ []) p) left) (part4 h4 is) image)) run)

    pub part5 : (h4 h5 : History) → h4 ≡ more h3 (Wrote Log 1 bytes ∷ Synced Log ∷ []) → h5 ≡ more h4 (Wrote Log 0 (1 ∷ []) ∷ Synced Log ∷ []) → (now h5).disk.log ≡ settled (begun log)
    part5 h4 h5 text opened = written_part 0 (1 ∷ []) (0 ∷ (head_text ++ 0 ∷ drop 17 log)) (begun log) h4 h5 (part4 h4 text) opened refl

    pub begun_only : (h4 h5 : History) → h4 ≡ more h3 (Wrote Log 1 bytes ∷ Synced Log ∷ []) → h5 ≡ more h4 (Wrote Log 0 (1 ∷ []) ∷ Synced Log ∷ []) → HasOnly (now h5).disk []
    begun_only h4 h5 text opened =
        let part = part5 h4 h5 text opened in
        let bytes_now : (now h5).disk.log.now ≡ begun log = ap (λ (p : PartState). p.now) part in
        record { synced = part ∙ ap settled (sym bytes_now); records_are = ap records_of bytes_now ∙ empty_opened (drop 17 log) }

    pub begun_bytes : (h4 h5 : History) → h4 ≡ more h3 (Wrote Log 1 bytes ∷ Synced Log ∷ []) → h5 ≡ more h4 (Wrote Log 0 (1 ∷ []) ∷ Synced Log ∷ []) → (now h5).disk.log.now ≡ begun log
    begun_bytes h4 h5 text opened = ap (λ (p : PartState). p.now) (part5 h4 h5 text opened)
