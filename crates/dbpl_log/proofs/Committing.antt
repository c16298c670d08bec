-- A commit: before the gate is opened the log has the old records, after it one more, and no other bytes are possible.
use Rattle.std.proofs.Common.{◌≡◌, ◌≢◌, ℕ, suc, ◌+◌, ◌^◌, ◌<◌, ◌⊎◌, inl, inr, List, [], ◌∷◌, ◌++◌, length, take, drop, Some, refl, sym, ap, subst, ◌∙◌, arith, append_assoc, length-append}
use Rattle.std.proofs.lemmas.Bool.{cases_eq}
use Rattle.std.proofs.lemmas.List.{drop-drop}
use Rattle.std.proofs.Math.Seq.{drop-append-add}
use Rattle.std.specs.Int.{w32, to_le_bytes}
use Rattle.dbpl_world.specs.declared.part.Part.TheVariants.{Log as TheLog}
use Rattle.dbpl_world.specs.Images.{PartState, IsImage, written, settled, after_write}
use Rattle.dbpl_world.specs.History.{State, Wrote, Synced, History, more, now}
use Rattle.dbpl_world.specs.Moments.{EachMoment}
use Rattle.dbpl_world.specs.Writing.{IsWriting}
use Rattle.dbpl_world.proofs.Torn.{one_torn, written-at_front}
use Rattle.dbpl_world.proofs.Replays.{now-more}
use Rattle.dbpl_log.specs.declared.log.Log.{Log}
use Rattle.dbpl_log.specs.Records.{records_of, bytes_of_all, next_gate}
use Rattle.dbpl_log.specs.Fronts.{IsFront}
use Rattle.dbpl_log.specs.Rest.{IsAtRest}
use Rattle.dbpl_log.specs.Changes.{LeavesLog, HasFront, HasEither, with_record, staging}
use Rattle.dbpl_log.proofs.RecordLaws.{records_hold, holds_records, front_more, length_front, take_front}
use Rattle.dbpl_log.proofs.Leaving.{moments_leave_weaken, moments_leave_then, moments_writing}

pub bytes_of_more : (records : List (List ℕ)) (added : List ℕ) → bytes_of_all (records ++ added ∷ []) ≡ bytes_of_all records + (5 + length added)
bytes_of_more [] added = omega arith
bytes_of_more (first ∷ others) added = omega (arith, bytes_of_more others added)

-- a log that holds these records, and how it is cut at its gate
pub record Stands (s : State) (gate : ℕ) (records : List (List ℕ)) : Type 0 where
  pub front : List ℕ
  pub byte : ℕ
  pub rest : List ℕ
  pub log : s.disk.log ≡ settled (front ++ byte ∷ rest)
  pub shut : byte ≢ 1
  pub whole : IsFront front records
  pub place : length front ≡ gate

pub log_stands : (s : State) (log : Log) (records : List (List ℕ)) → IsAtRest s.disk log records → Stands s log.gate records
log_stands s log records at_rest =
    let holds = records_hold s.disk.log.now records at_rest.only.records_are in
    record {
      front = holds.front;
      byte = holds.gate;
      rest = holds.rest;
      log = at_rest.only.synced ∙ ap settled holds.is;
      shut = holds.shut;
      whole = holds.whole;
      place = length_front holds.front records holds.whole ∙ sym at_rest.gate;
    }

-- the log that is left is the front, a gate byte, and the new record behind it
has_old : (front : List ℕ) (byte : ℕ) (rest left : List ℕ) (records : List (List ℕ)) → byte ≢ 1 → IsFront front records → left ≡ front ++ byte ∷ rest → records_of left ≡ Some records
has_old front byte rest left records shut whole is = holds_records left records (record { front = front; gate = byte; rest = rest; is = is; shut = shut; whole = whole })

has_new : (front field added rest left : List ℕ) (records : List (List ℕ)) → field ≡ to_le_bytes w32 (length added) → length added < 2 ^ 32 → IsFront front records → left ≡ front ++ 1 ∷ (field ++ added ++ 0 ∷ rest) → records_of left ≡ Some (records ++ added ∷ [])
has_new front field added rest left records field_is short whole is =
    let whole_new : IsFront (front ++ 1 ∷ (field ++ added)) (records ++ added ∷ []) = subst (λ f. IsFront (front ++ 1 ∷ (f ++ added)) (records ++ added ∷ [])) (sym field_is) (front_more front records added whole short) in
    holds_records left (records ++ added ∷ []) (record {
      front = front ++ 1 ∷ (field ++ added);
      gate = 0;
      rest = rest;
      is = is ∙ sym (append_assoc front (1 ∷ (field ++ added)) (0 ∷ rest));
      shut = λ same. omega (arith, same);
      whole = whole_new;
    })

-- what the three writes leave
staged_bytes : (front : List ℕ) (byte : ℕ) (rest field added : List ℕ) (gate : ℕ) → length front ≡ gate → length field ≡ 4 →
    written (written (written (front ++ byte ∷ rest) (gate + 1) field) (gate + 5) added) (gate + 5 + length added) (0 ∷ []) ≡ front ++ byte ∷ (field ++ added ++ 0 ∷ drop 1 (drop (length added) (drop (length field) rest)))
staged_bytes front byte rest field added gate place four =
    let first : written (front ++ byte ∷ rest) (gate + 1) field ≡ (front ++ byte ∷ []) ++ field ++ drop (length field) rest =
    ap (λ bytes. written bytes (gate + 1) field) (sym (append_assoc front (byte ∷ []) rest)) ∙ written-at_front (front ++ byte ∷ []) rest (gate + 1) field (omega (arith, place, length-append front (byte ∷ []))) in
    let second : written (written (front ++ byte ∷ rest) (gate + 1) field) (gate + 5) added ≡ (front ++ byte ∷ []) ++ field ++ added ++ drop (length added) (drop (length field) rest) =
    ap (λ bytes. written bytes (gate + 5) added) first ∙ written-at_front ((front ++ byte ∷ []) ++ field) (drop (length field) rest) (gate + 5) added (omega (arith, place, four, length-append (front ++ byte ∷ []) field, length-append front (byte ∷ []))) in
    let third : written (written (written (front ++ byte ∷ rest) (gate + 1) field) (gate + 5) added) (gate + 5 + length added) (0 ∷ []) ≡ (front ++ byte ∷ []) ++ field ++ added ++ 0 ∷ [] ++ drop 1 (drop (length added) (drop (length field) rest)) =
    ap (λ bytes. written bytes (gate + 5 + length added) (0 ∷ [])) second ∙ written-at_front ((front ++ byte ∷ []) ++ field ++ added) (drop (length added) (drop (length field) rest)) (gate + 5 + length added) (0 ∷ [])
    (omega (arith, place, four, length-append ((front ++ byte ∷ []) ++ field) added, length-append (front ++ byte ∷ []) field, length-append front (byte ∷ []))) in
    third ∙ regroup front (byte ∷ []) field added (0 ∷ []) (drop 1 (drop (length added) (drop (length field) rest)))
  where
    regroup : (a b c d e f : List ℕ) → (((a ++ b) ++ c) ++ d) ++ e ++ f ≡ a ++ (b ++ ((c ++ d) ++ (e ++ f)))
    regroup a b c d e f = simp append_assoc

-- the same bytes, in terms of the log before
recorded : (front : List ℕ) (byte : ℕ) (rest field added : List ℕ) (gate : ℕ) → length front ≡ gate →
    front ++ 1 ∷ (field ++ added ++ 0 ∷ drop 1 (drop (length added) (drop 4 rest))) ≡ take gate (front ++ byte ∷ rest) ++ 1 ∷ (field ++ added ++ 0 ∷ drop (gate + 6 + length added) (front ++ byte ∷ rest))
recorded front byte rest field added gate place =
    let before : take gate (front ++ byte ∷ rest) ≡ front = take_front gate front (byte ∷ rest) place in
    let after : drop (gate + 6 + length added) (front ++ byte ∷ rest) ≡ drop (4 + length added + 1) rest =
    ap (λ n. drop n (front ++ byte ∷ rest)) (omega (arith, place)) ∙ drop-append-add front (byte ∷ rest) (suc (4 + length added + 1)) in
    let behind : drop 1 (drop (length added) (drop 4 rest)) ≡ drop (4 + length added + 1) rest = ap (drop 1) (drop-drop (length added) 4 rest) ∙ drop-drop 1 (4 + length added) rest in
    rw (before, after, behind) refl

module _ (added : List ℕ) (records : List (List ℕ)) (gate : ℕ) (h0 : History) (stood : Stands (now h0) gate records) (short : length added < 2 ^ 32) where
  abbrev F : List ℕ
  F = stood.front ++ stood.byte ∷ []

  abbrev P : List ℕ → Type 0
  P left = HasEither records added left

  abbrev StageLeaves : History → Type 0
  StageLeaves h1 = (front rest : List ℕ) → (now h0).disk.log ≡ settled (front ++ rest) → length front ≡ gate + 1 → EachMoment (LeavesLog (HasFront front) (now h0)) h0 h1

  old_kept : (left : List ℕ) → HasFront F left → P left
  old_kept left begins = inl (has_old stood.front stood.byte (drop (length F) left) left records stood.shut stood.whole (begins ∙ append_assoc stood.front (stood.byte ∷ []) (drop (length F) left)))

  pub while_staging : (h1 : History) → StageLeaves h1 → EachMoment (LeavesLog P (now h0)) h0 h1
  while_staging h1 leaves =
      let log : (now h0).disk.log ≡ settled (F ++ stood.rest) = stood.log ∙ ap settled (sym (append_assoc stood.front (stood.byte ∷ []) stood.rest)) in
      let long : length F ≡ gate + 1 = omega (arith, length-append stood.front (stood.byte ∷ []), stood.place) in
      moments_leave_weaken (HasFront F) P (now h0) h0 h1 old_kept (leaves F stood.rest log long)

  abbrev field : List ℕ
  field = to_le_bytes w32 (length added)

  abbrev behind : List ℕ
  behind = drop 1 (drop (length added) (drop 4 stood.rest))

  abbrev new_part : List ℕ
  new_part = field ++ added ++ 0 ∷ behind

  staged_log : (h1 : History) → h1 ≡ more h0 (staging gate added) → (now h1).disk.log ≡ settled (stood.front ++ stood.byte ∷ new_part)
  staged_log h1 is =
      ap (λ h. (now h).disk.log) is ∙ ap (λ (s : State). s.disk.log) (now-more h0 (staging gate added))
      ∙ ap (λ (part : PartState). settled (written (written (written part.now (gate + 1) field) (gate + 5) added) (gate + 5 + length added) (0 ∷ []))) stood.log
      ∙ ap settled (staged_bytes stood.front stood.byte stood.rest field added gate stood.place refl)

  gate_torn : (h1 : History) → h1 ≡ more h0 (staging gate added) → (left : List ℕ) → IsImage (after_write gate (1 ∷ []) (now h1).disk.log) left → P left
  gate_torn h1 is left image =
      let log = staged_log h1 is in
      let image_now : IsImage (after_write gate (1 ∷ []) (settled (stood.front ++ stood.byte ∷ new_part))) left = subst (λ part. IsImage (after_write gate (1 ∷ []) part) left) log image in
      let opened : written (stood.front ++ stood.byte ∷ new_part) gate (1 ∷ []) ≡ stood.front ++ 1 ∷ [] ++ new_part = written-at_front stood.front (stood.byte ∷ new_part) gate (1 ∷ []) (sym stood.place) in
      let same : length (written (stood.front ++ stood.byte ∷ new_part) gate (1 ∷ [])) ≡ length (stood.front ++ stood.byte ∷ new_part) =
      omega (arith, ap length opened, length-append (stood.front ++ 1 ∷ []) new_part, length-append stood.front (1 ∷ []), length-append stood.front (stood.byte ∷ new_part)) in
      let torn = one_torn (after_write gate (1 ∷ []) (settled (stood.front ++ stood.byte ∷ new_part))) stood.front stood.byte new_part left refl (ap (λ at. (at, 1) ∷ []) (sym stood.place)) same image_now in
      by_gate left torn.0 torn.1 (cases_eq torn.0 1)
    where
      by_gate : (left : List ℕ) (byte : ℕ) → left ≡ stood.front ++ byte ∷ new_part → (byte ≡ 1) ⊎ (byte ≡ 1 → ⊥) → P left
      by_gate left byte is (inl one) = inr (has_new stood.front field added behind left records refl short stood.whole (is ∙ ap (λ b. stood.front ++ b ∷ new_part) one))
      by_gate left byte is (inr shut) = inl (has_old stood.front byte new_part left records shut stood.whole is)

  pub while_opening : (h1 h2 : History) → StageLeaves h1 → h1 ≡ more h0 (staging gate added) → EachMoment (IsWriting TheLog gate (1 ∷ []) (now h1)) h1 h2 → EachMoment (LeavesLog P (now h0)) h0 h2
  while_opening h1 h2 leaves is run = moments_leave_then P h0 h1 h2 (while_staging h1 leaves) (moments_writing P gate (1 ∷ []) h1 h2 (gate_torn h1 is) run)

  module _ (h1 h2 : History) (is : h1 ≡ more h0 (staging gate added)) (synced : h2 ≡ more h1 (Wrote TheLog gate (1 ∷ []) ∷ Synced TheLog ∷ [])) where
    new_log : (now h2).disk.log ≡ settled (written (now h1).disk.log.now gate (1 ∷ []))
    new_log = ap (λ h. (now h).disk.log) synced ∙ ap (λ (s : State). s.disk.log) (now-more h1 (Wrote TheLog gate (1 ∷ []) ∷ Synced TheLog ∷ []))

    new_bytes : (now h2).disk.log.now ≡ stood.front ++ 1 ∷ new_part
    new_bytes =
        ap (λ (p : PartState). p.now) new_log ∙ ap (λ (p : PartState). written p.now gate (1 ∷ [])) (staged_log h1 is) ∙ written-at_front stood.front (stood.byte ∷ new_part) gate (1 ∷ []) (sym stood.place) ∙ append_assoc stood.front (1 ∷ []) new_part

    pub committed : (log : Log) → gate ≡ next_gate records → log.gate ≡ gate + (5 + length added) → IsAtRest (now h2).disk log (records ++ added ∷ [])
    committed log here place = record {
      only = record {
        synced = new_log ∙ ap settled (sym (ap (λ (p : PartState). p.now) new_log));
        records_are = has_new stood.front field added behind (now h2).disk.log.now records refl short stood.whole new_bytes;
      };
      gate = omega (arith, place, here, bytes_of_more records added);
    }

    pub committed_bytes : (now h2).disk.log.now ≡ with_record gate added (now h0).disk.log.now
    committed_bytes =
        new_bytes ∙ recorded stood.front stood.byte stood.rest field added gate stood.place
        ∙ sym (ap (λ (p : PartState). with_record gate added p.now) stood.log)
