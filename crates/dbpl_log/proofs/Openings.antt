-- What was synced, found and read stood in the log before.
use Rattle.std.proofs.Common.{◌≡◌, ℕ, ◌↔◌, Bool, true, false, IsTrue, List, [], ◌∷◌, length, drop, Option, Some, None, sym, ap, subst, ◌∙◌}
use Rattle.std.specs.Prelude.{option_map}
use Rattle.std.proofs.lemmas.Bool.{true≢false}
use Rattle.dbpl_world.specs.declared.part.Part.TheVariants.{Log as TheLog, Pages}
use Rattle.dbpl_world.specs.Images.{PartState, IsImage, settled}
use Rattle.dbpl_world.specs.History.{State, settled_store, Synced, History, more, now, AllReadAnImage}
use Rattle.dbpl_world.proofs.Replays.{now-more}
use Rattle.dbpl_log.specs.declared.opened.Opened.{Opened}
use Rattle.dbpl_log.specs.Records.{HasHead, records_from, records_of, next_gate}
use Rattle.dbpl_log.specs.Rest.{IsAtRest, records_in}
use Rattle.dbpl_log.proofs.RecordLaws.{read_head}

same_records : (first second : List (List ℕ)) (read : Option (List (List ℕ))) → read ≡ Some first → read ≡ Some second → first ≡ second
same_records first second read one other = cc

-- The log is synced: h1. Its head was looked for: h2. It was read: h3.
module _ (h0 h1 : History) (synced : h1 ≡ more h0 (Synced TheLog ∷ Synced Pages ∷ [])) where
  abbrev log : List ℕ
  log = (now h0).disk.log.now

  pub both_synced : (h2 h3 : History) → h2 ≡ h1 → h3 ≡ h2 → (now h3).disk ≡ settled_store log (now h0).disk.pages.now
  both_synced h2 h3 same last = ap (λ h. (now h).disk) (last ∙ same ∙ synced) ∙ ap (λ (s : State). s.disk) (now-more h0 (Synced TheLog ∷ Synced Pages ∷ []))

  part1 : (now h1).disk.log ≡ settled log
  part1 = ap (λ h. (now h).disk.log) synced ∙ ap (λ (s : State). s.disk.log) (now-more h0 (Synced TheLog ∷ Synced Pages ∷ []))

  log1 : (now h1).disk.log.now ≡ log
  log1 = ap (λ (p : PartState). p.now) part1

  pub no_head : (found : Bool) → found ≡ false → IsTrue found ↔ HasHead (now h1).disk.log.now → HasHead log → ⊥
  no_head found none tested head = true≢false (sym (tested.1 (subst HasHead (sym log1) head)) ∙ none)

  pub some_head : (found : Bool) → found ≡ true → IsTrue found ↔ HasHead (now h1).disk.log.now → HasHead log
  some_head found one tested = subst HasHead log1 (tested.0 one)

  module _ (h2 : History) (same : h2 ≡ h1) (found : Bool) (one : found ≡ true) (tested : IsTrue found ↔ HasHead (now h1).disk.log.now) (bytes : List ℕ) (bytes_are : bytes ≡ (now h2).disk.log.now) where
    pub all_read : (all : Option (List (List ℕ))) → records_from (length bytes) (drop 16 bytes) ≡ all → records_of log ≡ all
    all_read all read =
        let whole : bytes ≡ log = bytes_are ∙ ap (λ h. (now h).disk.log.now) same ∙ log1 in
        read_head log (some_head found one tested) ∙ ap (λ b. records_from (length b) (drop 16 b)) (sym whole) ∙ read

    pub some_read : (answer : Option Opened) (opened : Opened) → answer ≡ Some opened → records_from (length bytes) (drop 16 bytes) ≡ option_map records_in answer → records_of log ≡ Some (records_in opened)
    some_read answer opened is read = all_read (Some (records_in opened)) (read ∙ ap (option_map records_in) is)

    pub none_read : (answer : Option Opened) → answer ≡ None → records_from (length bytes) (drop 16 bytes) ≡ option_map records_in answer → records_of log ≡ None
    none_read answer is read = all_read None (read ∙ ap (option_map records_in) is)

    pub rests : (h3 : History) (opened : Opened) → h3 ≡ h2 → records_of log ≡ Some (records_in opened) → opened.log.gate ≡ next_gate (records_in opened) → IsAtRest (now h3).disk opened.log (records_in opened)
    rests h3 opened last read gate =
        let part : (now h3).disk.log ≡ settled log = ap (λ h. (now h).disk.log) (last ∙ same) ∙ part1 in
        let now_is : (now h3).disk.log.now ≡ log = ap (λ (p : PartState). p.now) part in
        record { only = record { synced = part ∙ ap settled (sym now_is); records_are = ap records_of now_is ∙ read }; gate = gate }

  pub stands_for : (first second : List (List ℕ)) → AllReadAnImage (now h0) → ((left : List ℕ) → IsImage (now h0).disk.log left → records_of left ≡ Some second) → records_of log ≡ Some first → first ≡ second
  stands_for first second reads premise read = same_records first second (records_of log) read (premise log reads.disk.log)
