-- The records of a log as it is read, and the log as its writer sees it: each gives the other.
use Rattle.std.proofs.Common.{◌≡◌, ◌≢◌, ℕ, zero, suc, ◌+◌, ◌^◌, ◌<◌, ◌≤◌, Bool, true, false, List, [], ◌∷◌, ◌++◌, length, take, drop, Option, Some, None, refl, sym, ap, subst, ◌∙◌, arith, append_assoc, append-nil, length-append}
use Rattle.std.specs.Prelude.{bytes_eq, nat_lt, ◌==◌, if◌then◌else◌}
use Rattle.std.specs.Int.{w32, to_le_bytes}
use Rattle.std.proofs.lemmas.Bool.{eqb-true, eqb-false, ltb-false, le-ltb, ne_eqb}
use Rattle.std.proofs.lemmas.List.{take-append-drop, drop-drop, length-take-le, length-drop}
use Rattle.std.proofs.lemmas.Nat.{from_le_bytes-to_le_bytes_4}
use Rattle.std.proofs.lemmas.Slice.Eq.{bytes_eq-Decides}
use Rattle.std.proofs.Math.Seq.{take-append_seam, drop-append-add}
use Rattle.dbpl_log.specs.Records.{head_text, open_head, HasHead, length_told, record_in, records_from, records_of, ◌>>=◌, bytes_of_all, next_gate}
use Rattle.dbpl_log.specs.Fronts.{AreOpen, IsFront, Holds}

pub length_text : length head_text ≡ 15
unfolding head_text
length_text = refl

pub length_head : length open_head ≡ 16
length_head = ap suc length_text

-- Both sides of a seam at a known place.

drop_seam : (front rest : List ℕ) → drop (length front) (front ++ rest) ≡ rest
drop_seam front rest = ap (λ n. drop n (front ++ rest)) (omega arith) ∙ drop-append-add front rest 0

pub take_front : (n : ℕ) (front rest : List ℕ) → length front ≡ n → take n (front ++ rest) ≡ front
take_front n front rest long = ap (λ m. take m (front ++ rest)) (sym long) ∙ take-append_seam front rest

pub drop_front : (n : ℕ) (front rest : List ℕ) → length front ≡ n → drop n (front ++ rest) ≡ rest
drop_front n front rest long = ap (λ m. drop m (front ++ rest)) (sym long) ∙ drop_seam front rest

-- One record.

pub record_fits : (field first behind : List ℕ) → length field ≡ 4 → length_told field ≡ length first → record_in (field ++ first ++ behind) ≡ Some (first, behind)
unfolding record_in
record_fits field first behind four number =
    let whole : field ++ first ++ behind ≡ field ++ (first ++ behind) = append_assoc field first behind in
    let field_is : take 4 (field ++ first ++ behind) ≡ field = ap (take 4) whole ∙ take_front 4 field (first ++ behind) four in
    let rest_is : drop 4 (field ++ first ++ behind) ≡ first ++ behind = ap (drop 4) whole ∙ drop_front 4 field (first ++ behind) four in
    let long : length (field ++ first) ≡ 4 + length first = omega (arith, length-append field first, four) in
    let after : drop (4 + length first) (field ++ first ++ behind) ≡ behind = drop_front (4 + length first) (field ++ first) behind long in
    let fits : nat_lt (length (field ++ first ++ behind)) (4 + length first) ≡ false = le-ltb _ _ (omega (arith, length-append (field ++ first) behind, long)) in
    rw (field_is, number, fits, rest_is, after, take-append_seam first behind) refl

-- what a record that fits is
pub record FoundIn (behind : List ℕ) (found : List ℕ × List ℕ) : Type 0 where
  pub is : behind ≡ take 4 behind ++ found.0 ++ found.1
  pub four : length (take 4 behind) ≡ 4
  pub number : length_told (take 4 behind) ≡ length found.0

found_parts : (place size : ℕ) (behind first rest : List ℕ) → place + size ≤ length behind → first ≡ take size (drop place behind) → rest ≡ drop (place + size) behind →
    (behind ≡ take place behind ++ first ++ rest) × (length (take place behind) ≡ place) × (length first ≡ size)
found_parts place size behind first rest enough first_is rest_is =
    let back : rest ≡ drop size (drop place behind) = rest_is ∙ sym (drop-drop size place behind) in
    let halves : first ++ rest ≡ drop place behind = rw (first_is, back) (take-append-drop size (drop place behind)) in (
      sym (append_assoc (take place behind) first rest ∙ ap (λ more. take place behind ++ more) halves ∙ take-append-drop place behind),
      length-take-le place behind (omega (arith, enough)),
      ap length first_is ∙ length-take-le size (drop place behind) (omega (arith, enough, length-drop place behind)),
    )

found_tested : (behind : List ℕ) (found : List ℕ × List ℕ) (field : List ℕ) (size : ℕ) (test : Bool) → field ≡ take 4 behind → size ≡ length_told field → nat_lt (length behind) (4 + size) ≡ test →
    (if test then None else Some (take size (drop 4 behind), drop (4 + size) behind)) ≡ Some found → FoundIn behind found
found_tested behind found field size true field_is size_is test is = absurd cc
found_tested behind found field size false field_is size_is test is =
    let first_is : found.0 ≡ take size (drop 4 behind) = cc in
    let rest_is : found.1 ≡ drop (4 + size) behind = cc in
    let parts = found_parts 4 size behind found.0 found.1 (ltb-false _ _ test) first_is rest_is in
    record { is = parts.0; four = parts.1; number = ap length_told (sym field_is) ∙ sym size_is ∙ sym parts.2 }

pub found_in : (behind : List ℕ) (found : List ℕ × List ℕ) → record_in behind ≡ Some found → FoundIn behind found
unfolding record_in
found_in behind found is = found_tested behind found (take 4 behind) (length_told (take 4 behind)) _ refl refl refl is

-- From a gate on.

pub read_shut : (most gate : ℕ) (behind : List ℕ) → gate ≢ 1 → records_from (suc most) (gate ∷ behind) ≡ Some []
unfolding records_from
read_shut most gate behind shut = rw (ne_eqb gate 1 shut) refl

-- these records, and then what follows
abbrev pub then_these : List (List ℕ) → Option (List (List ℕ)) → Option (List (List ℕ))
then_these records None = None
then_these records (Some more) = Some (records ++ more)

first_then : (first : List ℕ) (others : Option (List (List ℕ))) → (others >>= λ records. Some (first ∷ records)) ≡ then_these (first ∷ []) others
first_then first None = refl
first_then first (Some others) = refl

pub read_open : (most : ℕ) (behind first rest : List ℕ) → record_in behind ≡ Some (first, rest) → records_from (suc most) (1 ∷ behind) ≡ then_these (first ∷ []) (records_from most rest)
unfolding records_from
read_open most behind first rest found = rw found (first_then first (records_from most rest))

pub read_unfit : (most : ℕ) (behind : List ℕ) → record_in behind ≡ None → records_from (suc most) (1 ∷ behind) ≡ None
unfolding records_from
read_unfit most behind none = rw none refl

pub read_nothing : (most : ℕ) → records_from most [] ≡ None
unfolding records_from
read_nothing zero = refl
read_nothing (suc most) = refl

-- What the writer put is read.

pub read_all : (most : ℕ) (bytes : List ℕ) (records : List (List ℕ)) (gate : ℕ) (rest : List ℕ) → AreOpen bytes records → gate ≢ 1 → bytes_of_all records < most → records_from most (bytes ++ gate ∷ rest) ≡ Some records
read_all zero bytes records gate rest opened shut enough = absurd (omega arith)
read_all (suc most) bytes [] gate rest opened shut enough = rw opened (read_shut most gate rest shut)
read_all (suc most) bytes (first ∷ others) gate rest (field, behind, is, four, number, opened) shut enough =
    let whole : bytes ++ gate ∷ rest ≡ 1 ∷ (field ++ first ++ (behind ++ gate ∷ rest)) = ap (λ b. b ++ gate ∷ rest) is ∙ ap (λ b. 1 ∷ b) (append_assoc (field ++ first) behind (gate ∷ rest)) in
    let others_are : records_from most (behind ++ gate ∷ rest) ≡ Some others = read_all most behind others gate rest opened shut (omega (arith, enough)) in
    ap (records_from (suc most)) whole ∙ read_open most (field ++ first ++ (behind ++ gate ∷ rest)) first (behind ++ gate ∷ rest) (record_fits field first (behind ++ gate ∷ rest) four number) ∙ ap (then_these (first ∷ [])) others_are

pub length_open : (bytes : List ℕ) (records : List (List ℕ)) → AreOpen bytes records → length bytes ≡ bytes_of_all records
length_open bytes [] opened = ap length opened
length_open bytes (first ∷ others) (field, behind, is, four, number, opened) =
    omega (arith, ap length is, length-append (field ++ first) behind, length-append field first, four, length_open behind others opened)

pub length_front : (front : List ℕ) (records : List (List ℕ)) → IsFront front records → length front ≡ next_gate records
length_front front records whole = omega (arith, ap length whole.is, length-append open_head whole.behind, length_head, length_open whole.behind records whole.are_open)

pub read_head : (log : List ℕ) → HasHead log → records_of log ≡ records_from (length log) (drop 16 log)
unfolding records_of
read_head log head = rw ((bytes_eq-Decides (take 16 log) open_head).1 head) refl

pub holds_records : (log : List ℕ) (records : List (List ℕ)) → Holds log records → records_of log ≡ Some records
holds_records log records holds =
    let behind = holds.whole.behind in
    let is : log ≡ open_head ++ (behind ++ holds.gate ∷ holds.rest) = holds.is ∙ ap (λ front. front ++ holds.gate ∷ holds.rest) holds.whole.is ∙ append_assoc open_head behind (holds.gate ∷ holds.rest) in
    let head : HasHead log = ap (take 16) is ∙ take_front 16 open_head (behind ++ holds.gate ∷ holds.rest) length_head in
    let after : drop 16 log ≡ behind ++ holds.gate ∷ holds.rest = ap (drop 16) is ∙ drop_front 16 open_head (behind ++ holds.gate ∷ holds.rest) length_head in
    let enough : bytes_of_all records < length log = omega (arith, ap length holds.is, length-append holds.front (holds.gate ∷ holds.rest), length_front holds.front records holds.whole) in
    read_head log head ∙ ap (records_from (length log)) after ∙ read_all (length log) behind records holds.gate holds.rest holds.whole.are_open holds.shut enough

-- What is read was put so.

pub record HoldsFrom (bytes : List ℕ) (records : List (List ℕ)) : Type 0 where
  pub behind : List ℕ
  pub gate : ℕ
  pub rest : List ℕ
  pub is : bytes ≡ behind ++ gate ∷ rest
  pub shut : gate ≢ 1
  pub are_open : AreOpen behind records

abbrev Finds : ℕ → Type 0
Finds most = (bytes : List ℕ) (records : List (List ℕ)) → records_from most bytes ≡ Some records → HoldsFrom bytes records

found_others : (most : ℕ) → Finds most → (behind : List ℕ) (found : List ℕ × List ℕ) (records : List (List ℕ)) → FoundIn behind found → (others : Option (List (List ℕ))) → records_from most found.1 ≡ others →
    (others >>= λ more. Some (found.0 ∷ more)) ≡ Some records → HoldsFrom (1 ∷ behind) records
found_others most finds behind found records one None here is = absurd cc
found_others most finds behind found records one (Some others) here is =
    let held = finds found.1 others here in
    let whole : 1 ∷ behind ≡ (1 ∷ (take 4 behind ++ found.0 ++ held.behind)) ++ held.gate ∷ held.rest =
    ap (λ bytes. 1 ∷ bytes) (one.is ∙ ap (λ bytes. take 4 behind ++ found.0 ++ bytes) held.is ∙ sym (append_assoc (take 4 behind ++ found.0) held.behind (held.gate ∷ held.rest))) in
    let all : found.0 ∷ others ≡ records = cc in
    subst (HoldsFrom (1 ∷ behind)) all (record {
      behind = 1 ∷ (take 4 behind ++ found.0 ++ held.behind);
      gate = held.gate;
      rest = held.rest;
      is = whole;
      shut = held.shut;
      are_open = (take 4 behind, held.behind, refl, one.four, one.number, held.are_open);
    })

found_one : (most : ℕ) → Finds most → (behind : List ℕ) (records : List (List ℕ)) (found : Option (List ℕ × List ℕ)) → record_in behind ≡ found →
    (found >>= λ one. records_from most one.1 >>= λ more. Some (one.0 ∷ more)) ≡ Some records → HoldsFrom (1 ∷ behind) records
found_one most finds behind records None here is = absurd cc
found_one most finds behind records (Some found) here is = found_others most finds behind found records (found_in behind found here) (records_from most found.1) refl is

found_gate : (most : ℕ) → Finds most → (gate : ℕ) (behind : List ℕ) (records : List (List ℕ)) (test : Bool) → (gate == 1) ≡ test →
    (if test then (record_in behind >>= λ one. records_from most one.1 >>= λ more. Some (one.0 ∷ more)) else Some []) ≡ Some records → HoldsFrom (gate ∷ behind) records
found_gate most finds gate behind records true test is =
    let one : gate ≡ 1 = eqb-true gate 1 test in
    subst (λ first. HoldsFrom (first ∷ behind) records) (sym one) (found_one most finds behind records (record_in behind) refl is)
found_gate most finds gate behind records false test is =
    let none : [] ≡ records = cc in
    record { behind = []; gate = gate; rest = behind; is = refl; shut = eqb-false gate 1 test; are_open = subst (AreOpen []) none refl }

pub holds_from : (most : ℕ) (bytes : List ℕ) (records : List (List ℕ)) → records_from most bytes ≡ Some records → HoldsFrom bytes records
unfolding records_from
holds_from zero bytes records is = absurd cc
holds_from (suc most) [] records is = absurd cc
holds_from (suc most) (gate ∷ behind) records is = found_gate most (holds_from most) gate behind records (gate == 1) refl is

head_tested : (log : List ℕ) (records : List (List ℕ)) (test : Bool) → bytes_eq (take 16 log) open_head ≡ test → (if test then records_from (length log) (drop 16 log) else None) ≡ Some records → HasHead log × HoldsFrom (drop 16 log) records
head_tested log records true test is = ((bytes_eq-Decides (take 16 log) open_head).0 test, holds_from (length log) (drop 16 log) records is)
head_tested log records false test is = absurd cc

pub records_head : (log : List ℕ) (records : List (List ℕ)) → records_of log ≡ Some records → HasHead log × HoldsFrom (drop 16 log) records
unfolding records_of
records_head log records is = head_tested log records _ refl is

pub records_hold : (log : List ℕ) (records : List (List ℕ)) → records_of log ≡ Some records → Holds log records
records_hold log records is =
    let parts = records_head log records is in
    let held = parts.1 in
    let whole : log ≡ (open_head ++ held.behind) ++ held.gate ∷ held.rest =
    sym (take-append-drop 16 log) ∙ ap (λ head. head ++ drop 16 log) parts.0 ∙ ap (λ bytes. open_head ++ bytes) held.is ∙ sym (append_assoc open_head held.behind (held.gate ∷ held.rest)) in
    record {
      front = open_head ++ held.behind;
      gate = held.gate;
      rest = held.rest;
      is = whole;
      shut = held.shut;
      whole = record { behind = held.behind; is = refl; are_open = held.are_open };
    }

-- One record more.

open_more : (bytes : List ℕ) (records : List (List ℕ)) (field added : List ℕ) → AreOpen bytes records → length field ≡ 4 → length_told field ≡ length added → AreOpen (bytes ++ 1 ∷ (field ++ added)) (records ++ added ∷ [])
open_more bytes [] field added opened four number = rw opened (field, [], ap (λ b. 1 ∷ b) (sym (append-nil (field ++ added))), four, number, refl)
open_more bytes (first ∷ others) field added (old, behind, is, old_four, old_number, opened) four number =
    (old, behind ++ 1 ∷ (field ++ added), ap (λ b. b ++ 1 ∷ (field ++ added)) is ∙ ap (λ b. 1 ∷ b) (append_assoc (old ++ first) behind (1 ∷ (field ++ added))), old_four, old_number, open_more behind others field added opened four number)

pub front_more : (front : List ℕ) (records : List (List ℕ)) (added : List ℕ) → IsFront front records → length added < 2 ^ 32 → IsFront (front ++ 1 ∷ (to_le_bytes w32 (length added) ++ added)) (records ++ added ∷ [])
unfolding length_told
front_more front records added whole short = record {
  behind = whole.behind ++ 1 ∷ (to_le_bytes w32 (length added) ++ added);
  is = ap (λ b. b ++ 1 ∷ (to_le_bytes w32 (length added) ++ added)) whole.is ∙ append_assoc open_head whole.behind (1 ∷ (to_le_bytes w32 (length added) ++ added));
  are_open = open_more whole.behind records (to_le_bytes w32 (length added)) added whole.are_open refl (from_le_bytes-to_le_bytes_4 (length added) short);
}
