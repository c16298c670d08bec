-- The records read so far, and what is left.
use Rattle.std.proofs.Common.{◌≡◌, ◌≢◌, ℕ, zero, suc, ◌+◌, ◌<◌, ◌≤◌, List, [], ◌∷◌, ◌++◌, map, length, take, drop, Option, Some, None, Vec, Global, refl, sym, ap, ◌∙◌, arith, append_assoc, append-nil, length-append}
use Rattle.std.proofs.lemmas.List.{length-drop, drop_all, map-append}
use Rattle.dbpl_log.specs.Records.{record_in, records_from, next_gate}
use Rattle.dbpl_log.proofs.RecordLaws.{then_these, read_shut, read_open, read_unfit, read_nothing, found_in}
use Rattle.dbpl_log.proofs.Committing.{bytes_of_more}

-- these records were found in the log, and the rest stands behind them
pub record ReadsOn (log : List ℕ) (found : List (List ℕ)) (rest : List ℕ) : Type 0 where
  pub most : ℕ
  pub enough : length rest ≤ most
  pub on : records_from (length log) (drop 16 log) ≡ then_these found (records_from most rest)
  pub place : next_gate found + length rest ≡ length log

then_none : (records : Option (List (List ℕ))) → records ≡ then_these [] records
then_none None = refl
then_none (Some records) = refl

then_more : (found : List (List ℕ)) (first : List ℕ) (records : Option (List (List ℕ))) → then_these found (then_these (first ∷ []) records) ≡ then_these (found ++ first ∷ []) records
then_more found first None = refl
then_more found first (Some records) = ap (λ all. Some all) (sym (append_assoc found (first ∷ []) records))

pub reads_start : (log : List ℕ) → 16 ≤ length log → ReadsOn log [] (drop 16 log)
reads_start log long = record {
  most = length log;
  enough = omega (arith, length-drop 16 log);
  on = then_none (records_from (length log) (drop 16 log));
  place = omega (arith, long, length-drop 16 log);
}

pub reads_short : (log : List ℕ) → length log < 16 → records_from (length log) (drop 16 log) ≡ None
reads_short log short = ap (records_from (length log)) (drop_all 16 log (omega (arith, short))) ∙ read_nothing (length log)

pub reads_end : (log : List ℕ) (found : List (List ℕ)) (rest : List ℕ) → ReadsOn log found rest → length rest ≡ 0 → records_from (length log) (drop 16 log) ≡ None
reads_end log found (byte ∷ rest) reads none = absurd (omega (arith, none))
reads_end log found [] reads none = reads.on ∙ ap (then_these found) (read_nothing reads.most)

at_gate : (log : List ℕ) (found : List (List ℕ)) (rest : List ℕ) (gate : ℕ) (behind : List ℕ) → ReadsOn log found rest → rest ≡ gate ∷ behind →
    (most : ℕ) × (length behind ≤ most) × (records_from (length log) (drop 16 log) ≡ then_these found (records_from (suc most) (gate ∷ behind)))
at_gate log found rest gate behind reads is = by_most reads.most (omega (arith, reads.enough, ap length is)) (reads.on ∙ ap (λ r. then_these found (records_from reads.most r)) is)
  where
    by_most : (most : ℕ) → suc (length behind) ≤ most → records_from (length log) (drop 16 log) ≡ then_these found (records_from most (gate ∷ behind)) →
        (most : ℕ) × (length behind ≤ most) × (records_from (length log) (drop 16 log) ≡ then_these found (records_from (suc most) (gate ∷ behind)))
    by_most zero enough on = absurd (omega (arith, enough))
    by_most (suc most) enough on = (most, omega (arith, enough), on)

pub reads_shut : (log : List ℕ) (found : List (List ℕ)) (rest : List ℕ) (gate : ℕ) (behind : List ℕ) → ReadsOn log found rest → rest ≡ gate ∷ behind → gate ≢ 1 → records_from (length log) (drop 16 log) ≡ Some found
reads_shut log found rest gate behind reads is shut =
    let at = at_gate log found rest gate behind reads is in
    at.2 ∙ ap (then_these found) (read_shut at.0 gate behind shut) ∙ ap (λ all. Some all) (append-nil found)

pub reads_unfit : (log : List ℕ) (found : List (List ℕ)) (rest : List ℕ) (gate : ℕ) (behind : List ℕ) → ReadsOn log found rest → rest ≡ gate ∷ behind → gate ≡ 1 → record_in behind ≡ None → records_from (length log) (drop 16 log) ≡ None
reads_unfit log found rest gate behind reads is one none =
    let at = at_gate log found rest gate behind reads is in
    at.2 ∙ ap (λ g. then_these found (records_from (suc at.0) (g ∷ behind))) one ∙ ap (then_these found) (read_unfit at.0 behind none)

length_found : (behind first after : List ℕ) → record_in behind ≡ Some (first, after) → length behind ≡ 4 + length first + length after
length_found behind first after fits =
    let one = found_in behind (first, after) fits in
    omega (arith, ap length one.is, length-append (take 4 behind ++ first) after, length-append (take 4 behind) first, one.four)

pub reads_shorter : (rest : List ℕ) (gate : ℕ) (behind first after : List ℕ) → rest ≡ gate ∷ behind → record_in behind ≡ Some (first, after) → length after < length rest
reads_shorter rest gate behind first after is fits = omega (arith, ap length is, length_found behind first after fits)

pub reads_more : (log : List ℕ) (found : List (List ℕ)) (rest : List ℕ) (gate : ℕ) (behind first after : List ℕ) → ReadsOn log found rest → rest ≡ gate ∷ behind → gate ≡ 1 → record_in behind ≡ Some (first, after) → ReadsOn log (found ++ first ∷ []) after
reads_more log found rest gate behind first after reads is one fits =
    let at = at_gate log found rest gate behind reads is in
    let long = length_found behind first after fits in
    record {
      most = at.0;
      enough = omega (arith, at.1, long);
      on = at.2 ∙ ap (λ g. then_these found (records_from (suc at.0) (g ∷ behind))) one ∙ ap (then_these found) (read_open at.0 behind first after fits) ∙ then_more found first (records_from at.0 after);
      place = omega (arith, reads.place, long, ap length is, bytes_of_more found first);
    }

-- The bytes of vectors.

abbrev pub bytes_of_each : List (Vec ℕ Global) → List (List ℕ)
bytes_of_each records = map (λ one. one.items) records

pub each_more : (old new : List (Vec ℕ Global)) (one : Vec ℕ Global) (bytes : List ℕ) → new ≡ old ++ one ∷ [] → one.items ≡ bytes → bytes_of_each new ≡ bytes_of_each old ++ bytes ∷ []
each_more old new one bytes is items = ap bytes_of_each is ∙ map-append (λ (v : Vec ℕ Global). v.items) old (one ∷ []) ∙ ap (λ b. bytes_of_each old ++ b ∷ []) items
