-- What the records of a log stand for.
use Rattle.std.proofs.Common.{◌≡◌, ◌+◌, ◌<◌, ◌≤◌, ℕ, true, List, [], ◌∷◌, ◌++◌, map, length, drop, get_or, Option, Some, None, refl, sym, ap, ◌∙◌, add-one, drop-cons}
use Rattle.std.proofs.lemmas.List.{drop_all}
use Rattle.std.specs.Option.{option_and_then, unwrap_or}
use Rattle.dbpl_database.proofs.DatabaseLaws.{database_of-completes}
use Rattle.dbpl_value.specs.Databases.{is_database}
use Rattle.dbpl_database.specs.Reading.{database_of}
use Rattle.dbpl_database.specs.Spelling.{database_bytes}
use Rattle.dbpl_log.specs.Records.{records_of}
use Rattle.dbpl_store.specs.Kept.{IsSpelt}
use Rattle.dbpl_store.specs.Stands.{newest, stands}
use Rattle.dbpl_value.specs.declared.bound.Bound.{Bound}

-- the newest of the records from one place on
pub newest-step :
    {X : Type 0} (bytes : X → List ℕ) (database : List Bound) (records : List X) (i : ℕ) (one : X) → i < length records →
    one ≡ get_or records i one →
    newest database (map bytes (drop i records))
    ≡ option_and_then (λ next. newest next (map bytes (drop (i + 1) records))) (database_of (bytes one))
newest-step bytes database records i one within e = rw (drop-cons records i one, ← e, add-one) refl

-- where one of them spells none, there is none
pub newest-stops :
    {X : Type 0} (bytes : X → List ℕ) (database : List Bound) (records : List X) (i : ℕ) (one : X) → i < length records →
    one ≡ get_or records i one → database_of (bytes one) ≡ None → newest database (map bytes (drop i records)) ≡ None
newest-stops bytes database records i one within e none = newest-step bytes database records i one within e ∙ rw none refl

-- the next of them was read
pub newest-read :
    {X : Type 0} (bytes : X → List ℕ) (database next : List Bound) (records : List X) (i : ℕ) (one : X) → i < length records →
    one ≡ get_or records i one → database_of (bytes one) ≡ Some next →
    newest next (map bytes (drop (i + 1) records)) ≡ newest database (map bytes (drop i records))
newest-read bytes database next records i one within e read =
    sym (newest-step bytes database records i one within e ∙ rw read refl)

-- all were read
pub newest-done :
    {X : Type 0} (bytes : X → List ℕ) (database : List Bound) (records : List X) (i : ℕ) → length records ≤ i →
    newest database (map bytes (drop i records)) ≡ Some database
newest-done bytes database records i past = rw (drop_all i records past) refl

-- one record more
pub newest-more :
    (database : List Bound) (records : List (List ℕ)) (last : List Bound) (added : List ℕ) (next : List Bound) →
    newest database records ≡ Some last → database_of added ≡ Some next →
    newest database (records ++ added ∷ []) ≡ Some next
newest-more database [] last added next e read = rw read refl
newest-more database (first ∷ records) last added next e read =
    by_read (λ between f. newest-more between records last added next f read) (database_of first) e
  where
    by_read :
        ((between : List Bound) → newest between records ≡ Some last → newest between (records ++ added ∷ []) ≡ Some next) →
        (read : Option (List Bound)) → option_and_then (λ d. newest d records) read ≡ Some last →
        option_and_then (λ d. newest d (records ++ added ∷ [])) read ≡ Some next
    by_read others None f = absurd cc
    by_read others (Some between) f = others between f

pub stands-for :
    (log pages : List ℕ) (records : List (List ℕ)) (database : List Bound) → records_of log ≡ Some records →
    newest [] records ≡ Some database → stands log pages ≡ Some database
unfolding stands
stands-for log pages records database has newer =
    ap (λ (found : Option (List (List ℕ))). option_and_then (newest []) found) has ∙ newer

-- ---- spellings

pub spelt-read :
    (database : List Bound) (bytes : List ℕ) → is_database database ≡ true → IsSpelt database bytes →
    database_of bytes ≡ Some database
spelt-read database bytes sound spelt = ap database_of spelt.is ∙ database_of-completes database sound spelt.fits

pub committed-is :
    (database : List Bound) (stored : List ℕ) → database_of stored ≡ Some database →
    unwrap_or (database_of stored) [] ≡ database
committed-is database stored read = rw read refl

-- where the database is the committed one, its spelling is the stored one
pub same-spelling :
    (database : List Bound) (stored changed : List ℕ) → stored ≡ database_bytes (unwrap_or (database_of stored) []) →
    IsSpelt database changed → database ≡ unwrap_or (database_of stored) [] → changed ≡ stored
same-spelling database stored changed is spelt same = spelt.is ∙ ap database_bytes same ∙ sym is
