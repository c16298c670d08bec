-- What holds at each moment of a commit.
use Rattle.std.proofs.Common.{◌≡◌, inl, inr, ℕ, ◌+◌, List, [], ◌∷◌, ◌++◌, length, Some, refl, ap, subst, ◌∙◌}
use Rattle.dbpl_database.specs.Reading.{database_of}
use Rattle.dbpl_database.specs.Spelling.{database_bytes}
use Rattle.dbpl_log.specs.Changes.{HasEither, LeavesLog, with_record}
use Rattle.dbpl_log.specs.Records.{records_of}
use Rattle.dbpl_log.specs.Rest.{IsAtRest}
use Rattle.dbpl_log.specs.declared.log.Log.{Log}
use Rattle.dbpl_store.proofs.Standing.{newest-more, stands-for}
use Rattle.dbpl_store.specs.Kept.{IsSpelt}
use Rattle.dbpl_store.specs.Stands.{IsEither, LeavesDatabase, newest, stands}
use Rattle.dbpl_value.specs.declared.bound.Bound.{Bound}
use Rattle.dbpl_world.proofs.Moments.{moments_start, moments_weaken}
use Rattle.dbpl_world.proofs.Torn.{settled_image}
use Rattle.dbpl_world.specs.History.{History, State, now}
use Rattle.dbpl_world.specs.Images.{IsImage}
use Rattle.dbpl_world.specs.Moments.{EachMoment}

-- ---- nothing is written

rests :
    (s : State) (log : Log) (records : List (List ℕ)) (database other : List Bound) → IsAtRest s.disk log records →
    newest [] records ≡ Some database → LeavesDatabase (IsEither database other) s s
rests s log records database other rest newer = record {
  left = λ left pages image torn.
      let same : left ≡ s.disk.log.now =
      settled_image s.disk.log.now left (subst (λ part. IsImage part left) rest.only.synced image)
      in
      inl (stands-for left pages records database (ap records_of same ∙ rest.only.records_are) newer);
  others = refl;
}

pub nothing-written :
    (h : History) (log : Log) (database other : List Bound) →
    ((records : List (List ℕ)) × IsAtRest (now h).disk log records × (newest [] records ≡ Some database)) →
    EachMoment (LeavesDatabase (IsEither database other) (now h)) h h
nothing-written h log database other stood =
    moments_start (LeavesDatabase (IsEither database other) (now h)) h
    (rests (now h) log stood.0 database other stood.1 stood.2)

-- ---- one record more

leaves :
    (old s : State) (records : List (List ℕ)) (added : List ℕ) (database next : List Bound) →
    newest [] records ≡ Some database → database_of added ≡ Some next → LeavesLog (HasEither records added) old s →
    LeavesDatabase (IsEither database next) old s
leaves old s records added database next newer read left = record {
  left = λ log pages image torn. by_log log pages (left.log log image);
  others = left.others;
}
  where
    by_log : (log pages : List ℕ) → HasEither records added log → IsEither database next (stands log pages)
    by_log log pages (inl has) = inl (stands-for log pages records database has newer)
    by_log log pages (inr has) =
        inr (stands-for log pages (records ++ added ∷ []) next has (newest-more [] records database added next newer read))

pub record-written :
    (h1 h2 : History) (records : List (List ℕ)) (added : List ℕ) (database next : List Bound) →
    newest [] records ≡ Some database → database_of added ≡ Some next →
    EachMoment (LeavesLog (HasEither records added) (now h1)) h1 h2 →
    EachMoment (LeavesDatabase (IsEither database next) (now h1)) h1 h2
record-written h1 h2 records added database next newer read moments =
    moments_weaken (LeavesLog (HasEither records added) (now h1)) (LeavesDatabase (IsEither database next) (now h1)) h1 h2
    (λ s. leaves (now h1) s records added database next newer read) moments

-- the bytes that were handed on are the spelling of the database
pub written-bytes :
    (database : List Bound) (spelling added : List ℕ) (gate : ℕ) (old new : List ℕ) → added ≡ spelling →
    IsSpelt database spelling → new ≡ with_record gate added old → new ≡ with_record gate (database_bytes database) old
written-bytes database spelling added gate old new same spelt is =
    is ∙ ap (λ bytes. with_record gate bytes old) (same ∙ spelt.is)

pub written-length :
    (database : List Bound) (spelling added : List ℕ) (before after : ℕ) → added ≡ spelling →
    IsSpelt database spelling → after ≡ before + 5 + length added →
    after ≡ before + 5 + length (database_bytes database)
written-length database spelling added before after same spelt is =
    is ∙ ap (λ (bytes : List ℕ). before + 5 + length bytes) (same ∙ spelt.is)
