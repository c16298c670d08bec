-- What a create leaves, as databases.
use Rattle.std.proofs.Common.{◌≡◌, ◌⊎◌, inl, inr, ℕ, Bool, true, false, IsTrue, List, [], ◌∷◌, drop, Option, Some, None, Result, Ok, Err, OnOk, refl, ap, subst, ◌∙◌}
use Rattle.std.specs.Prelude.{slice_index}
use Rattle.std.specs.Option.{option_and_then}
use Rattle.dbpl_log.specs.Beginning.{HasSuch, IsBegun, MayBegin}
use Rattle.dbpl_log.specs.Changes.{LeavesLog}
use Rattle.dbpl_log.specs.Records.{HasText, records_of}
use Rattle.dbpl_log.specs.Rest.{HasOnly}
use Rattle.dbpl_log.specs.declared.create_err.CreateErr.{CreateErr}
use Rattle.dbpl_store.proofs.Standing.{stands-for}
use Rattle.dbpl_store.specs.Beginning.{LeavesBegun, MayBecomeEmpty, StandsEmpty}
use Rattle.dbpl_store.specs.Stands.{newest, stands}
use Rattle.dbpl_value.specs.declared.bound.Bound.{Bound}
use Rattle.dbpl_world.proofs.Moments.{moments_weaken}
use Rattle.dbpl_world.proofs.Torn.{settled_image}
use Rattle.dbpl_world.specs.History.{History, ReadsAnImage, State, now}
use Rattle.dbpl_world.specs.Images.{IsImage}
use Rattle.dbpl_world.specs.Moments.{EachMoment}

-- the test that a database is the empty one
abbrev is_none : Option (List Bound) → Bool
is_none None = false
is_none (Some []) = true
is_none (Some (first ∷ others)) = false

none-passes : (found : Option (List Bound)) → found ≡ Some [] → IsTrue (is_none found)
none-passes found none = rw none refl

passes-none : (found : Option (List Bound)) → IsTrue (is_none found) → found ≡ Some []
passes-none None passed = absurd cc
passes-none (Some []) passed = refl
passes-none (Some (first ∷ others)) passed = absurd cc

-- the test that records stand for it
abbrev pub are_none : List (List ℕ) → Bool
are_none records = is_none (newest [] records)

found-none :
    (log : List ℕ) (found : Option (List (List ℕ))) → records_of log ≡ found →
    option_and_then (newest []) found ≡ Some [] → HasSuch are_none log
found-none log None has stood = absurd cc
found-none log (Some records) has stood = (records, has, none-passes (newest [] records) stood)

stood-none : (log pages : List ℕ) → stands log pages ≡ Some [] → HasSuch are_none log
unfolding stands
stood-none log pages stood = found-none log (records_of log) refl stood

none-stands : (log pages : List ℕ) → HasSuch are_none log → stands log pages ≡ Some []
none-stands log pages (records, has, none) = stands-for log pages records [] has (passes-none (newest [] records) none)

to-log : (log pages : List ℕ) → MayBecomeEmpty log pages → MayBegin are_none log
to-log log pages may = record { no_store = may.no_store; harmless = by_cause may.harmless }
  where
    by_cause :
        (HasText log → ⊥) ⊎ ((slice_index log 0 ≡ 0) ⊎ (stands (1 ∷ drop 1 log) pages ≡ Some [])) →
        (HasText log → ⊥) ⊎ ((slice_index log 0 ≡ 0) ⊎ HasSuch are_none (1 ∷ drop 1 log))
    by_cause (inl no_text) = inl no_text
    by_cause (inr (inl shut)) = inr (inl shut)
    by_cause (inr (inr none)) = inr (inr (stood-none (1 ∷ drop 1 log) pages none))

from-log : (log pages : List ℕ) → MayBegin are_none log → MayBecomeEmpty log pages
from-log log pages may = record { no_store = may.no_store; harmless = by_cause may.harmless }
  where
    by_cause :
        (HasText log → ⊥) ⊎ ((slice_index log 0 ≡ 0) ⊎ HasSuch are_none (1 ∷ drop 1 log)) →
        (HasText log → ⊥) ⊎ ((slice_index log 0 ≡ 0) ⊎ (stands (1 ∷ drop 1 log) pages ≡ Some []))
    by_cause (inl no_text) = inl no_text
    by_cause (inr (inl shut)) = inr (inl shut)
    by_cause (inr (inr none)) = inr (inr (none-stands (1 ∷ drop 1 log) pages none))

begun : (log pages : List ℕ) → IsBegun are_none log → MayBecomeEmpty log pages ⊎ (stands log pages ≡ Some [])
begun log pages (inl may) = inl (from-log log pages may)
begun log pages (inr none) = inr (none-stands log pages none)

-- each image of the log may begin, beside what a read of the pages gives
pub logs-may-begin :
    (s : State) → ReadsAnImage s.disk →
    ((log pages : List ℕ) → IsImage s.disk.log log → IsImage s.disk.pages pages → MayBecomeEmpty log pages) → (log : List ℕ) →
    IsImage s.disk.log log → MayBegin are_none log
logs-may-begin s reads may log image = to-log log s.disk.pages.now (may log s.disk.pages.now image reads.pages)

as_begun : (old s : State) → LeavesLog (IsBegun are_none) old s → LeavesBegun old s
as_begun old s left = record {
  left = λ log pages image torn. begun log pages (left.log log image);
  pages = left.pages;
  others = left.others;
}

pub creation-moments :
    (h1 h2 : History) → EachMoment (LeavesLog (IsBegun are_none) (now h1)) h1 h2 →
    EachMoment (LeavesBegun (now h1)) h1 h2
creation-moments h1 h2 moments =
    moments_weaken (LeavesLog (IsBegun are_none) (now h1)) (LeavesBegun (now h1)) h1 h2 (as_begun (now h1)) moments

empty_left : (s : State) → HasOnly s.disk [] → StandsEmpty s
empty_left s only log pages image torn =
    let same = settled_image s.disk.log.now log (subst (λ part. IsImage part log) only.synced image) in
    stands-for log pages [] [] (ap records_of same ∙ only.records_are) refl

pub creation-made :
    (s : State) (result : Result (Unit {0}) CreateErr) → OnOk result (HasOnly s.disk []) → OnOk result (StandsEmpty s)
creation-made s (Ok x) made = empty_left s made
creation-made s (Err e) made = tt
