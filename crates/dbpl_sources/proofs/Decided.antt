-- Where the files are told, each is fetched, or there is none of its name, or it passes the limit.
use Rattle.std.proofs.Common.{◌≡◌, ◌≤◌, ◌<◌, ◌⊎◌, ℕ, List, [], ◌∷◌, None, Option, Some, inl, inr, false, leb, length, refl, true}
use Rattle.std.proofs.lemmas.Bool.Decides.{leb_tells}
use Rattle.std.specs.Prelude.{IsSome}
use Rattle.dbpl_base.specs.declared.limits.TheConstants.{SOURCE_BYTES}
use Rattle.dbpl_base.specs.declared.status.Status.TheVariants as status
use Rattle.dbpl_promise.proofs.Decided.{decided_given, decided_joined}
use Rattle.dbpl_promise.specs.Stages.{IsDecided, Stage, gives, ◌>>=◌}
use Rattle.dbpl_promise.specs.Work.{Work}
use Rattle.dbpl_sources.specs.Fetching.{all_fetched, fetched}
use Rattle.dbpl_sources.specs.Sources.{IsAbsent, IsTooLong}
use Rattle.dbpl_sources.specs.Texts.{MayHave}
use Rattle.dbpl_world.specs.Files.{Files, file_of}

-- one of the three
abbrev Found : Option Files → List ℕ → Type 0
Found files file = ((text : List ℕ) × MayHave files file text) ⊎ (IsAbsent files file ⊎ IsTooLong files file)

found : (files : Option Files) (file : List ℕ) → IsSome files → Found files file
found None file told = absurd (cc (told))
found (Some files) file told = by_text (file_of files file) refl
  where
    by_length : (text : List ℕ) → file_of files file ≡ Some text →
        ((leb (length text) SOURCE_BYTES ≡ true) × (length text ≤ SOURCE_BYTES))
        ⊎ ((leb (length text) SOURCE_BYTES ≡ false) × (SOURCE_BYTES < length text)) → Found (Some files) file
    by_length text is (inl within) = inl (text, record { told = is; within = within.1 })
    by_length text is (inr long) = inr (inr (text, is, long.1))

    by_text : (text : Option (List ℕ)) → file_of files file ≡ text → Found (Some files) file
    by_text None is = inr (inl is)
    by_text (Some text) is = by_length text is (leb_tells (length text) SOURCE_BYTES)

pub fetched_decided : (file : List ℕ) (work : Work) → IsSome work.files → IsDecided (fetched file) work
fetched_decided file work told = by_found (found work.files file told)
  where
    by_found : Found work.files file → IsDecided (fetched file) work
    by_found (inl has) = inl (has.0, has.1)
    by_found (inr (inl absent)) = inr (status.Absent file, (refl, absent))
    by_found (inr (inr long)) = inr (status.TooLong file, (refl, long))

-- the text of this file before those of the others
abbrev with_others : List (List ℕ) → List ℕ → Stage (List (List ℕ))
with_others files text = all_fetched files >>= λ texts. gives (text ∷ texts)

pub all_decided : (files : List (List ℕ)) (work : Work) → IsSome work.files → IsDecided (all_fetched files) work
all_decided [] work told = decided_given work []
all_decided (file ∷ files) work told =
    decided_joined (fetched file) (with_others files) work
    (λ text passes. decided_joined (all_fetched files) (λ texts. gives (text ∷ texts)) work
    (λ texts behind. decided_given work (text ∷ texts)) (all_decided files work told))
    (fetched_decided file work told)
