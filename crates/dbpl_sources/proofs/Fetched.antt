-- What the stages of fetching do: each file has one text, or one answer says why there is none.
use Rattle.std.proofs.Common.{◌≡◌, ◌⊎◌, ◌<◌, ◌≤◌, ◌∙◌, ◌+◌, ◌++◌, ℕ, Err, List, [], ◌∷◌, None, Ok, Option, Result, Some, add-one, ap, arith, drop, get_or, inl, inr, length, map, refl, subst, sym, take}
use Rattle.std.proofs.Math.Seq.{drop-cons}
use Rattle.std.proofs.lemmas.List.{map-append, take-append-drop, take_all, take_more}
use Rattle.std.specs.Prelude.{IsSome}
use Rattle.dbpl_base.specs.declared.limits.TheConstants.{SOURCE_BYTES}
use Rattle.dbpl_base.specs.declared.status.Status.{Status}
use Rattle.dbpl_base.specs.declared.status.Status.TheVariants as status
use Rattle.dbpl_promise.proofs.Determined.{given, joined}
use Rattle.dbpl_promise.proofs.AnswerKinds.{Fault, HasKinds, Refusal, kind_of, kinds_given, kinds_joined}
use Rattle.dbpl_promise.specs.Faults.{source_faults}
use Rattle.dbpl_promise.specs.Stages.{IsDetermined, Stage, Stops, gives, ◌>>=◌}
use Rattle.dbpl_promise.specs.Work.{Work}
use Rattle.dbpl_sources.specs.Fetching.{IsUnreadable, all_fetched, fetched}
use Rattle.dbpl_sources.specs.Sources.{IsAbsent, IsTooLong}
use Rattle.dbpl_sources.specs.Texts.{MayHave}
use Rattle.dbpl_world.specs.Files.{Files}

-- ---- one file

unreadable_kind : (file : List ℕ) (work : Work) (answer : Status) → IsUnreadable file work answer → kind_of answer ≡ Refusal
unreadable_kind file work (status.Absent name) is = refl
unreadable_kind file work (status.TooLong name) is = refl
unreadable_kind file work _ is = absurd is

source_kind : (work : Work) (answer : Status) → source_faults work answer → kind_of answer ≡ Fault
source_kind work status.SourceFault rose = refl
source_kind work _ rose = absurd rose

pub fetched_kinds : (file : List ℕ) → HasKinds (fetched file)
fetched_kinds file = record { refuses = unreadable_kind file; fails = source_kind }

-- told files have one text of a name
one_text : (files : Option Files) (file a b : List ℕ) → IsSome files → MayHave files file a → MayHave files file b → a ≡ b
one_text None file a b told left right = absurd (cc (told))
one_text (Some files) file a b told left right = cc (left.told, right.told)

not_absent : (files : Option Files) (file text : List ℕ) → IsSome files → MayHave files file text → IsAbsent files file → ⊥
not_absent None file text told has absent = cc (told)
not_absent (Some files) file text told has absent = cc (has.told, absent)

not_long : (files : Option Files) (file text : List ℕ) → IsSome files → MayHave files file text → IsTooLong files file → ⊥
not_long None file text told has long = cc (told)
not_long (Some files) file text told has long =
    let same : long.0 ≡ text = cc (has.told, long.1) in
    let longer : SOURCE_BYTES < length text = subst (λ (t : List ℕ). SOURCE_BYTES < length t) same long.2 in
    omega (arith, longer, has.within)

not_both : (files : Option Files) (file : List ℕ) → IsSome files → IsAbsent files file → IsTooLong files file → ⊥
not_both None file told absent long = cc (told)
not_both (Some files) file told absent long = cc (absent, long.1)

module _ (file : List ℕ) (work : Work) (told : IsSome work.files) where
  refusal : (answer other : Status) → IsUnreadable file work answer → IsUnreadable file work other → answer ≡ other
  refusal (status.Absent name) (status.Absent other) left right = ap status.Absent (left.0 ∙ sym right.0)
  refusal (status.Absent name) (status.TooLong other) left right = absurd (not_both work.files file told left.1 right.1)
  refusal (status.TooLong name) (status.Absent other) left right = absurd (not_both work.files file told right.1 left.1)
  refusal (status.TooLong name) (status.TooLong other) left right = ap status.TooLong (left.0 ∙ sym right.0)
  refusal (status.Absent name) _ left right = absurd right
  refusal (status.TooLong name) _ left right = absurd right
  refusal _ other left right = absurd left

  apart : (text : List ℕ) (answer : Status) → MayHave work.files file text → IsUnreadable file work answer → ⊥
  apart text (status.Absent name) has is = not_absent work.files file text told has is.1
  apart text (status.TooLong name) has is = not_long work.files file text told has is.1
  apart text _ has is = absurd is

  pub fetched_determined : IsDetermined (fetched file) work
  fetched_determined = record {
    one = λ a b left right. one_text work.files file a b told left right;
    refusal = refusal;
    apart = apart;
  }

-- ---- several

-- the text of this file before those of the others
abbrev with_others : List (List ℕ) → List ℕ → Stage (List (List ℕ))
with_others files text = all_fetched files >>= λ texts. gives (text ∷ texts)

pub all_kinds : (files : List (List ℕ)) → HasKinds (all_fetched files)
all_kinds [] = kinds_given []
all_kinds (file ∷ files) =
    kinds_joined (fetched file) (with_others files) (fetched_kinds file)
    (λ text. kinds_joined (all_fetched files) (λ texts. gives (text ∷ texts)) (all_kinds files) (λ texts. kinds_given (text ∷ texts)))

pub all_determined : (files : List (List ℕ)) (work : Work) → IsSome work.files → IsDetermined (all_fetched files) work
all_determined [] work told = given work []
all_determined (file ∷ files) work told =
    joined (fetched file) (with_others files) work (fetched_determined file work told)
    (λ text passes. joined (all_fetched files) (λ texts. gives (text ∷ texts)) work (all_determined files work told)
    (λ texts behind. given work (text ∷ texts)))

-- fetching mounts no store
pub all_mounts : (files : List (List ℕ)) (work : Work) (name : List ℕ) → (all_fetched files).mounts work name → ⊥
all_mounts [] work name mounts = mounts
all_mounts (file ∷ files) work name (inl here) = here
all_mounts (file ∷ files) work name (inr (text, passes, inl behind)) = all_mounts files work name behind
all_mounts (file ∷ files) work name (inr (text, passes, inr behind)) = behind.2

-- ---- one after another

-- what passes with a front and with the rest passes with the whole
pub passes_on : (files others : List (List ℕ)) (texts more : List (List ℕ)) (work : Work) → (all_fetched files).passes work texts →
    (all_fetched others).passes work more → (all_fetched (files ++ others)).passes work (texts ++ more)
passes_on [] others texts more work front rest =
    subst (λ (t : List (List ℕ)). (all_fetched others).passes work (t ++ more)) (sym front) rest
passes_on (file ∷ files) others texts more work (text, here, (behind, then, is)) rest =
    (text, here, (behind ++ more, passes_on files others behind more work then rest, ap (λ (t : List (List ℕ)). t ++ more) is))

-- what stops behind a front that passes stops the whole
pub stops_on : (files others : List (List ℕ)) (texts : List (List ℕ)) (work : Work) (answer : Status) →
    (all_fetched files).passes work texts → Stops (all_fetched others) work answer → Stops (all_fetched (files ++ others)) work answer
stops_on [] others texts work answer front stops = stops
stops_on (file ∷ files) others texts work answer (text, here, (behind, then, is)) stops =
    by_stop (stops_on files others behind work answer then stops)
  where
    by_stop : Stops (all_fetched (files ++ others)) work answer → Stops (all_fetched (file ∷ files ++ others)) work answer
    by_stop (inl refuses) = inl (inr (text, here, inl refuses))
    by_stop (inr (inl fault)) = inr (inl (inr (text, here, inl fault)))
    by_stop (inr (inr memory)) = inr (inr memory)

-- the first of several that stops
pub stops_first : (file : List ℕ) (files : List (List ℕ)) (work : Work) (answer : Status) → Stops (fetched file) work answer →
    Stops (all_fetched (file ∷ files)) work answer
stops_first file files work answer (inl refuses) = inl (inl refuses)
stops_first file files work answer (inr (inl fault)) = inr (inl (inl fault))
stops_first file files work answer (inr (inr memory)) = inr (inr memory)

-- the loop over the files, at one of them
module _ {X : Type 0} (name : X → List ℕ) (xs : List X) (i : ℕ) (none : X) (inside : i < length xs)
    (work : Work) (texts : List (List ℕ)) (front : (all_fetched (map name (take i xs))).passes work texts) where
  split : xs ≡ take i xs ++ (get_or xs i none ∷ drop (i + 1) xs)
  split = sym (take-append-drop i xs) ∙ ap (λ ys. take i xs ++ ys) (rw (add-one, drop-cons xs i none inside) refl)

  pub one_more : (text : List ℕ) → (fetched (name (get_or xs i none))).passes work text →
      (all_fetched (map name (take (i + 1) xs))).passes work (texts ++ text ∷ [])
  one_more text has =
      subst (λ (files : List X). (all_fetched (map name files)).passes work (texts ++ text ∷ [])) (sym (take_more xs i none inside))
      (subst (λ (files : List (List ℕ)). (all_fetched files).passes work (texts ++ text ∷ [])) (sym (map-append name (take i xs) (get_or xs i none ∷ [])))
      (passes_on (map name (take i xs)) (name (get_or xs i none) ∷ []) texts (text ∷ []) work front (text, has, ([], refl, refl))))

  pub stops_here : (answer : Status) → Stops (fetched (name (get_or xs i none))) work answer → Stops (all_fetched (map name xs)) work answer
  stops_here answer stops =
      subst (λ (files : List X). Stops (all_fetched (map name files)) work answer) (sym split)
      (subst (λ (files : List (List ℕ)). Stops (all_fetched files) work answer) (sym (map-append name (take i xs) (get_or xs i none ∷ drop (i + 1) xs)))
      (stops_on (map name (take i xs)) (name (get_or xs i none) ∷ map name (drop (i + 1) xs)) texts work answer front
      (stops_first (name (get_or xs i none)) (map name (drop (i + 1) xs)) work answer stops)))

-- behind the last one
pub all_passed : {X : Type 0} (name : X → List ℕ) (xs : List X) (i : ℕ) (work : Work) (texts : List (List ℕ)) → length xs ≤ i →
    (all_fetched (map name (take i xs))).passes work texts → (all_fetched (map name xs)).passes work texts
all_passed name xs i work texts past front =
    subst (λ files. (all_fetched (map name files)).passes work texts) (take_all i xs past) front

-- ---- a fetch that failed

-- it is the answer, or none failed
pub fetch_answered : {T A : Type 0} (result : Result T Status) (answer : Status) → result ≡ Err answer →
    (result ≡ Err status.SourceFault) ⊎ A → (answer ≡ status.SourceFault) ⊎ A
fetch_answered result answer is (inl failed) = inl (let both = sym is ∙ failed in cc)
fetch_answered result answer is (inr fine) = inr fine

-- since an earlier moment
pub fetch_since : {T : Type 0} (result : Result T Status) (old mid new : ℕ) → mid ≡ old →
    (result ≡ Err status.SourceFault) ⊎ (new ≡ mid) → (result ≡ Err status.SourceFault) ⊎ (new ≡ old)
fetch_since result old mid new before (inl failed) = inl failed
fetch_since result old mid new before (inr fine) = inr (fine ∙ before)

-- what a `?` hands on
pub fetch_handed : {T X A : Type 0} (result : Result T Status) (ran : Result X Status) (answer : Status) → result ≡ Err answer →
    ran ≡ Err answer → (ran ≡ Err status.SourceFault) ⊎ A → (result ≡ Err status.SourceFault) ⊎ A
fetch_handed {T = T} result ran answer is was (inl failed) =
    let same : answer ≡ status.SourceFault = (let both = sym was ∙ failed in cc) in
    inl (is ∙ ap {B = Result T Status} (λ (a : Status). Err a) same)
fetch_handed result ran answer is was (inr fine) = inr fine

-- behind what was fetched none failed
pub fetched_well : {T A : Type 0} (result : Result T Status) (value : T) → result ≡ Ok value →
    (result ≡ Err status.SourceFault) ⊎ A → A
fetched_well result value is (inl failed) = absurd (let both = sym is ∙ failed in cc)
fetched_well result value is (inr fine) = fine
