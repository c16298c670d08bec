-- What a change keeps of an open store.
use Rattle.std.proofs.Common.{◌≡◌, ◌≤◌, ◌<◌, ◌&&◌, ℕ, zero, suc, Bool, true, false, if◌then◌else◌, List, [], ◌∷◌, length, get_or, slice_get, Option, Some, None, IsSome, IfSome, inl, inr, refl, sym, ap, subst, ◌∙◌, arith, insert, remove}
use Rattle.std.proofs.lemmas.Option.{get_or_from_slice_get, slice_get_past}
use Rattle.std.proofs.lemmas.Bool.{cases_lt}
use Rattle.std.proofs.lemmas.Slice.Eq.{bytes_eq-Decides}
use Rattle.std.specs.Cmp.{first_so, second_so}
use Rattle.std.specs.List.{find, list_all}
use Rattle.std.specs.Option.{is_some, option_and_then, option_map, unwrap_or}
use Rattle.dbpl_codec.proofs.ByteLaws.{some_is}
use Rattle.dbpl_value.proofs.Holding.{get_set}
use Rattle.dbpl_value.proofs.KeptDatabases.{added_kept, held_kept}
use Rattle.dbpl_value.proofs.BoundTo.{binds-absent, binds-there, differs-where}
use Rattle.dbpl_value.specs.Binding.{Binds, Differs, bound_named, empty_bound, holding, with_bound, with_relation}
use Rattle.dbpl_value.specs.Databases.{are_small, is_bound, is_database, is_kept}
use Rattle.dbpl_database.specs.Reading.{database_of}
use Rattle.dbpl_database.specs.Spelling.{database_bytes}
use Rattle.dbpl_store.proofs.Standing.{committed-is, spelt-read}
use Rattle.dbpl_store.specs.Kept.{IsKept, IsSpelt}
use Rattle.dbpl_value.proofs.ValuesLemmas.{list_all-slice_get}
use Rattle.dbpl_value.specs.Types.{is_same_name}
use Rattle.dbpl_value.specs.Values.{is_of}
use Rattle.dbpl_value.specs.declared.bound.Bound.{Bound}
use Rattle.dbpl_value.specs.declared.field.Field.{Field}
use Rattle.dbpl_value.specs.declared.value.Value.{Value}

-- ---- lists

-- what was put in is taken out again
pub put-and-taken : {X : Type 0} (xs : List X) (i : ℕ) (x : X) → i ≤ length xs → remove (insert xs i x) i ≡ xs
put-and-taken [] zero x within = refl
put-and-taken [] (suc i) x within = absurd (omega arith)
put-and-taken (y ∷ xs) zero x within = refl
put-and-taken (y ∷ xs) (suc i) x within = ap (λ (ys : List _). y ∷ ys) (put-and-taken xs i x (omega arith))

pub got-again : {X : Type 0} (xs : List X) (i : ℕ) (x : X) → i ≤ length xs → slice_get (insert xs i x) i ≡ Some x
got-again [] zero x within = refl
got-again [] (suc i) x within = absurd (omega arith)
got-again (y ∷ xs) zero x within = refl
got-again (y ∷ xs) (suc i) x within = got-again xs i x (omega arith)

pub within-got : {X : Type 0} (xs : List X) (i : ℕ) → IsSome (slice_get xs i) → i < length xs
within-got xs i some =
    elim (cases_lt i (length xs)) [
      | inl lt ↦ lt
      | inr le ↦ let none = subst IsSome (slice_get_past xs i le) some in absurd cc
    ]

-- what was found passes the test
found-passes : {X : Type 0} (test : X → Bool) (xs : List X) (x : X) → find test xs ≡ Some x → test x ≡ true
found-passes test [] x e = absurd cc
found-passes test (y ∷ xs) x e = by_test (test y) refl e (found-passes test xs x)
  where
    by_test :
        (passed : Bool) → test y ≡ passed → (if passed then Some y else find test xs) ≡ Some x →
        (find test xs ≡ Some x → test x ≡ true) → test x ≡ true
    by_test true p f later = let same = some_is y x f in rw (← same) p
    by_test false p f later = later f

-- ---- the spelling that is kept

pub kept-none :
    {X : Type 0} (items : X → List ℕ) (stored : List ℕ) (database : List Bound) (changed : Option X) →
    IsKept stored database (option_map items changed) → changed ≡ None → IsSpelt database stored
kept-none items stored database None kept e = kept.spells
kept-none items stored database (Some x) kept e = absurd cc

pub kept-some :
    {X : Type 0} (items : X → List ℕ) (stored : List ℕ) (database : List Bound) (changed : Option X) (x : X) →
    IsKept stored database (option_map items changed) → changed ≡ Some x → IsSpelt database (items x)
kept-some items stored database None x kept e = absurd cc
kept-some items stored database (Some y) x kept e = let same = some_is y x e in rw (← same) kept.spells

-- the last commit's is the database's
pub committed-kept :
    (stored : List ℕ) (database : List Bound) → is_database database ≡ true → IsSpelt database stored →
    unwrap_or (database_of stored) [] ≡ database
committed-kept stored database sound spelt = committed-is database stored (spelt-read database stored sound spelt)

pub settled-kept :
    {X : Type 0} (items : X → List ℕ) (bytes : List ℕ) (database : List Bound) (changed : Option X) →
    is_database database ≡ true → IsSpelt database bytes → changed ≡ None → IsKept bytes database (option_map items changed)
settled-kept items bytes database None sound spelt e = record {
  stored_spells = ap is_some (spelt-read database bytes sound spelt);
  stored_is = spelt.is ∙ ap database_bytes (sym (committed-kept bytes database sound spelt));
  spells = spelt;
}
settled-kept items bytes database (Some x) sound spelt e = absurd cc

-- ---- binding

pub differs-there :
    (field : Field) (database : List Bound) (at : ℕ) (bound : Bound) (is_same : Bool) →
    slice_get database at ≡ bound_named field.name database → slice_get database at ≡ Some bound →
    (bound.kind ≡ field.kind → is_same ≡ true) → is_same ≡ false → Differs field database
differs-there field database at bound is_same named got same not_same =
    differs-where field database (bound, sym named ∙ got, (λ e. false-true is_same not_same (same e)))
  where
    false-true : (b : Bool) → b ≡ false → b ≡ true → ⊥
    false-true true e f = cc
    false-true false e f = cc

pub bound-there :
    (field : Field) (database : List Bound) (at : ℕ) (bound : Bound) →
    slice_get database at ≡ bound_named field.name database → slice_get database at ≡ Some bound →
    bound.kind ≡ field.kind →
    Binds field database database
    × ((x : Bound) × (slice_get database at ≡ Some x) × (x.name ≡ field.name) × (x.kind ≡ field.kind))
bound-there field database at bound named got same =
    let found : bound_named field.name database ≡ Some bound = sym named ∙ got in
    let passed = found-passes (λ (b : Bound). is_same_name b.name field.name) database bound found in
    (binds-there field database (bound, found, same), (bound, got, (bytes_eq-Decides bound.name field.name).0 passed, same))

pub bound-added :
    (field : Field) (database after : List Bound) (at : ℕ) → bound_named field.name database ≡ None → at ≤ length database →
    after ≡ insert database at (empty_bound field) → after ≡ with_bound (empty_bound field) database →
    Binds field database after
    × ((x : Bound) × (slice_get after at ≡ Some x) × (x.name ≡ field.name) × (x.kind ≡ field.kind))
bound-added field database after at none within put with_it = (
  rw with_it (binds-absent field database none),
  (empty_bound field, ap (λ (xs : List Bound). slice_get xs at) put ∙ got-again database at (empty_bound field) within, refl, refl),
)

pub added-sound :
    (field : Field) (database after : List Bound) → is_kept field.name field.kind ≡ true →
    bound_named field.name database ≡ None → is_database database ≡ true →
    after ≡ with_bound (empty_bound field) database → is_database after ≡ true
added-sound field database after kept none sound with_it = rw with_it (added_kept field database kept none sound)

-- where the place is none, so is the variable
pub named-none :
    (field : Field) (database : List Bound) (at : Option ℕ) →
    option_and_then (slice_get database) at ≡ bound_named field.name database → at ≡ None →
    bound_named field.name database ≡ None
named-none field database None named e = sym named
named-none field database (Some at) named e = absurd cc

-- ---- another relation

bound-at : (database : List Bound) (at : ℕ) → IsSome (slice_get database at) → (bound : Bound) × (slice_get database at ≡ Some bound)
bound-at database at some = by_got (slice_get database at) refl some
  where
    by_got : (got : Option Bound) → slice_get database at ≡ got → IsSome got → (bound : Bound) × (slice_get database at ≡ Some bound)
    by_got None e h = absurd cc
    by_got (Some bound) e h = (bound, e)

pub held-sound :
    (database after : List Bound) (at : ℕ) (relation : Value) → IsSome (slice_get database at) →
    IfSome (slice_get database at) (λ bound. (is_of bound.kind relation ≡ true) × (are_small bound.kind relation ≡ true)) →
    is_database database ≡ true → after ≡ with_relation relation at database → is_database after ≡ true
held-sound database after at relation some fits sound put =
    let bound = bound-at database at some in
    let holds =
    subst (λ (got : Option Bound). IfSome got (λ b. (is_of b.kind relation ≡ true) × (are_small b.kind relation ≡ true))) bound.1 fits
    in
    rw put (held_kept database at bound.0 relation bound.1 holds.0 holds.1 sound)

pub still-held :
    (database after : List Bound) (at : ℕ) (relation : Value) → IsSome (slice_get database at) →
    after ≡ with_relation relation at database →
    slice_get after at ≡ option_map (holding relation) (slice_get database at)
still-held database after at relation some put =
    let bound = bound-at database at some in
    let held : slice_get after at ≡ Some (holding relation bound.0) =
    ap (λ (xs : List Bound). slice_get xs at) (put ∙ rw bound.1 refl)
    ∙ get_set database at bound.0 (holding relation bound.0) bound.1
    in
    rw (held, bound.1) refl

pub still-within :
    (database after : List Bound) (at : ℕ) (relation : Value) → IsSome (slice_get database at) →
    after ≡ with_relation relation at database → at < length after
still-within database after at relation some put =
    let bound = bound-at database at some in
    let held : slice_get after at ≡ Some (holding relation bound.0) =
    ap (λ (xs : List Bound). slice_get xs at) (put ∙ rw bound.1 refl)
    ∙ get_set database at bound.0 (holding relation bound.0) bound.1
    in
    within-got after at (subst IsSome (sym held) refl)

-- ---- by the place of the bound variable

pub at-bound :
    (database : List Bound) (bound : Option ℕ) (at : ℕ) → bound ≡ Some at →
    IsSome (option_and_then (slice_get database) bound) → IsSome (slice_get database at)
at-bound database bound at e some = subst (λ (b : Option ℕ). IsSome (option_and_then (slice_get database) b)) e some

pub at-fits :
    (database : List Bound) (bound : Option ℕ) (at : ℕ) (P : Bound → Type 0) → bound ≡ Some at →
    IfSome (option_and_then (slice_get database) bound) P → IfSome (slice_get database at) P
at-fits database bound at P e fits = subst (λ (b : Option ℕ). IfSome (option_and_then (slice_get database) b) P) e fits

pub held-still :
    (database after : List Bound) (bound : Option ℕ) (at : ℕ) (relation : Value) → bound ≡ Some at →
    IsSome (option_and_then (slice_get database) bound) → after ≡ with_relation relation at database →
    option_and_then (slice_get after) bound ≡ option_map (holding relation) (option_and_then (slice_get database) bound)
held-still database after bound at relation e some put =
    rw e (still-held database after at relation (at-bound database bound at e some) put)

-- the relation in the bound variable is one of its type
pub whole-of :
    (database items : List Bound) (bound : Option ℕ) (at : ℕ) (other : Bound) → bound ≡ Some at →
    IsSome (option_and_then (slice_get database) bound) → items ≡ database → is_database database ≡ true →
    IfSome (option_and_then (slice_get database) bound)
    (λ b. (is_of b.kind (get_or items at other).rel ≡ true) × (are_small b.kind (get_or items at other).rel ≡ true))
whole-of database items bound at other e some same sound =
    let got = bound-at database at (at-bound database bound at e some) in
    let b = got.0 in
    let this = list_all-slice_get is_bound database at b (first_so (list_all is_bound database) _ sound) got.1 in
    let there : get_or items at other ≡ b = rw same (get_or_from_slice_get database at b other got.1) in
    rw (e, got.1, there) (
      second_so (is_kept b.name b.kind) (is_of b.kind b.rel)
          (first_so (is_kept b.name b.kind && is_of b.kind b.rel) (are_small b.kind b.rel) this),
      second_so (is_kept b.name b.kind && is_of b.kind b.rel) (are_small b.kind b.rel) this,
    )

-- ---- taken back

pub taken-back :
    (field : Field) (database with_it after : List Bound) (at : ℕ) → at ≤ length database →
    with_it ≡ insert database at (empty_bound field) → after ≡ remove with_it at → after ≡ database
taken-back field database with_it after at within put taken =
    taken ∙ ap (λ (xs : List Bound). remove xs at) put ∙ put-and-taken database at (empty_bound field) within
