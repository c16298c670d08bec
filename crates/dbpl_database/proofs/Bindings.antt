-- A relation variable put in its place.
use Rattle.std.proofs.Common.{◌≡◌, ◌≤◌, ◌+◌, ◌<◌, ℕ, suc, Bool, true, false, not, cond, ltb, List, [], ◌∷◌, length, Some, None, slice_get, refl, ap, sym, ◌∙◌, arith, insert}
use Rattle.std.proofs.lemmas.Bool.{ltb-false, ltb-true}
use Rattle.std.proofs.lemmas.Iterator.Adapters.{position_from-zero}
use Rattle.std.proofs.lemmas.List.Sums.{prefix_len-le-length}
use Rattle.std.proofs.lemmas.List.Folds.{find_at}
use Rattle.std.proofs.lemmas.Option.{slice_get_past}
use Rattle.std.specs.List.{find, position_from, position_or_len}
use Rattle.std.specs.Option.{option_and_then, unwrap_or}
use Rattle.std.specs.Ordering.{is_lt}
use Rattle.std.specs.Prelude.{IfSome}
use Rattle.dbpl_value.specs.Binding.{empty_bound, with_bound}
use Rattle.dbpl_value.specs.Databases.{name_cmp}
use Rattle.dbpl_value.specs.declared.bound.Bound.{Bound}
use Rattle.dbpl_value.specs.declared.field.Field.{Field}

inserted-at :
    (new bound : Bound) (others : List Bound) →
    insert others (position_or_len (λ other. is_lt (name_cmp new.name other.name)) others) new ≡ with_bound new others →
    (less : Bool) → is_lt (name_cmp new.name bound.name) ≡ less →
    insert (bound ∷ others) (position_or_len (λ other. is_lt (name_cmp new.name other.name)) (bound ∷ others)) new
    ≡ with_bound new (bound ∷ others)
inserted-at new bound others rest true e = rw e refl
inserted-at new bound others rest false e =
    let count = position_or_len (λ other. is_lt (name_cmp new.name other.name)) others in
    let one : 1 + count ≡ suc count = omega arith in
    rw (e, one) (ap (λ xs. bound ∷ xs) rest)

pub inserted :
    (new : Bound) (database : List Bound) →
    insert database (position_or_len (λ bound. is_lt (name_cmp new.name bound.name)) database) new ≡ with_bound new database
inserted new [] = refl
inserted new (bound ∷ others) =
    inserted-at new bound others (inserted new others) (is_lt (name_cmp new.name bound.name)) refl

-- the first that passes, or else the end
pub first_or_end :
    {X : Type 0} (test : X → Bool) (xs : List X) → unwrap_or (position_from test 0 xs) (length xs) ≡ position_or_len test xs
first_or_end test xs = rw (← position_from-zero test xs) (by_test (ltb (position_or_len test xs) (length xs)) refl)
  where
    by_test :
        (within : Bool) → ltb (position_or_len test xs) (length xs) ≡ within →
        unwrap_or (cond within (Some (position_or_len test xs)) None) (length xs) ≡ position_or_len test xs
    by_test true e = refl
    by_test false e =
        let most = prefix_len-le-length (λ x. not (test x)) xs in
        let least = ltb-false (position_or_len test xs) (length xs) e in
        omega (arith, most, least)

pub first_or_end-within :
    {X : Type 0} (test : X → Bool) (xs : List X) → position_or_len test xs ≤ length xs
first_or_end-within test xs = prefix_len-le-length (λ x. not (test x)) xs

-- put where it belongs
pub added :
    (field : Field) (bound : Bound) (database seen after : List Bound) (at : ℕ) → after ≡ insert database at bound →
    at ≡ position_or_len (λ other. is_lt (name_cmp field.name other.name)) seen → seen ≡ database →
    bound ≡ empty_bound field → after ≡ with_bound (empty_bound field) database
added field bound database seen after at put place same is =
    put ∙ rw (place, same, is) (inserted (empty_bound field) database)

-- the first that passes, by its place
pub found_at :
    {X : Type 0} (test : X → Bool) (xs : List X) → option_and_then (slice_get xs) (position_from test 0 xs) ≡ find test xs
found_at test xs = rw (← position_from-zero test xs, find_at test xs) (by_test (ltb (position_or_len test xs) (length xs)) refl)
  where
    by_test :
        (within : Bool) → ltb (position_or_len test xs) (length xs) ≡ within →
        option_and_then (slice_get xs) (cond within (Some (position_or_len test xs)) None)
        ≡ slice_get xs (position_or_len test xs)
    by_test true e = refl
    by_test false e = sym (slice_get_past xs (position_or_len test xs) (ltb-false (position_or_len test xs) (length xs) e))

pub found_within :
    {X : Type 0} (test : X → Bool) (xs : List X) → IfSome (position_from test 0 xs) (λ at. at < length xs)
found_within test xs = rw (← position_from-zero test xs) (by_test (ltb (position_or_len test xs) (length xs)) refl)
  where
    by_test :
        (within : Bool) → ltb (position_or_len test xs) (length xs) ≡ within →
        IfSome (cond within (Some (position_or_len test xs)) None) (λ at. at < length xs)
    by_test true e = ltb-true (position_or_len test xs) (length xs) e
    by_test false e = tt
