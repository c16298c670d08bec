-- What is known of a part where something was found in it.
use Rattle.std.proofs.Common.{◌≡◌, ◌&&◌, Bool, true, false, if◌then◌else◌, List, [], ◌∷◌, ◌++◌, Option, Some, None, option_and_then, option_map, refl, ap, ◌∙◌}
use Rattle.std.proofs.lemmas.List.Folds.{list_all-append}
use Rattle.std.specs.List.{list_all}
use Rattle.dbpl_stored_form.specs.Lists.{joined_all, joined, one_of, passing}

-- what a test lets through
pub under : {A : Type 0} (test : Bool) (answer : Option A) (found : A) → (if test then answer else None) ≡ Some found →
    (test ≡ true) × (answer ≡ Some found)
under true answer found e = (refl, e)
under false answer found e = absurd (cc)

pub passed : {A : Type 0} (test : A → Bool) (x found : A) → passing test x ≡ Some found → (test x ≡ true) × (x ≡ found)
passed test x found e =
    let let_through = under (test x) (Some x) found e in
    (let_through.0, cc (let_through.1))

pub then_of : {A B : Type 0} (next : A → Option B) (first : Option A) (found : B) → option_and_then next first ≡ Some found →
    (x : A) × (first ≡ Some x) × (next x ≡ Some found)
then_of next None found e = absurd (cc)
then_of next (Some x) found e = (x, refl, e)

pub made_of : {A B : Type 0} (make : A → B) (first : Option A) (found : B) → option_map make first ≡ Some found →
    (x : A) × (first ≡ Some x) × (make x ≡ found)
made_of make None found e = absurd (cc)
made_of make (Some x) found e = (x, refl, cc)

pub one_is : {A : Type 0} (first : Option A) (found : List A) → one_of first ≡ Some found →
    (x : A) × (first ≡ Some x) × (x ∷ [] ≡ found)
one_is first found e = made_of (λ x. x ∷ []) first found e

joined_of : {A : Type 0} (first second : Option (List A)) (found : List A) → joined first second ≡ Some found →
    (front : List A) × (back : List A) × (first ≡ Some front) × (second ≡ Some back) × (front ++ back ≡ found)
joined_of None second found e = absurd (cc)
joined_of (Some front) second found e =
    let behind = made_of (λ rest. front ++ rest) second found e in
    (front, behind.0, refl, behind.1, behind.2)

-- what holds of all that each gives holds of all that they give
pub all_pass : {A B : Type 0} (gives : A → Option (List B)) (test : B → Bool) →
    ((x : A) (ys : List B) → gives x ≡ Some ys → list_all test ys ≡ true) →
    (xs : List A) (ys : List B) → joined_all gives xs ≡ Some ys → list_all test ys ≡ true
all_pass gives test each [] ys e =
    let none : [] ≡ ys = cc e in
    rw (← none) refl
all_pass gives test each (x ∷ xs) ys e =
    let parts = joined_of (gives x) (joined_all gives xs) ys e in
    let front = parts.0 in
    let back = parts.1 in
    rw (← parts.4)
    (list_all-append test front back
    ∙ ap (λ (b : Bool). b && list_all test back) (each x front parts.2)
    ∙ all_pass gives test each xs back parts.3)

pub one_passes : {A : Type 0} (test : A → Bool) (x : A) (ys : List A) → x ∷ [] ≡ ys → test x ≡ true → list_all test ys ≡ true
one_passes test x ys e passes = rw (← e, passes) refl
