-- The turns of the loops that put behind one another what each phrase of a list gives.
use Rattle.std.proofs.Common.{◌≡◌, ℕ, suc, ◌+◌, ◌<◌, Bool, true, false, if◌then◌else◌, List, [], ◌∷◌, ◌++◌, Option, Some, None, refl, sym, ap, ◌∙◌, add-one, append-nil, append_assoc, take, drop, get_or, length}
use Rattle.std.proofs.Math.Seq.{drop-cons}
use Rattle.std.proofs.lemmas.List.{take-append-drop, take_more}
use Rattle.dbpl_stored_form.specs.Lists.{joined_all, joined}

joined-none : {A : Type 0} (front : Option (List A)) → joined front None ≡ None
joined-none None = refl
joined-none (Some front) = refl

joined-nothing : {A : Type 0} (front : Option (List A)) → joined front (Some []) ≡ front
joined-nothing None = refl
joined-nothing (Some front) = ap Some (append-nil front)

nothing-joined : {A : Type 0} (behind : Option (List A)) → joined (Some []) behind ≡ behind
nothing-joined None = refl
nothing-joined (Some behind) = refl

joined-joined : {A : Type 0} (first second third : Option (List A)) →
    joined first (joined second third) ≡ joined (joined first second) third
joined-joined None second third = refl
joined-joined (Some first) None third = refl
joined-joined (Some first) (Some second) None = refl
joined-joined (Some first) (Some second) (Some third) = ap Some (sym (append_assoc first second third))

all_of-append : {A B : Type 0} (gives : A → Option (List B)) (front back : List A) →
    joined_all gives (front ++ back) ≡ joined (joined_all gives front) (joined_all gives back)
all_of-append gives [] back = sym (nothing-joined (joined_all gives back))
all_of-append gives (x ∷ front) back =
    ap (joined (gives x)) (all_of-append gives front back)
    ∙ joined-joined (gives x) (joined_all gives front) (joined_all gives back)

at_index : {A : Type 0} (xs : List A) (i : ℕ) (x : A) → x ≡ get_or xs i x → i < length xs → xs ≡ take i xs ++ (x ∷ drop (i + 1) xs)
at_index xs i x here within =
    sym (take-append-drop i xs)
    ∙ ap (λ ys. take i xs ++ ys) (rw (add-one, drop-cons xs i x within) (ap (λ y. y ∷ drop (suc i) xs) (sym here)))

-- what a phrase gave, where it was of the form, and where it was not
added_some : {A : Type 0} (added : Bool) (found : Option A) (new : A) → found ≡ (if added then Some new else None) → added ≡ true →
    found ≡ Some new
added_some added found new e was = e ∙ ap (λ b. if b then Some new else None) was

added_none : {A : Type 0} (added : Bool) (found : Option A) (new : A) → found ≡ (if added then Some new else None) → added ≡ false →
    found ≡ None
added_none added found new e was = e ∙ ap (λ b. if b then Some new else None) was

-- the phrases so far with one more
pub turn_more : {A B : Type 0} (gives : A → Option (List B)) (head xs : List A) (i : ℕ) (x : A) (added : Bool) (all new : List B) →
    x ≡ get_or xs i x → i < length xs → joined_all gives (head ++ take i xs) ≡ Some all →
    joined (Some all) (gives x) ≡ (if added then Some new else None) → added ≡ true →
    joined_all gives (head ++ take (i + 1) xs) ≡ Some new
turn_more gives head xs i x added all new here within so_far next was =
    ap (λ ys. joined_all gives (head ++ ys)) (take_more xs i x within ∙ ap (λ y. take i xs ++ y ∷ []) (sym here))
    ∙ ap (joined_all gives) (sym (append_assoc head (take i xs) (x ∷ [])))
    ∙ all_of-append gives (head ++ take i xs) (x ∷ [])
    ∙ ap (λ front. joined front (joined (gives x) (Some []))) so_far
    ∙ ap (joined (Some all)) (joined-nothing (gives x))
    ∙ added_some added (joined (Some all) (gives x)) new next was

-- one of another form
pub turn_none : {A B : Type 0} (gives : A → Option (List B)) (head xs : List A) (i : ℕ) (x : A) (added : Bool) (all new : List B) →
    x ≡ get_or xs i x → i < length xs → joined_all gives (head ++ take i xs) ≡ Some all →
    joined (Some all) (gives x) ≡ (if added then Some new else None) → added ≡ false →
    joined_all gives (head ++ xs) ≡ None
turn_none gives head xs i x added all new here within so_far next was =
    ap (λ ys. joined_all gives (head ++ ys)) (at_index xs i x here within)
    ∙ ap (joined_all gives) (sym (append_assoc head (take i xs) (x ∷ drop (i + 1) xs)))
    ∙ all_of-append gives (head ++ take i xs) (x ∷ drop (i + 1) xs)
    ∙ ap (λ front. joined front (joined (gives x) (joined_all gives (drop (i + 1) xs)))) so_far
    ∙ joined-joined (Some all) (gives x) (joined_all gives (drop (i + 1) xs))
    ∙ ap (λ front. joined front (joined_all gives (drop (i + 1) xs))) (added_none added (joined (Some all) (gives x)) new next was)

-- the first of several
pub first_none : {A B : Type 0} (gives : A → Option (List B)) (first : A) (others : List A) (added : Bool) (none new : List B) →
    none ≡ [] → joined (Some none) (gives first) ≡ (if added then Some new else None) → added ≡ false →
    joined_all gives (first ∷ others) ≡ None
first_none gives first others added none new empty next was =
    ap (λ front. joined front (joined_all gives others))
    (sym (nothing-joined (gives first))
    ∙ ap (λ front. joined (Some front) (gives first)) (sym empty)
    ∙ added_none added (joined (Some none) (gives first)) new next was)

pub first_some : {A B : Type 0} (gives : A → Option (List B)) (first : A) (added : Bool) (none all : List B) →
    none ≡ [] → joined (Some none) (gives first) ≡ (if added then Some all else None) → added ≡ true →
    joined_all gives (first ∷ []) ≡ Some all
first_some gives first added none all empty next was =
    joined-nothing (gives first)
    ∙ sym (nothing-joined (gives first))
    ∙ ap (λ front. joined (Some front) (gives first)) (sym empty)
    ∙ added_some added (joined (Some none) (gives first)) all next was
