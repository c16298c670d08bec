-- The least of several breaches, as it is kept while they are noted.
use Rattle.std.proofs.Common.{◌≡◌, ◌≢◌, Bool, true, false, if◌then◌else◌, List, [], ◌∷◌, ◌++◌, Option, Some, None, IfSome, IsSome, ◌⊎◌, inl, inr, refl, sym, ap, ◌∙◌, arith}
use Rattle.std.proofs.lemmas.List.Elements.{All-cons, All-nil, Contains-append_right}
use Rattle.std.specs.List.{All, Contains}
use Rattle.std.specs.Ordering.{is_gt, is_lt, ordering_reverse}
use Rattle.std.specs.declared.cmp.Ordering.{Ordering}
use Rattle.std.specs.declared.cmp.Ordering.TheVariants.{Less, Equal, Greater}
use Rattle.std.proofs.lemmas.Cmp.{tied_itself, upto}
use Rattle.dbpl_base.specs.Order.{is_before, refusal_cmp, refusal_total}
use Rattle.dbpl_base.specs.declared.refusal.Refusal.{Refusal}
use Rattle.dbpl_judging.specs.Checking.{Checking, all_noted, least, noted, noting}

-- ---- noting

pub all_noted-append :
    (found : Option Refusal) (breaches others : List Refusal) →
    all_noted found (breaches ++ others) ≡ all_noted (all_noted found breaches) others
all_noted-append found [] others = refl
all_noted-append found (breach ∷ breaches) others = all_noted-append (noted found breach) breaches others

-- two lists that are noted one after the other are noted as one
pub noting-append :
    (breaches others : List Refusal) (checker : Checking) →
    noting (breaches ++ others) checker ≡ noting others (noting breaches checker)
noting-append breaches others checker =
    ap (λ (found : Option Refusal). let kept : Checking = record checker { least = found } in kept)
    (all_noted-append checker.least breaches others)

-- ---- the order

-- the one is not before the other
abbrev IsNotBefore : Refusal → Refusal → Type 0
IsNotBefore one other = is_before one other ≡ false

turned : (one other : Ordering) → one ≡ ordering_reverse other → is_lt one ≡ is_gt other
turned one Less e = ap is_lt e
turned one Equal e = ap is_lt e
turned one Greater e = ap is_lt e

before_turned : (one other : Refusal) → is_before one other ≡ is_gt (refusal_cmp other one)
before_turned one other = turned (refusal_cmp one other) (refusal_cmp other one) (refusal_total.antisymm one other)

not_before_itself : (breach : Refusal) → IsNotBefore breach breach
not_before_itself breach = ap is_lt (tied_itself refusal_total breach)

not_before-trans : (one two three : Refusal) → IsNotBefore one two → IsNotBefore two three → IsNotBefore one three
not_before-trans one two three first second =
    before_turned one three
    ∙ upto refusal_total three two one (sym (before_turned two three) ∙ second) (sym (before_turned one two) ∙ first)

back : (one other : Ordering) → one ≡ ordering_reverse other → is_lt other ≡ true → is_lt one ≡ false
back one Less e before = ap is_lt e
back one Equal e before = ap is_lt e
back one Greater e before = ap is_lt e ∙ sym before

-- who is after another is not before it
after_not_before : (one other : Refusal) → is_before other one ≡ true → IsNotBefore one other
after_not_before one other = back (refusal_cmp one other) (refusal_cmp other one) (refusal_total.antisymm one other)

-- ---- the lesser of two

abbrev lesser : Refusal → Refusal → Refusal
lesser found breach = if is_before breach found then breach else found

abbrev IsLesser : Refusal → Refusal → Refusal → Type 0
IsLesser found breach one = IsNotBefore found one × IsNotBefore breach one × ((one ≡ found) ⊎ (one ≡ breach))

lesser_by : (found breach : Refusal) (test : Bool) → is_before breach found ≡ test → IsLesser found breach (if test then breach else found)
lesser_by found breach true before = (after_not_before found breach before, not_before_itself breach, inr refl)
lesser_by found breach false before = (not_before_itself found, before, inl refl)

lesser_is : (found breach : Refusal) → IsLesser found breach (lesser found breach)
lesser_is found breach = lesser_by found breach (is_before breach found) refl

-- ---- the least of several

-- none is before it, of these and of what was found before
abbrev IsFirst : Refusal → List Refusal → Refusal → Type 0
IsFirst found breaches one = IsNotBefore found one × All (λ breach. IsNotBefore breach one) breaches

first_more :
    (found breach : Refusal) (breaches : List Refusal) (one : Option Refusal) → IfSome one (IsFirst (lesser found breach) breaches) →
    IfSome one (IsFirst found (breach ∷ breaches))
first_more found breach breaches None first = tt
first_more found breach breaches (Some one) first = (
  not_before-trans found (lesser found breach) one (lesser_is found breach).0 first.0,
  All-cons (λ other. IsNotBefore other one) breach breaches
      (not_before-trans breach (lesser found breach) one (lesser_is found breach).1 first.0) first.1,
)

first_of_all : (found : Refusal) (breaches : List Refusal) → IfSome (all_noted (Some found) breaches) (IsFirst found breaches)
first_of_all found [] = (not_before_itself found, All-nil (λ other. IsNotBefore other found))
first_of_all found (breach ∷ breaches) =
    first_more found breach breaches (all_noted (Some (lesser found breach)) breaches)
    (first_of_all (lesser found breach) breaches)

first_among : (found : Refusal) (breaches : List Refusal) (one : Option Refusal) → IfSome one (IsFirst found breaches) →
    IfSome one (λ least. All (λ breach. IsNotBefore breach least) (found ∷ breaches))
first_among found breaches None first = tt
first_among found breaches (Some one) first = All-cons (λ other. IsNotBefore other one) found breaches first.0 first.1

pub least_first : (breaches : List Refusal) → IfSome (least breaches) (λ one. All (λ breach. is_before breach one ≡ false) breaches)
least_first [] = tt
least_first (found ∷ breaches) = first_among found breaches (all_noted (Some found) breaches) (first_of_all found breaches)

first_in : (first : Refusal) (breaches : List Refusal) (one : Refusal) → one ≡ first → Contains (first ∷ breaches) one
first_in first breaches one is = (0, omega arith, sym is)

-- it is what was found before, or one of these
abbrev IsOne : Refusal → List Refusal → Refusal → Type 0
IsOne found breaches one = (one ≡ found) ⊎ Contains breaches one

one_more_of :
    (found breach one : Refusal) (breaches : List Refusal) (which : (lesser found breach ≡ found) ⊎ (lesser found breach ≡ breach)) →
    IsOne (lesser found breach) breaches one → IsOne found (breach ∷ breaches) one
one_more_of found breach one breaches (inl first) (inl here) = inl (here ∙ first)
one_more_of found breach one breaches (inr other) (inl here) = inr (first_in breach breaches one (here ∙ other))
one_more_of found breach one breaches which (inr there) = inr (Contains-append_right (breach ∷ []) breaches one there)

one_more_in :
    (found breach : Refusal) (breaches : List Refusal) (one : Option Refusal) → IfSome one (IsOne (lesser found breach) breaches) →
    IfSome one (IsOne found (breach ∷ breaches))
one_more_in found breach breaches None is = tt
one_more_in found breach breaches (Some one) is = one_more_of found breach one breaches (lesser_is found breach).2 is

one_of_all : (found : Refusal) (breaches : List Refusal) → IfSome (all_noted (Some found) breaches) (IsOne found breaches)
one_of_all found [] = inl refl
one_of_all found (breach ∷ breaches) =
    one_more_in found breach breaches (all_noted (Some (lesser found breach)) breaches) (one_of_all (lesser found breach) breaches)

one_among : (found : Refusal) (breaches : List Refusal) (one : Option Refusal) → IfSome one (IsOne found breaches) →
    IfSome one (Contains (found ∷ breaches))
one_among found breaches None is = tt
one_among found breaches (Some one) (inl here) = first_in found breaches one here
one_among found breaches (Some one) (inr there) = Contains-append_right (found ∷ []) breaches one there

pub least_is_one : (breaches : List Refusal) → IfSome (least breaches) (Contains breaches)
least_is_one [] = tt
least_is_one (found ∷ breaches) = one_among found breaches (all_noted (Some found) breaches) (one_of_all found breaches)

-- ---- a refused phrase has one

pub some_noted : (found : Refusal) (breaches : List Refusal) → IsSome (all_noted (Some found) breaches)
some_noted found [] = refl
some_noted found (breach ∷ breaches) = some_noted (lesser found breach) breaches

none_noted : (found : Refusal) (breaches : List Refusal) → all_noted (Some found) breaches ≡ None → ⊥
none_noted found [] none = cc
none_noted found (breach ∷ breaches) none = none_noted (lesser found breach) breaches none

pub least_is_there : (breaches : List Refusal) → breaches ≢ [] → IsSome (least breaches)
least_is_there [] some = absurd (some refl)
least_is_there (found ∷ breaches) some = some_noted found breaches

-- where none was kept, none was broken
pub none_least : (breaches : List Refusal) → least breaches ≡ None → breaches ≡ []
none_least [] none = refl
none_least (found ∷ breaches) none = absurd (none_noted found breaches none)
