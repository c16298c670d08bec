-- A rule that is asked behind others.
use Rattle.std.proofs.Common.{◌≡◌, ℕ, ℤ, Bool, true, false, if◌then◌else◌, List, [], ◌∷◌, ◌++◌, Option, Some, None, Ok, refl, sym, ap, ◌∙◌, append-nil}
use Rattle.std.specs.Option.{is_some}
use Rattle.dbpl_base.specs.declared.place.Place.{Place}
use Rattle.dbpl_base.specs.declared.refusal.Refusal.{Refusal}
use Rattle.dbpl_judging.proofs.Least.{noting-append}
use Rattle.dbpl_judging.specs.Checking.{Checking, noting}
use Rattle.dbpl_judging.specs.Judgements.{Judged, asks, breach_of, good, ◌>>◌}
use Rattle.dbpl_judging.specs.Judging.{Judges}
use Rattle.dbpl_rules_operators.specs.Rules.{S15, lawful}

unlawful_by : (number : Option ℤ) (holds : Bool) → (if holds then Some number else None) ≡ None → holds ≡ false
unlawful_by number true none = cc
unlawful_by number false none = refl

-- what is no lawful constant breaks the rule on constants
pub unlawful : (number : Option ℤ) → lawful number ≡ None → S15 number ≡ false
unlawful number none = unlawful_by number (S15 number) none

broken_by :
    {A B : Type 0} (core : Option A) (breaches : List Refusal) (rule : ℕ) (place : Place) (holds : Bool) (made : B)
    (old middle new : Checking) → is_some core ≡ true → middle ≡ noting breaches old → holds ≡ false →
    new ≡ noting (breach_of rule place ∷ []) middle →
    Judges (record { breaches = breaches; core = core } >> asks rule place holds >> good made) (Ok None) old new
broken_by None breaches rule place holds made old middle new kept is broken noted = absurd (cc)
broken_by (Some core) breaches rule place true made old middle new kept is broken noted = absurd (cc)
broken_by (Some core) breaches rule place false made old middle new kept is broken noted =
    let breach : List Refusal = breach_of rule place ∷ [] in
    let whole : new ≡ noting (breaches ++ breach) old =
    noted ∙ ap (noting breach) is ∙ sym (noting-append breaches breach old) in
    (refl, whole ∙ ap (λ (all : List Refusal). noting all old) (sym (append-nil (breaches ++ breach))))

-- where the first rules hold, the next one may be broken
pub broken_behind :
    {A B : Type 0} (rules : Judged A) (rule : ℕ) (place : Place) (holds : Bool) (made : B) (old middle new : Checking) →
    is_some rules.core ≡ true → middle ≡ noting rules.breaches old → holds ≡ false →
    new ≡ noting (breach_of rule place ∷ []) middle →
    Judges (rules >> asks rule place holds >> good made) (Ok None) old new
broken_behind rules = broken_by rules.core rules.breaches
