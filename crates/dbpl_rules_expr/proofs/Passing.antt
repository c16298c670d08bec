-- As many parts as tests.
use Rattle.std.proofs.Common.{arith, sym, ◌≡◌, ◌&&◌, ◌==◌, ℕ, zero, suc, Bool, true, false, List, [], ◌∷◌, map, length, refl, ap, ◌∙◌}
use Rattle.std.proofs.lemmas.Bool.Decides.{nat_tests}
use Rattle.std.specs.Prelude.{replicate}
use Rattle.std.specs.List.{list_all}
use Rattle.dbpl_judging.specs.declared.typed.Typed.{Typed}
use Rattle.dbpl_rules_operators.specs.Fitting.{fits}
use Rattle.dbpl_value.specs.Equality.{each_passes}
use Rattle.dbpl_value.specs.declared.db_type.DbType.{DbType}

and_false : (test : Bool) → (test && false) ≡ false
and_false true = refl
and_false false = refl

-- where there are more of the one than of the other, not each passes
pub unequal :
    {W X Z A : Type 0} (test : X → A → Bool) (k : W → X) (g : Z → A) (xs : List W) (zs : List Z) →
    (length xs ≡ length zs → ⊥) → each_passes (map test (map k xs)) (map g zs) ≡ false
unequal test k g [] [] different = absurd (different refl)
unequal test k g [] (z ∷ zs) different = refl
unequal test k g (x ∷ xs) [] different = refl
unequal test k g (x ∷ xs) (z ∷ zs) different =
    ap (λ (rest : Bool). test (k x) (g z) && rest) (unequal test k g xs zs (λ same. different (ap suc same)))
    ∙ and_false (test (k x) (g z))

swap : (a b c : Bool) → (a && (b && c)) ≡ (b && (a && c))
swap true b c = refl
swap false true c = refl
swap false false c = refl

none_counted : (count : ℕ) → (0 == suc count) ≡ false
none_counted count = grind (arith, nat_tests)

none_left : (count : ℕ) → (suc count == 0) ≡ false
none_left count = grind (arith, nat_tests)

both_less : (count other : ℕ) → (suc count == suc other) ≡ (count == other)
both_less count other = grind (arith, nat_tests)

-- the same test for each part
pub all_same :
    (count : ℕ) (t : DbType) (parts : List Typed) →
    each_passes (map fits (replicate count t)) (map (λ (part : Typed). part.facts) parts)
    ≡ ((count == length parts) && list_all (λ (part : Typed). fits t part.facts) parts)
all_same zero t [] = refl
all_same zero t (part ∷ parts) =
    ap (λ (counted : Bool). counted && (fits t part.facts && list_all (λ (one : Typed). fits t one.facts) parts))
    (sym (none_counted (length parts)))
all_same (suc count) t [] = ap (λ (counted : Bool). counted && true) (sym (none_left count))
all_same (suc count) t (part ∷ parts) =
    let all : Bool = list_all (λ (one : Typed). fits t one.facts) parts in
    ap (λ (rest : Bool). fits t part.facts && rest) (all_same count t parts)
    ∙ swap (fits t part.facts) (count == length parts) all
    ∙ ap (λ (counted : Bool). counted && (fits t part.facts && all)) (sym (both_less count (length parts)))
