-- A relation put in the place of the one that a variable holds.
use Rattle.std.proofs.Common.{◌≡◌, ℕ, zero, suc, List, [], ◌∷◌, slice_get, slice_set, Some, refl, ap, ◌∙◌}
use Rattle.dbpl_value.specs.Binding.{holding, with_relation}
use Rattle.dbpl_value.specs.declared.bound.Bound.{Bound}
use Rattle.dbpl_value.specs.declared.value.Value.{Value}

pub set_twice : {X : Type 0} (xs : List X) (i : ℕ) (a b : X) → slice_set (slice_set xs i a) i b ≡ slice_set xs i b
set_twice [] i a b = refl
set_twice (x ∷ xs) zero a b = refl
set_twice (x ∷ xs) (suc i) a b = ap (λ (ys : List _). x ∷ ys) (set_twice xs i a b)

pub set_own : {X : Type 0} (xs : List X) (i : ℕ) (x : X) → slice_get xs i ≡ Some x → slice_set xs i x ≡ xs
set_own [] i x e = refl
set_own (y ∷ xs) zero x e = cc
set_own (y ∷ xs) (suc i) x e = ap (λ (ys : List _). y ∷ ys) (set_own xs i x e)

pub get_set :
    {X : Type 0} (xs : List X) (i : ℕ) (x y : X) → slice_get xs i ≡ Some x → slice_get (slice_set xs i y) i ≡ Some y
get_set [] i x y e = absurd cc
get_set (z ∷ xs) zero x y e = refl
get_set (z ∷ xs) (suc i) x y e = get_set xs i x y e

pub put_over :
    (database between after : List Bound) (at : ℕ) (bound hole : Bound) (relation : Value) →
    slice_get database at ≡ Some bound → between ≡ slice_set database at hole →
    after ≡ slice_set between at (holding relation bound) → after ≡ with_relation relation at database
put_over database between after at bound hole relation got emptied put =
    put ∙ ap (λ (xs : List Bound). slice_set xs at (holding relation bound)) emptied
    ∙ set_twice database at hole (holding relation bound) ∙ rw got refl

pub back_again :
    (database between after : List Bound) (at : ℕ) (bound hole : Bound) (relation : Value) →
    slice_get database at ≡ Some bound → between ≡ slice_set database at hole →
    after ≡ slice_set between at (holding relation bound) → with_relation bound.rel at after ≡ database
back_again database between after at bound hole relation got emptied put =
    let held : after ≡ slice_set database at (holding relation bound) =
    put ∙ ap (λ (xs : List Bound). slice_set xs at (holding relation bound)) emptied
    ∙ set_twice database at hole (holding relation bound)
    in
    let there : slice_get after at ≡ Some (holding relation bound) =
    ap (λ (xs : List Bound). slice_get xs at) held ∙ get_set database at bound (holding relation bound) got
    in
    rw there (
    ap (λ (xs : List Bound). slice_set xs at bound) held ∙ set_twice database at (holding relation bound) bound
    ∙ set_own database at bound got
    )
