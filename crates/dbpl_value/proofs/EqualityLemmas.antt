-- The test of equality answers true exactly for equal values.
use Rattle.std.proofs.Common.{◌≡◌, Bool, true, List, [], ◌∷◌, map, refl, ap, sym, subst, ◌∙◌}
use Rattle.std.proofs.lemmas.Map.Lookups.{exact_signed}
use Rattle.std.specs.Bool.{Decides, one_answer}
use Rattle.std.specs.Prelude.{ℤ, IsTrue, ◌↔◌}
use Rattle.std.specs.Cmp.{Equal-is, first_so, int_cmp_total, second_so, tied_itself}
use Rattle.std.specs.Ordering.{int_cmp, is_eq}
use Rattle.std.specs.declared.cmp.Ordering.TheVariants.{Equal}
use Rattle.dbpl_value.specs.declared.value.Value.{Value, Value-F, fold-roll-Value, ind-Value, map-Value, out-Value, out-roll-Value, roll-Value, roll-out-Value}
use Rattle.dbpl_value.specs.declared.value.Value.TheOpen as values
use Rattle.dbpl_value.specs.Equality.{each_passes, is_same, is_same_level}

pub int_cmp-own : (n : ℤ) → int_cmp n n ≡ Equal
int_cmp-own n = tied_itself int_cmp_total n

-- a test of one value that only that value passes
abbrev Tells : Value → Type 0
Tells v = (w : Value) → is_same v w ≡ true → v ≡ w

abbrev Told : Type 0
Told = (v : Value) × Tells v

parts-tell :
    (tellers : List Told) (parts : List Value) →
    each_passes (map is_same (map (λ (teller : Told). teller.0) tellers)) parts ≡ true →
    map (λ (teller : Told). teller.0) tellers ≡ parts
parts-tell [] [] h = refl
parts-tell [] (part ∷ parts) h = cc
parts-tell (teller ∷ tellers) [] h = cc
parts-tell (teller ∷ tellers) (part ∷ parts) h =
    let first = teller.1 part (first_so (is_same teller.0 part) _ h) in
    let rest = parts-tell tellers parts (second_so (is_same teller.0 part) _ h) in
    ap (λ (v : Value). v ∷ map (λ (teller : Told). teller.0) tellers) first ∙ ap (λ vs. part ∷ vs) rest

-- the level of a number
abbrev number : ℤ → Value-F Value
number n = values.Num n

level-tells :
    (y : Value-F Told) (u : Value-F Value) →
    is_same_level (map-Value Value (Value → Bool) is_same (map-Value Told Value (λ teller. teller.0) y)) u ≡ true →
    map-Value Told Value (λ teller. teller.0) y ≡ u
level-tells (values.Num n) (values.Num m) h =
    ap number (exact_signed n m ((Equal-is (int_cmp n m)).0 h))
level-tells (values.Num n) (values.Arr parts) h = cc
level-tells (values.Num n) (values.Rec parts) h = cc
level-tells (values.Num n) (values.Rel parts) h = cc
level-tells (values.Arr tellers) (values.Num m) h = cc
level-tells (values.Arr tellers) (values.Arr parts) h = ap values.Arr (parts-tell tellers parts h)
level-tells (values.Arr tellers) (values.Rec parts) h = cc
level-tells (values.Arr tellers) (values.Rel parts) h = cc
level-tells (values.Rec tellers) (values.Num m) h = cc
level-tells (values.Rec tellers) (values.Arr parts) h = cc
level-tells (values.Rec tellers) (values.Rec parts) h = ap values.Rec (parts-tell tellers parts h)
level-tells (values.Rec tellers) (values.Rel parts) h = cc
level-tells (values.Rel tellers) (values.Num m) h = cc
level-tells (values.Rel tellers) (values.Arr parts) h = cc
level-tells (values.Rel tellers) (values.Rec parts) h = cc
level-tells (values.Rel tellers) (values.Rel parts) h = ap values.Rel (parts-tell tellers parts h)

is_same-roll :
    (x : Value-F Value) (w : Value) →
    is_same (roll-Value x) w ≡ is_same_level (map-Value Value (Value → Bool) is_same x) (out-Value w)
is_same-roll x w =
    ap (λ (test : Value → Bool). test w)
    (fold-roll-Value (Value → Bool) (λ level v. is_same_level level (out-Value v)) x)

-- values that pass the test are equal
pub is_same-equal : (v w : Value) → is_same v w ≡ true → v ≡ w
is_same-equal =
    ind-Value Tells (λ x y is w h.
    let level =
    subst (λ (z : Value-F Value).
    is_same_level (map-Value Value (Value → Bool) is_same z) (out-Value w) ≡ true → z ≡ out-Value w)
    is (level-tells y (out-Value w)) (sym (is_same-roll x w) ∙ h)
    in
    ap roll-Value level ∙ roll-out-Value w)

abbrev Passes : Value → Type 0
Passes v = is_same v v ≡ true

abbrev Passed : Type 0
Passed = (v : Value) × Passes v

parts-pass :
    (passed : List Passed) →
    each_passes (map is_same (map (λ (one : Passed). one.0) passed)) (map (λ (one : Passed). one.0) passed) ≡ true
parts-pass [] = refl
parts-pass (one ∷ others) = rw one.1 (parts-pass others)

level-passes :
    (y : Value-F Passed) →
    is_same_level (map-Value Value (Value → Bool) is_same (map-Value Passed Value (λ one. one.0) y))
    (map-Value Passed Value (λ one. one.0) y)
    ≡ true
level-passes (values.Num n) = ap is_eq (int_cmp-own n)
level-passes (values.Arr passed) = parts-pass passed
level-passes (values.Rec passed) = parts-pass passed
level-passes (values.Rel passed) = parts-pass passed

-- and equal values pass it
pub is_same-own : (v : Value) → is_same v v ≡ true
is_same-own =
    ind-Value Passes (λ x y is.
    is_same-roll x (roll-Value x) ∙ ap (is_same_level (map-Value Value (Value → Bool) is_same x)) (out-roll-Value x)
    ∙ subst (λ (z : Value-F Value). is_same_level (map-Value Value (Value → Bool) is_same z) z ≡ true) is
    (level-passes y))

pub is_same-decides : (v w : Value) → Decides (is_same v w) (v ≡ w)
is_same-decides v w = (is_same-equal v w, λ e. ap (is_same v) (sym e) ∙ is_same-own v)

-- what decides whether two values are equal is this test
pub equal-is : (v w : Value) (answer : Bool) → IsTrue answer ↔ (v ≡ w) → answer ≡ is_same v w
equal-is v w answer exact = one_answer answer (is_same v w) exact (is_same-decides v w)
