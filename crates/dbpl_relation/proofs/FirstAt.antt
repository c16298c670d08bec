-- The first item that passes a test.
use Rattle.std.proofs.Common.{◌≡◌, ◌+◌, ◌<◌, ◌≤◌, ℕ, Bool, true, false, List, length, get_or, Option, Some, None, cond, ltb, ◌⊎◌, inl, inr, ap, sym, ◌∙◌, arith}
use Rattle.std.proofs.lemmas.Bool.{cases_lt, lt-ltb, le-ltb}
use Rattle.std.proofs.lemmas.List.Sums.{position_or_len_is}
use Rattle.std.specs.List.{position, position_or_len}
use Rattle.dbpl_relation.proofs.Searching.{get_or-same}

abbrev place_at : {X : Type 0} → List X → ℕ → Option ℕ
place_at xs i = cond (ltb i (length xs)) (Some i) None

pub position-here :
    {X : Type 0} (p : X → Bool) (xs : List X) (i : ℕ) (d : X) → i < length xs →
    ((k : ℕ) → k < i → p (get_or xs k d) ≡ false) → p (get_or xs i d) ≡ true → Some i ≡ position p xs
position-here p xs i d within before here =
    let e : position_or_len p xs ≡ i = position_or_len_is p xs i d (omega arith) before (λ _. here) in
    sym (ap (place_at xs) e ∙ ap (λ b. cond b (Some i) None) (lt-ltb i (length xs) within))

pub position-none :
    {X : Type 0} (p : X → Bool) (xs : List X) (d : X) → ((k : ℕ) → k < length xs → p (get_or xs k d) ≡ false) →
    None ≡ position p xs
position-none p xs d before =
    let e : position_or_len p xs ≡ length xs =
    position_or_len_is p xs (length xs) d (omega arith) before (λ h. absurd (omega arith))
    in
    sym (ap (place_at xs) e ∙ ap (λ b. cond b (Some (length xs)) None) (le-ltb (length xs) (length xs) (omega arith)))

-- what is refused below a place and at it is refused below the next
pub below_and_here :
    {X : Type 0} (p : X → Bool) (xs : List X) (i : ℕ) (x : X) → i < length xs → x ≡ get_or xs i x →
    ((k : ℕ) (d : X) → k < i → p (get_or xs k d) ≡ false) → p x ≡ false → (k : ℕ) (d : X) → k < i + 1 →
    p (get_or xs k d) ≡ false
below_and_here {X} p xs i x within e below here k d le = by_place (cases_lt k i)
  where
    by_place : (k < i) ⊎ (i ≤ k) → p (get_or xs k d) ≡ false
    by_place (inl lt) = below k d lt
    by_place (inr ge) =
        let same : k ≡ i = omega arith in
        ap (λ n. p (get_or xs n d)) same ∙ ap p (get_or-same xs i d x within ∙ sym e) ∙ here
