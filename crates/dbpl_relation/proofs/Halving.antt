-- How often a number can be halved: the bound on the steps of a binary search.
use Rattle.std.proofs.Common.{◌≡◌, ◌+◌, ◌-◌, ◌*◌, ◌/◌, ◌^◌, ◌<◌, ◌≤◌, ℕ, suc, ◌⊎◌, inl, inr, ap, ◌∙◌, arith}
use Rattle.std.proofs.lemmas.Bool.{cases_lt}
use Rattle.std.proofs.Math.Nat.{mul-le-mul_right, pow-le-pow_right, pow-suc}

-- one step more doubles the power
pub twice : (start steps : ℕ) → start ≤ steps → 2 ^ (steps + 1 - start) ≡ 2 * 2 ^ (steps - start)
twice start steps le =
    let later : steps + 1 - start ≡ suc (steps - start) = omega arith in
    ap (λ k. 2 ^ k) later ∙ pow-suc 2 (steps - start) ∙ omega arith

-- a part of at most half the width
pub half : (width part power all : ℕ) → 2 * part ≤ width → width * power ≤ all → part * (2 * power) ≤ all
half width part power all h le =
    let less : 2 * part * power ≤ width * power = mul-le-mul_right power h in
    omega (arith, less)

-- while anything is left, one more step is within the bound
pub step_within : (width power all : ℕ) → 0 < width → width * power ≤ all → 2 * power ≤ 2 * all + 1
step_within width power all h le =
    let least : 1 ≤ width = omega arith in
    let less : 1 * power ≤ width * power = mul-le-mul_right power least in
    omega (arith, less)

pub upper_half : (low high : ℕ) → low < high → 2 * (high - (low + (high - low) / 2 + 1)) ≤ high - low
upper_half low high h = omega arith

pub lower_half : (low high : ℕ) → low < high → 2 * (low + (high - low) / 2 - low) ≤ high - low
lower_half low high h = omega arith

-- among 131,072 records a search takes 18 steps at most
pub at_most_18 : (count steps : ℕ) → count ≤ 131072 → 2 ^ steps ≤ 2 * count + 1 → steps ≤ 18
at_most_18 count steps h le = by_steps (cases_lt 18 steps)
  where
    by_steps : (18 < steps) ⊎ (steps ≤ 18) → steps ≤ 18
    by_steps (inl more) =
        let great : 2 ^ 19 ≤ 2 ^ steps = pow-le-pow_right (omega arith) more in
        absurd (omega (arith, great))
    by_steps (inr few) = few
