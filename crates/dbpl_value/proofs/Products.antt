-- Products that are cut off at a greatest number.
use Rattle.std.proofs.Common.{◌≡◌, ℕ, zero, suc, ◌*◌, ◌≤◌, min, inl, inr, refl, ◌∙◌, arith}
use Rattle.std.proofs.Math.Nat.{mul-le-mul_right, mul_comm, zero-mul}
use Rattle.std.proofs.lemmas.Bool.{cases_lt}

large : (x y m : ℕ) → 1 ≤ x → m ≤ y → m ≤ x * y
large x y m hx hy =
    let more = mul-le-mul_right y hx in
    omega arith

none_times : (n : ℕ) → n * 0 ≡ 0
none_times n = mul_comm n 0 ∙ zero-mul n

-- two numbers that are cut off, multiplied and cut off, are their product, cut off
pub cut_mul : (a b m : ℕ) → 1 ≤ m → min (min b m * min a m) m ≡ min (a * b) m
cut_mul zero b m h =
    let none : min 0 m ≡ 0 = omega arith in
    rw (none, none_times (min b m), zero-mul b) refl
cut_mul (suc a) zero m h =
    let none : min 0 m ≡ 0 = omega arith in
    rw (none, zero-mul (min (suc a) m), none_times (suc a)) refl
cut_mul (suc a) (suc b) m h =
    elim (cases_lt (suc a) m) [
      | inl la ↦ elim (cases_lt (suc b) m) [
        | inl lb ↦
            let ea : min (suc a) m ≡ suc a = omega arith in
            let eb : min (suc b) m ≡ suc b = omega arith in
            rw (ea, eb, mul_comm (suc b) (suc a)) refl
        | inr gb ↦
            let ea : min (suc a) m ≡ suc a = omega arith in
            let eb : min (suc b) m ≡ m = omega arith in
            let one = large (suc a) m m (omega arith) (omega arith) in
            let two = large (suc a) (suc b) m (omega arith) gb in
            rw (ea, eb, mul_comm m (suc a)) (omega (arith, one, two))
      ]
      | inr ga ↦
          let ea : min (suc a) m ≡ m = omega arith in
          let one = large (min (suc b) m) m m (omega arith) (omega arith) in
          let two = large (suc b) (suc a) m (omega arith) ga in
          rw ea (omega (arith, one, two, mul_comm (suc a) (suc b)))
    ]
