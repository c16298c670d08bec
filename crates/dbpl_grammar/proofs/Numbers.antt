-- The greater of two numbers.
use Rattle.std.proofs.Common.{ℕ, ◌≤◌, max, arith}

pub max_left : (a b limit : ℕ) → max a b ≤ limit → a ≤ limit
max_left a b limit h = omega arith

pub max_right : (a b limit : ℕ) → max a b ≤ limit → b ≤ limit
max_right a b limit h = omega arith

pub max_both : (a b limit : ℕ) → a ≤ limit → b ≤ limit → max a b ≤ limit
max_both a b limit h k = omega arith
