-- The number so far is small, so one digit more fits.
use Rattle.std.proofs.Common.{◌≤◌, ◌*◌, sym, subst, arith, ℕ}
use Rattle.std.proofs.lemmas.Nat.{mul-le}
use Rattle.dbpl_base.specs.declared.limits.TheConstants.{GREATEST_LITERAL}
use Rattle.dbpl_scan.proofs.NumberValue.{kept_small}
use Rattle.dbpl_scan.proofs.numbers.number_in.Goals as goal

pub overflow_mul-number : goal.overflow_mul-number
overflow_mul-number c =
    let small : c.loop-digit.number ≤ GREATEST_LITERAL = subst (λ (n : ℕ). n ≤ GREATEST_LITERAL) (sym c.loop-digit.invariant) (kept_small _) in
    let product : c.loop-digit.number * c.args.base ≤ GREATEST_LITERAL * 255 = mul-le c.loop-digit.number c.args.base GREATEST_LITERAL 255 small (omega (arith, c.ranges.base)) in
    omega (arith, product)
