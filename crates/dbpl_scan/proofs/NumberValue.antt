-- The value of digits, as a token keeps it, digit by digit.
use Rattle.std.proofs.Common.{ℕ, ◌≤◌}
use Rattle.std.proofs.Math.Nat.{min-le_right}
use Rattle.dbpl_base.specs.declared.limits.TheConstants.{GREATEST_LITERAL}
use Rattle.dbpl_base.specs.Spelling.{number_kept}

pub kept_small : (n : ℕ) → number_kept n ≤ GREATEST_LITERAL
kept_small n = min-le_right n GREATEST_LITERAL
