use Rattle.std.proofs.Common.{◌≡◌, ◌<◌, ℕ, get_or}
use Rattle.std.specs.declared.cmp.Ordering.TheVariants.{Less}
use Rattle.dbpl_value.specs.Databases.{name_cmp}
use Rattle.dbpl_value.specs.declared.bound.Bound.{Bound}
use Rattle.dbpl_database.proofs.names.rise.Given as goal

abbrev pub invariant-loop-i : goal.invariant-loop-i
invariant-loop-i l =
    (j k : ℕ) (d : Bound) → j < k → k < l.i →
    name_cmp (get_or l.database j d).name (get_or l.database k d).name ≡ Less
