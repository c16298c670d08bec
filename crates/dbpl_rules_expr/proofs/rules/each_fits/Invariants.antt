use Rattle.std.proofs.Common.{◌≡◌, drop, map}
use Rattle.dbpl_rules_expr.proofs.rules.each_fits.Given as goal
use Rattle.dbpl_rules_operators.specs.Fitting.{fits}
use Rattle.dbpl_value.specs.Equality.{each_passes}

abbrev pub invariant-loop-i : goal.invariant-loop-i
invariant-loop-i l =
    each_passes (map fits (map (λ field. field.kind) (drop l.i l.fields))) (map (λ part. part.facts) (drop l.i l.parts))
    ≡ each_passes (map fits (map (λ field. field.kind) l.fields)) (map (λ part. part.facts) l.parts)
