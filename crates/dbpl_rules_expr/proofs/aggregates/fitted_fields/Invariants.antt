use Rattle.std.proofs.Common.{◌≡◌, length, map}
use Rattle.dbpl_rules_expr.proofs.aggregates.fitted_fields.Given as goal
use Rattle.dbpl_rules_expr.specs.Aggregates.{fitted_fields}

abbrev pub invariant-loop-part : goal.invariant-loop-part
invariant-loop-part l =
    (l.trees ≡ fitted_fields (map (λ field. field.kind) l.fields) l.yielded) × (l.number ≡ length l.yielded) ×
    (l.checker ≡ l.fn.checker)
