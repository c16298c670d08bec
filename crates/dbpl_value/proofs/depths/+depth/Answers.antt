use Rattle.std.proofs.Common.{◌≡◌, suc, ◌-◌, arith}
use Rattle.dbpl_value.proofs.TypeKinds.{within-Rec}
use Rattle.dbpl_value.proofs.depths.+depth.Goals as goal

pub are_types_within-returns-in-Rec : goal.are_types_within-returns-in-Rec
are_types_within-returns-in-Rec t c =
    let some : suc (c.args.depth - 1) ≡ c.args.depth = omega (arith, c.if-depth-eq0.false) in
    rw (c.in-Rec.is, ← some, within-Rec (c.args.depth - 1) c.in-Rec.fields, ← c.as_slice.ensures) c.are_field_types_within.ensures
