use Rattle.dbpl_value.proofs.TypeKinds.{nested-Rec}
use Rattle.dbpl_value.proofs.depths.+nesting.Goals as goal

pub are_relations_within-returns-in-Rec : goal.are_relations_within-returns-in-Rec
are_relations_within-returns-in-Rec t c =
    rw (c.in-Rec.is, nested-Rec c.args.depth c.in-Rec.fields, ← c.as_slice.ensures) c.are_fields_within.ensures
