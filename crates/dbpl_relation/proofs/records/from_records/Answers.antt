use Rattle.std.proofs.Common.{ap, ◌∙◌}
use Rattle.dbpl_value.specs.Values.{is_of}
use Rattle.dbpl_value.specs.declared.value.Value.TheVariants as value
use Rattle.dbpl_relation.proofs.OfType.{is_of-Rel}
use Rattle.dbpl_relation.proofs.records.from_records.Goals as goal

pub returns-clause-of_type : goal.returns-clause-of_type
returns-clause-of_type c =
    let t = c.args.t.now in
    ap (λ records. is_of t (value.Rel records)) c.from_vec.ensures ∙ is_of-Rel t c.args.records.items c.requires.kind
    ∙ c.requires.records
