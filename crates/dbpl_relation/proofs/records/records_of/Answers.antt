use Rattle.std.proofs.Common.{ap, ◌∙◌}
use Rattle.dbpl_value.specs.Keys.{keys_rise, parts_of}
use Rattle.dbpl_relation.proofs.OfType.{are_records-parts, are_records-rise}
use Rattle.dbpl_relation.proofs.records.records_of.Goals as goal

pub returns-clause-rising : goal.returns-clause-rising
returns-clause-rising c =
    let t = c.args.t.now in
    let relation = c.args.relation.now in
    ap (keys_rise t) c.parts_of.ensures
    ∙ are_records-rise t (parts_of relation) (are_records-parts t relation c.requires.kind c.requires.of_type)
