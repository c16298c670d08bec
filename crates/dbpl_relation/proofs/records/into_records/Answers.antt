use Rattle.std.proofs.Common.{sym, ap, ◌∙◌}
use Rattle.dbpl_value.specs.Keys.{parts_of}
use Rattle.dbpl_relation.proofs.OfType.{are_records-parts, is_Rel, parts_of-Rel}
use Rattle.dbpl_relation.specs.Relations.{are_records}
use Rattle.dbpl_relation.proofs.records.into_records.Goals as goal

pub unreachable-requires : goal.unreachable-requires
unreachable-requires c =
    let found = is_Rel c.args.t.now c.args.relation c.requires.kind c.requires.of_type in
    c.in_default.not-Rel found.0 found.1

pub returns-clause-records : goal.returns-clause-records
returns-clause-records c =
    let t = c.args.t.now in
    ap (are_records t) (c.into_vec.ensures ∙ sym (parts_of-Rel c.in-Rel.records) ∙ ap parts_of (sym c.in-Rel.is))
    ∙ are_records-parts t c.args.relation c.requires.kind c.requires.of_type
