use Rattle.std.proofs.Common.{reverse, ap, ◌∙◌}
use Rattle.dbpl_relation.proofs.OfType.{are_records-merged}
use Rattle.dbpl_relation.specs.Relations.{are_records}
use Rattle.dbpl_relation.proofs.edits.merge.Goals as goal

pub returns-clause-of_type : goal.returns-clause-of_type
returns-clause-of_type c =
    let t = c.args.t.now in
    let before = ap (are_records t) c.reserve.ensures.items ∙ c.requires.records in
    ap (are_records t) c.put_all.ensures
    ∙ are_records-merged t c.reserve.new.self.items (reverse c.args.from_last) before c.requires.others
