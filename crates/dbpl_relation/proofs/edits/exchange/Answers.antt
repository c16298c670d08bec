use Rattle.std.proofs.Common.{not, reverse, ap, ◌∙◌, rules}
use Rattle.std.proofs.lemmas.Fn.{filter_same}
use Rattle.std.specs.List.{filter}
use Rattle.dbpl_value.specs.declared.value.Value.{Value}
use Rattle.dbpl_relation.proofs.Filters.{are_records-kept}
use Rattle.dbpl_relation.proofs.OfType.{are_records-merged, are_records-rise}
use Rattle.dbpl_relation.specs.Relations.{are_records, merged}
use Rattle.dbpl_relation.proofs.edits.exchange.Goals as goal

pub put_all-requires-clause-rising : goal.put_all-requires-clause-rising
put_all-requires-clause-rising g c =
    let t = c.args.t.now in
    let kept = c.retain.ensures.filtered in
    let before = ap (are_records t) c.reserve.ensures.items ∙ c.requires.records in
    are_records-rise t c.retain.new.self.items (ap (are_records t) kept.4 ∙ are_records-kept t kept.0 _ before)

pub returns-clause-of_type : goal.returns-clause-of_type
returns-clause-of_type g c =
    let t = c.args.t.now in
    let kept = c.retain.ensures.filtered in
    let before = ap (are_records t) c.reserve.ensures.items ∙ c.requires.records in
    ap (are_records t) c.put_all.ensures
    ∙ are_records-merged t c.retain.new.self.items (reverse c.args.from_last)
    (ap (are_records t) kept.4 ∙ are_records-kept t kept.0 _ before) c.requires.others

pub returns-clause-ok : goal.returns-clause-ok
returns-clause-ok g c test computes =
    let t = c.args.t.now in
    let kept =
    filter_same _ (λ (v : Value). not (test v)) _ (λ x b f called. (search (rules, computes), search rules)) _ _ c.retain.ensures.filtered
    in
    c.put_all.ensures
    ∙ ap (λ records. merged t records (reverse c.args.from_last))
    (kept ∙ ap (filter (λ (v : Value). not (test v))) c.reserve.ensures.items)
