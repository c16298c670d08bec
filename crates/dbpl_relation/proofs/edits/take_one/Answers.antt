use Rattle.std.proofs.Common.{sym, ap, ◌∙◌}
use Rattle.std.proofs.lemmas.Bool.{true≢false}
use Rattle.dbpl_value.specs.Keys.{key_of, keys_rise}
use Rattle.dbpl_relation.proofs.EditLemmas.{is_same-at, removed-different, removed-none, removed-one, unlike-at}
use Rattle.dbpl_relation.proofs.Lacking.{all_lack}
use Rattle.dbpl_relation.proofs.edits.take_one.Goals as goal

pub returns-then-equal : goal.returns-then-equal
returns-then-equal c =
    let t = c.args.t.now in
    let records = c.args.records.now.items in
    let place = c.in-Ok.ensures.place (ap (keys_rise t) c.deref.ensures.value ∙ c.requires.rising) in
    let here = rw c.deref.ensures.value at place in
    let same =
    is_same-at records c.in-Ok.place c.index.result.now c.args.other.now here.0 c.index.ensures
    (c.equal.ensures.equal.0 c.if-equal.true)
    in
    c.remove.ensures.items
    ∙ sym (removed-one t records c.args.other.now c.in-Ok.place c.requires.rising here.0 here.1 same)

pub returns-else-equal : goal.returns-else-equal
returns-else-equal c =
    let t = c.args.t.now in
    let records = c.args.records.now.items in
    let place = c.in-Ok.ensures.place (ap (keys_rise t) c.deref.ensures.value ∙ c.requires.rising) in
    let here = rw c.deref.ensures.value at place in
    let unlike =
    unlike-at records c.in-Ok.place c.index.result.now c.args.other.now here.0 c.index.ensures
    (λ e. true≢false (sym (c.equal.ensures.equal.1 e) ∙ c.if-equal.false))
    in
    sym (removed-different t records c.args.other.now c.in-Ok.place c.requires.rising here.0 here.1 unlike)

pub returns-in_default : goal.returns-in_default
returns-in_default c =
    let t = c.args.t.now in
    let records = c.args.records.now.items in
    let place = c.in_default.ensures.place (ap (keys_rise t) c.deref.ensures.value ∙ c.requires.rising) in
    let none = rw c.deref.ensures.value at place in
    sym (
    removed-none t records c.args.other.now
    (all_lack t (key_of t c.args.other.now) records c.in_default.field-0 none.0 none.1 none.2)
    )
