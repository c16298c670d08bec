use Rattle.std.proofs.Common.{not, ap, sym, ◌∙◌}
use Rattle.dbpl_value.specs.Keys.{key_of}
use Rattle.dbpl_value.specs.declared.value.Value.{Value}
use Rattle.dbpl_relation.proofs.Lacking.{all_lack, any-none, any-one}
use Rattle.dbpl_value.specs.Equality.{is_same}
use Rattle.dbpl_relation.proofs.faults.is_different.Goals as goal

pub returns-in-Ok : goal.returns-in-Ok
returns-in-Ok c rises =
    let element = c.index-records-place.result in
    let place = c.in-Ok.ensures.place rises in
    let differs : Value → _ = λ (v : Value). not (is_same v c.args.other.now) in
    ap not c.equal.ensures.computed ∙ ap differs c.index-records-place.is
    ∙ sym (
    any-one c.args.t.now (key_of c.args.t.now c.args.other.now) differs c.args.records.now c.in-Ok.place element rises
    place.0 place.1
    )

pub returns-in-Err : goal.returns-in-Err
returns-in-Err c rises =
    let place = c.in-Err.ensures.place rises in
    sym (
    any-none c.args.t.now (key_of c.args.t.now c.args.other.now) (λ (v : Value). not (is_same v c.args.other.now))
    c.args.records.now
    (all_lack c.args.t.now (key_of c.args.t.now c.args.other.now) c.args.records.now _ place.0 place.1 place.2)
    )
