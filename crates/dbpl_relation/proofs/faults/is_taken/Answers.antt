use Rattle.std.proofs.Common.{not, refl, ap, sym, ◌∙◌}
use Rattle.std.proofs.lemmas.Fn.{says_at}
use Rattle.dbpl_value.specs.Keys.{key_of}
use Rattle.dbpl_value.specs.declared.value.Value.{Value}
use Rattle.dbpl_relation.proofs.Lacking.{all_lack, any-none, any-one}
use Rattle.dbpl_relation.proofs.faults.is_taken.Goals as goal

pub returns-in-Ok : goal.returns-in-Ok
returns-in-Ok g c test computes rises =
    let element = c.index-records-place.result in
    let place = c.in-Ok.ensures.place rises in
    let answer = computes element c.inside.result (says_at g.F.Fn c.inside.ensures refl) in
    ap not answer ∙ ap (λ (v : Value). not (test v)) c.index-records-place.is
    ∙ sym (
    any-one c.args.t.now (key_of c.args.t.now c.args.other.now) (λ (v : Value). not (test v)) c.args.records.now
    c.in-Ok.place element rises place.0 place.1
    )

pub returns-in-Err : goal.returns-in-Err
returns-in-Err g c test computes rises =
    let place = c.in-Err.ensures.place rises in
    sym (
    any-none c.args.t.now (key_of c.args.t.now c.args.other.now) (λ (v : Value). not (test v)) c.args.records.now
    (all_lack c.args.t.now (key_of c.args.t.now c.args.other.now) c.args.records.now _ place.0 place.1 place.2)
    )
