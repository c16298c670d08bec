use Rattle.std.proofs.Common.{sym, ◌∙◌, ap}
use Rattle.dbpl_value.specs.Keys.{keys_rise}
use Rattle.dbpl_relation.proofs.Puts.{put-absent, put-found}
use Rattle.dbpl_relation.proofs.edits.put_in.Goals as goal

pub returns-in-Ok-clause-items : goal.returns-in-Ok-clause-items
returns-in-Ok-clause-items c =
    let place = c.in-Ok.ensures.place (ap (keys_rise c.args.t.now) c.deref.ensures.value ∙ c.requires.rising) in
    let records = c.args.records.now.items in
    let here = rw c.deref.ensures.value at place in
    sym (put-found c.args.t.now records c.args.element c.in-Ok.place c.requires.rising here.0 here.1)

pub returns-in-Ok-insert-clause-items : goal.returns-in-Ok-insert-clause-items
returns-in-Ok-insert-clause-items c =
    let place = c.in-Err.ensures.place (ap (keys_rise c.args.t.now) c.deref.ensures.value ∙ c.requires.rising) in
    let here = rw c.deref.ensures.value at place in
    c.in-Ok-insert.ensures.items
    ∙ sym (put-absent c.args.t.now c.args.records.now.items c.args.element c.in-Err.place here.0 here.1 here.2)
