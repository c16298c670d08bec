use Rattle.std.proofs.Common.{true, false, refl, sym, ap, ◌∙◌}
use Rattle.std.proofs.lemmas.Fn.{says_at}
use Rattle.dbpl_value.specs.Keys.{key_of, keys_rise}
use Rattle.dbpl_value.specs.Types.{element_of}
use Rattle.dbpl_value.specs.Values.{is_of}
use Rattle.dbpl_relation.proofs.EditLemmas.{replaced-none, replaced-one, replaced-outside, set-all, set-rises, test-at}
use Rattle.dbpl_relation.proofs.Lacking.{all_lack}
use Rattle.dbpl_relation.proofs.OfType.{are_records-all, are_records-of, are_records-rise}
use Rattle.dbpl_relation.proofs.edits.give_way_to.Goals as goal

pub returns-then-inside-clause-items : goal.returns-then-inside-clause-items
returns-then-inside-clause-items g c test computes =
    let t = c.args.t.now in
    let records = c.args.records.now.items in
    let rising = are_records-rise t records c.requires.records in
    let place = c.in-Ok.ensures.place (ap (keys_rise t) c.deref.ensures.value ∙ rising) in
    let here = rw c.deref.ensures.value at place in
    let answer = computes c.index.result.now c.inside.result (says_at g.F.Fn c.inside.ensures refl) in
    let inside =
    test-at test records c.in-Ok.place c.index.result.now true here.0 c.index.ensures (sym answer ∙ c.if-inside.true)
    in
    sym (replaced-one t test records c.args.element c.in-Ok.place rising here.0 here.1 inside)

pub returns-then-inside-clause-of_type : goal.returns-then-inside-clause-of_type
returns-then-inside-clause-of_type g c =
    let t = c.args.t.now in
    let records = c.args.records.now.items in
    let rising = are_records-rise t records c.requires.records in
    let place = c.in-Ok.ensures.place (ap (keys_rise t) c.deref.ensures.value ∙ rising) in
    let here = rw c.deref.ensures.value at place in
    are_records-of t _
    (set-all (is_of (element_of t)) records c.in-Ok.place c.args.element c.requires.element
    (are_records-all t records c.requires.records))
    (set-rises t records c.args.element c.in-Ok.place rising here.0 here.1)

pub returns-else-inside-clause-items : goal.returns-else-inside-clause-items
returns-else-inside-clause-items g c test computes =
    let t = c.args.t.now in
    let records = c.args.records.now.items in
    let rising = are_records-rise t records c.requires.records in
    let place = c.in-Ok.ensures.place (ap (keys_rise t) c.deref.ensures.value ∙ rising) in
    let here = rw c.deref.ensures.value at place in
    let answer = computes c.index.result.now c.inside.result (says_at g.F.Fn c.inside.ensures refl) in
    let outside =
    test-at test records c.in-Ok.place c.index.result.now false here.0 c.index.ensures (sym answer ∙ c.if-inside.false)
    in
    sym (replaced-outside t test records c.args.element c.in-Ok.place rising here.0 here.1 outside)

pub returns-in_default-clause-items : goal.returns-in_default-clause-items
returns-in_default-clause-items g c test computes =
    let t = c.args.t.now in
    let records = c.args.records.now.items in
    let rising = are_records-rise t records c.requires.records in
    let place = c.in_default.ensures.place (ap (keys_rise t) c.deref.ensures.value ∙ rising) in
    let none = rw c.deref.ensures.value at place in
    sym (
    replaced-none t test records c.args.element
    (all_lack t (key_of t c.args.element) records c.in_default.field-0 none.0 none.1 none.2)
    )
