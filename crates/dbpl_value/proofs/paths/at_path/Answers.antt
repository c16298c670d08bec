use Rattle.std.proofs.Common.{◌≡◌, Err, None, Some, sym, ap, ◌∙◌}
use Rattle.std.specs.Prelude.{slice_get}
use Rattle.dbpl_value.specs.Keys.{parts_of}
use Rattle.dbpl_value.specs.Paths.{place_of}
use Rattle.dbpl_value.proofs.PathsLemmas.{reached-next, reached-refused}
use Rattle.dbpl_value.proofs.paths.at_path.Goals as goal

pub returns-in-None-clause-part : goal.returns-in-None-clause-part
returns-in-None-clause-part c of_type =
    let reached = c.loop-i.invariant of_type in
    let place = c.place_of.ensures reached.of_type in
    let none :
    slice_get (parts_of c.loop-i.part.now) (place_of c.loop-i.kind.now c.loop-i.part.now c.index-path-i.result) ≡ None
    = cc c.in-None.ensures
    in
    ap Err c.refusal_of.ensures
    ∙ sym (reached-refused c.args.t.now c.args.v.now c.args.path.now c.loop-i.i c.loop-i.kind.now c.loop-i.part.now
    c.index-path-i.result reached c.loop-i-test.true c.index-path-i.is none)

pub loop-i-preserved : goal.loop-i-preserved
loop-i-preserved c of_type =
    let reached = c.loop-i.invariant of_type in
    let place = c.place_of.ensures reached.of_type in
    let found :
    slice_get (parts_of c.loop-i.part.now) (place_of c.loop-i.kind.now c.loop-i.part.now c.index-path-i.result)
    ≡ Some c.in-Some.next.now
    = cc c.in-Some.ensures
    in
    rw c.type_at-kind.ensures (reached-next c.args.t.now c.args.v.now c.args.path.now c.loop-i.i c.loop-i.kind.now c.loop-i.part.now
    c.index-path-i.result c.in-Some.next.now reached c.loop-i-test.true c.index-path-i.is found)
