-- One byte is one step, and places stay small.
use Rattle.std.proofs.Common.{◌∙◌, refl, sym, subst, arith}
use Rattle.dbpl_base.specs.declared.place.Place.{Place}
use Rattle.dbpl_scan.proofs.PlaceLaw.{IsNear, near_front, place_step}
use Rattle.dbpl_scan.proofs.places.place_after.Goals as goal

pub place_behind-there-requires-clause-line : goal.place_behind-there-requires-clause-line
place_behind-there-requires-clause-line c =
    let near = near_front c.args.place c.args.bytes.now c.loop-byte.byte-index c.requires.counted (omega arith) in
    let here : IsNear c.args.place c.loop-byte.there c.loop-byte.byte-index = subst (λ (p : Place). IsNear c.args.place p c.loop-byte.byte-index) (sym c.loop-byte.invariant) near in
    omega (arith, here.line, c.requires.line)

pub place_behind-there-requires-clause-col : goal.place_behind-there-requires-clause-col
place_behind-there-requires-clause-col c =
    let near = near_front c.args.place c.args.bytes.now c.loop-byte.byte-index c.requires.counted (omega arith) in
    let here : IsNear c.args.place c.loop-byte.there c.loop-byte.byte-index = subst (λ (p : Place). IsNear c.args.place p c.loop-byte.byte-index) (sym c.loop-byte.invariant) near in
    omega (arith, here.col, c.requires.col)

pub loop-byte-preserved : goal.loop-byte-preserved
loop-byte-preserved c =
    c.place_behind-there.ensures ∙ place_step c.args.place c.loop-byte.there c.args.bytes.now c.loop-byte.byte-index _ (omega arith) refl c.loop-byte.invariant
