use Rattle.std.proofs.Common.{[], ◌∷◌, length, reverse, sym, ap, ◌∙◌, length-append, arith}
use Rattle.std.proofs.lemmas.List.{reverse-append}
use Rattle.dbpl_value.specs.Keys.{keys_rise}
use Rattle.dbpl_relation.proofs.Puts.{put-rises}
use Rattle.dbpl_relation.specs.Relations.{merged}
use Rattle.dbpl_relation.proofs.edits.put_all.Goals as goal

pub loop-element-preserved : goal.loop-element-preserved
loop-element-preserved c =
    let element = c.in-Some.element in
    let before = c.loop-element.invariant in
    let popped = c.in-Some.ensures in
    let size = ap length popped ∙ length-append c.pop.new.self (element ∷ []) in
    record {
      rising =
          ap (keys_rise c.args.t.now) c.put_in.ensures.items
          ∙ put-rises c.args.t.now c.loop-element.records.items element before.rising;
      room = omega (arith, size, before.room, c.put_in.ensures.len, c.put_in.ensures.capacity);
      same =
          before.same ∙ ap (λ left. merged c.args.t.now c.loop-element.records.items (reverse left)) popped
          ∙ ap (merged c.args.t.now c.loop-element.records.items) (reverse-append c.pop.new.self (element ∷ []))
          ∙ ap (λ records. merged c.args.t.now records (reverse c.pop.new.self)) (sym c.put_in.ensures.items);
    }
