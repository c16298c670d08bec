use Rattle.std.proofs.Common.{◌≡◌, ◌+◌, ◌-◌, ◌*◌, ◌/◌, ◌^◌, ◌<◌, length, Some, sym, ap, ◌∙◌, arith}
use Rattle.std.proofs.lemmas.Option.{slice_get-get_or}
use Rattle.std.specs.declared.cmp.Ordering.TheVariants.{Equal, Greater, Less}
use Rattle.dbpl_value.specs.Keys.{key_from}
use Rattle.dbpl_relation.proofs.Halving.{half, lower_half, step_within, twice, upper_half}
use Rattle.dbpl_relation.proofs.Searching.{greater_above, less_before_equal, less_below, order_at, record_with-absent, record_with-found}
use Rattle.dbpl_relation.proofs.lookup.find_in.Goals as goal

pub loop-low-preserved-in-Less : goal.loop-low-preserved-in-Less
loop-low-preserved-in-Less g c =
    let low = c.loop-low.low in
    let high = c.loop-low.high in
    let start = c.args.steps.now in
    let inv = c.loop-low.invariant in
    let doubled : 2 ^ (c.tick.new.self - start) ≡ 2 * 2 ^ (c.loop-low.steps - start) =
    ap (λ n. 2 ^ (n - start)) c.tick.ensures ∙ twice start c.loop-low.steps inv.started
    in
    let some : low < high = c.loop-low-test.true in
    let middle_in : low + (high - low) / 2 < length c.args.records.now = omega (arith, inv.within) in
    record {
      ordered = omega arith;
      within = inv.within;
      started = omega (arith, c.tick.ensures, inv.started);
      halved = rw doubled (half (high - low) _ (2 ^ (c.loop-low.steps - start)) _ (upper_half low high some) inv.halved);
      taken = rw doubled (step_within (high - low) (2 ^ (c.loop-low.steps - start)) _ (omega arith) inv.halved);
      below = λ rises.
          less_below c.args.t.now (key_from c.args.key.now) c.args.records.now (low + (high - low) / 2) rises middle_in
          (order_at c.args.t.now (key_from c.args.key.now) c.args.records.now _ c.index-records-middle.result Less middle_in c.index-records-middle.is c.in-Less.ensures);
      above = inv.above;
    }

pub loop-low-preserved : goal.loop-low-preserved
loop-low-preserved g c =
    let low = c.loop-low.low in
    let high = c.loop-low.high in
    let start = c.args.steps.now in
    let inv = c.loop-low.invariant in
    let doubled : 2 ^ (c.tick.new.self - start) ≡ 2 * 2 ^ (c.loop-low.steps - start) =
    ap (λ n. 2 ^ (n - start)) c.tick.ensures ∙ twice start c.loop-low.steps inv.started
    in
    let some : low < high = c.loop-low-test.true in
    let middle_in : low + (high - low) / 2 < length c.args.records.now = omega (arith, inv.within) in
    record {
      ordered = omega arith;
      within = omega (arith, inv.within);
      started = omega (arith, c.tick.ensures, inv.started);
      halved = rw doubled (half (high - low) _ (2 ^ (c.loop-low.steps - start)) _ (lower_half low high some) inv.halved);
      taken = rw doubled (step_within (high - low) (2 ^ (c.loop-low.steps - start)) _ (omega arith) inv.halved);
      below = inv.below;
      above = λ rises.
          greater_above c.args.t.now (key_from c.args.key.now) c.args.records.now (low + (high - low) / 2) rises middle_in
          (order_at c.args.t.now (key_from c.args.key.now) c.args.records.now _ c.index-records-middle.result Greater middle_in c.index-records-middle.is c.in-Greater.ensures);
    }

pub returns-in-Equal-clause-cost : goal.returns-in-Equal-clause-cost
returns-in-Equal-clause-cost g c =
    let start = c.args.steps.now in
    let inv = c.loop-low.invariant in
    let doubled : 2 ^ (c.tick.new.self - start) ≡ 2 * 2 ^ (c.loop-low.steps - start) =
    ap (λ n. 2 ^ (n - start)) c.tick.ensures ∙ twice start c.loop-low.steps inv.started
    in
    let some : c.loop-low.low < c.loop-low.high = c.loop-low-test.true in
    rw doubled
    (step_within (c.loop-low.high - c.loop-low.low) (2 ^ (c.loop-low.steps - start)) _ (omega arith) inv.halved)

pub returns-in-Equal-clause-found : goal.returns-in-Equal-clause-found
returns-in-Equal-clause-found g c rises =
    let place = c.loop-low.low + (c.loop-low.high - c.loop-low.low) / 2 in
    let some : c.loop-low.low < c.loop-low.high = c.loop-low-test.true in
    let middle_in : place < length c.args.records.now = omega (arith, c.loop-low.invariant.within) in
    let here =
    order_at c.args.t.now (key_from c.args.key.now) c.args.records.now place c.index-records-middle.result Equal middle_in
    c.index-records-middle.is c.in-Equal.ensures
    in
    sym (
    record_with-found c.args.t.now (key_from c.args.key.now) c.args.records.now place middle_in
    (less_before_equal c.args.t.now (key_from c.args.key.now) c.args.records.now place rises middle_in here) here
    ∙ slice_get-get_or c.args.records.now place c.index-records-middle.result middle_in
    ∙ ap Some (sym c.index-records-middle.is)
    )

pub returns-clause-found : goal.returns-clause-found
returns-clause-found g c rises =
    let e : c.loop-low.low ≡ c.loop-low.high = omega (arith, c.loop-low.invariant.ordered, c.loop-low-test.false) in
    sym (record_with-absent c.args.t.now (key_from c.args.key.now) c.args.records.now c.loop-low.low
    (omega (arith, c.loop-low.invariant.within, e)) (c.loop-low.invariant.below rises)
    (rw e (c.loop-low.invariant.above rises)))
