use Rattle.std.proofs.Common.{rules, ◌≡◌, length, arith, ◌∙◌}
use Rattle.dbpl_world.proofs.Puts.{no_events, history_put, tied_put}
use Rattle.dbpl_world.proofs.memory_world.MemoryWorld.put_store.Goals as goal

pub invariant_of-self-2-clause-tied : goal.invariant_of-self-2-clause-tied
invariant_of-self-2-clause-tied c =
    let world = c.args.self.now in
    let none : length world.recorded.calls.items ≡ 0 = omega (arith, world.few, c.requires.fresh) in
    let all : world.put ≡ length world.stores.items = omega (arith, world.few, world.few_stores, world.put_within, c.requires.fresh) in
    tied_put world.input.items world.stores.items c.push.new.self.items c.in_ok-store.store world.put _ (no_events world.recorded.calls.items world.recorded.bytes.items none) all (search rules) world.tied

pub returns-clause-ok : goal.returns-clause-ok
returns-clause-ok c =
    let world = c.args.self.now in
    let all : world.put ≡ length world.stores.items = omega (arith, world.few, world.few_stores, world.put_within, c.requires.fresh) in
    history_put world.input.items world.stores.items c.push.new.self.items c.in_ok-store.store world.put _ c.args.name.now c.args.log.now c.args.pages.now all (search rules) (c.in_ok-store.ensures.name ∙ c.as_bytes.ensures.value) c.in_ok-store.ensures.log c.in_ok-store.ensures.pages
