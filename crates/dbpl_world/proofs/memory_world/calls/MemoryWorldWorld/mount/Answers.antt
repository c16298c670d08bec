use Rattle.std.proofs.Common.{rules, ◌≡◌, ◌++◌, ◌∷◌, [], Some, option_map, take, sym, ◌∙◌, ap, ap₂}
use Rattle.dbpl_world.specs.History.{Mounted}
use Rattle.dbpl_world.specs.Tied.{contents_of}
use Rattle.dbpl_world.specs.InMemory.{mounted_in}
use Rattle.dbpl_world.proofs.Standing.{kept_front, tied_mounted}
use Rattle.dbpl_world.proofs.memory_world.calls.MemoryWorldWorld.mount.Goals as goal

pub invariant_of-self-2-clause-tied : goal.invariant_of-self-2-clause-tied
invariant_of-self-2-clause-tied c =
    let world = c.args.self.now in
    let set_aside : take _ c.set_aside.new.stores.items ≡ world.stores.items = c.set_aside.ensures.kept ∙ c.reserve.ensures.items in
    let same_log : c.replace-log.new.dest.items ≡ c.in-Ok.opened.log.items = ap (λ bytes. bytes.items) c.replace-log.ensures.after in
    let same_pages : c.replace-pages.new.dest.items ≡ c.in-Ok.opened.pages.items = ap (λ bytes. bytes.items) c.replace-pages.ensures.after in
    tied_mounted world.input.items world.stores.items c.set_aside.new.stores.items world.put _ _ c.args.name.now _ _ world.tied
    (c.keep.ensures.events ∙ ap₂ (λ events name. events ++ Mounted name ∷ []) c.reserve-2.ensures.events c.as_bytes-2.ensures.value)
    (kept_front world.put _ world.stores.items c.set_aside.new.stores.items (search rules) set_aside)
    (λ other. rw (c.reserve.ensures.items, c.replace-known.ensures.value, c.replace-log.ensures.value, c.replace-pages.ensures.value) at (c.set_aside.ensures.contents other))
    (ap (contents_of (mounted_in world) (world.log.items, world.pages.items) world.stores.items) (sym c.as_bytes.ensures.value) ∙ c.in-Ok.ensures.parts ∙ ap₂ (λ log pages. (log, pages)) (sym same_log) (sym same_pages))
    (ap (option_map (λ bytes. bytes.items)) c.replace-known.ensures.after ∙ ap Some (c.in-Ok.ensures.name ∙ c.as_bytes.ensures.value))
