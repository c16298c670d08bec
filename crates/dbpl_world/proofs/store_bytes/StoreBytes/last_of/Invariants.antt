use Rattle.std.proofs.Common.{◌≡◌, [], take, MatchOption}
use Rattle.dbpl_world.specs.Tied.{last_contents_of}
use Rattle.dbpl_world.proofs.store_bytes.StoreBytes.last_of.Given as goal

abbrev pub invariant-loop-store : goal.invariant-loop-store
invariant-loop-store l =
    MatchOption l.found (last_contents_of (take l.store-index l.stores) l.name ≡ ([], [])) (λ store. last_contents_of (take l.store-index l.stores) l.name ≡ (store.now.log.items, store.now.pages.items))
